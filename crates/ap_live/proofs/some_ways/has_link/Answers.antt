use Rattle.std.proofs.Common.{◌≡◌, ◌==◌, ◌∙◌, List, ap, get_or, subst, ℕ}
use Rattle.ap_fst.specs.Lists.{IsIn}
use Rattle.ap_fst.proofs.Listing.{IsKept, filter_in, in_at}
use Rattle.ap_live.specs.Spreads.{arrival, arrival_to}
use Rattle.ap_live.specs.declared.arrivals.Arrival.{Arrival}
use Rattle.ap_live.proofs.some_ways.has_link.Goals as goal

pub returns-then-link-state : goal.returns-then-link-state
returns-then-link-state c = λ t.
    let links : List Arrival = c.arrivals_at-link-items.result.now in
    let x : Arrival = get_or links c.loop-link.link-index (record { to = 0; edge = 0 }) in
    let listed : IsIn x links =
    in_at links c.loop-link.link-index (record { to = 0; edge = 0 }) c.loop-link-test.true in
    let kept : IsKept (λ a. arrival_to a == c.args.state) x c.args.links.now =
    filter_in (λ a. arrival_to a == c.args.state) x c.args.links.now
    (subst (λ (z : List Arrival). IsIn x z) c.arrivals_at-link-items.ensures listed) in
    let same : x ≡ arrival c.args.state c.args.place =
    ap (λ (s : ℕ). arrival s x.edge) c.if-link-state.true
    ∙ ap (arrival c.args.state) c.if-link-place.true in
    subst (λ (z : Arrival). IsIn z c.args.links.now) same kept.listed
