use Rattle.std.proofs.Common.{arith, ◌≡◌, ◌<◌, ℕ, List, length, get_or, ◌∙◌, ap, subst}
use Rattle.ap_min.specs.declared.rows.Arc.{Arc}
use Rattle.ap_min.specs.Rows.{arcs_at, key_at, row_key}
use Rattle.ap_min.specs.Settled.{LeadHome}
use Rattle.ap_min.proofs.RoundStep.{key-from_row}
use Rattle.ap_min.proofs.Settled.{row_arcs, zero_at, settle_more}
use Rattle.ap_min.proofs.settling.settle.Goals as goal

pub returns : goal.returns
returns c =
    let groups : List ℕ = c.args.groups.now.items in
    let in-s : c.args.state < length c.args.rows.now = omega arith in
    let z : get_or groups c.args.state 0 ≡ 0 =
    zero_at groups c.args.state c.index.result.now c.index.ensures c.if-index-gt0.false in
    let home : LeadHome groups (arcs_at c.args.rows.now c.args.state) =
    row_arcs (λ (xs : List Arc). LeadHome groups xs) c.args.rows.now c.args.state
    c.index-rows-state.result in-s c.index-rows-state.is
    (subst (λ (gs : List ℕ). LeadHome gs c.index-rows-state.result.arcs.items)
    c.as_slice.ensures.value (c.is_open.ensures.home c.if-is_open.false)) in
    let is : c.as_slice-3.result.now ≡ key_at groups c.args.rows.now c.args.state =
    key-from_row c.args.rows.now groups c.args.state c.index-rows-state-2.result
    c.as_slice-3.result.now in-s c.index-rows-state-2.is
    (c.as_slice-3.ensures.value ∙ c.in_ok-make_key.ensures
    ∙ ap (λ (gs : List ℕ). row_key gs c.index-rows-state-2.result.is_final
    c.index-rows-state-2.result.arcs.items) c.as_slice-2.ensures.value) in
    settle_more c.args.rows.now c.requires.rows c.args.numbering.now c.number.new.self groups
    c.args.state c.in_ok-group.group c.as_slice-3.result.now c.requires.settled in-s z home
    c.in_ok-group.ensures.numbers c.in_ok-group.ensures.apart is
