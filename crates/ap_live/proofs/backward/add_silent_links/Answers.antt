use Rattle.std.proofs.Common.{get_or, refl, subst, List, ◌∷◌, [], true, arith}
use Rattle.std.proofs.lemmas.List.{take_all}
use Rattle.ap_live.specs.Spreads.{arrival}
use Rattle.ap_live.specs.Tails.{AddsBack}
use Rattle.ap_live.specs.declared.arrivals.Arrival.{Arrival}
use Rattle.ap_live.proofs.Backing.{adds_link, adds_no_link, stays}
use Rattle.ap_live.proofs.backward.add_silent_links.Goals as goal

pub loop-link-init : goal.loop-link-init
loop-link-init c = λ item there. adds_no_link _ _ _ _

pub loop-link-preserved : goal.loop-link-preserved
loop-link-preserved c = λ item there.
    let h = c.loop-link.invariant item there in
    adds_link c.args.fst.now.edges true c.args.links.now (item ∷ []) c.loop-link.link-index
    (get_or c.args.links.now c.loop-link.link-index (arrival 0 0)) (arrival 0 0)
    c.args.items.now
    c.loop-link.items c.add_silent_link.new.items c.loop-link-test.true refl h
    (c.in_ok-add_silent_link.ensures item
    (stays c.args.items.now c.loop-link.items h.more c.args.at item h.grown there))

pub returns : goal.returns
returns c = λ item there.
    subst (λ (z : List Arrival). AddsBack c.args.fst.now.edges true z (item ∷ []) c.args.items.now
    c.loop-link.items) (take_all c.loop-link.link-index c.args.links.now (omega arith))
    (c.loop-link.invariant item there)
