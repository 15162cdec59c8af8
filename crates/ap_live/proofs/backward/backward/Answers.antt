use Rattle.std.proofs.Common.{◌≡◌, ◌+◌, ap, ◌∙◌, sym, subst, List, ◌∷◌, [], arith, false, length}
use Rattle.std.proofs.lemmas.List.{length-append}
use Rattle.ap_live.specs.Tails.{IsBack}
use Rattle.ap_live.specs.declared.items.Item.{Item}
use Rattle.ap_live.proofs.Backing.{none_taken, one_taken, all_taken}
use Rattle.ap_live.proofs.backward.backward.Goals as goal

pub loop-item-init : goal.loop-item-init
loop-item-init c = none_taken _ _ _ _

pub loop-item-preserved : goal.loop-item-preserved
loop-item-preserved c = one_taken c.args.fst.now.edges c.args.links.now c.args.items.now
    c.loop-item.items c.pop.new.self c.args.found.now c.loop-item.found c.move_before.new.found
    c.in-Some.item
    (c.pop.ensures.some c.in-Some.item c.in-Some.is) c.loop-item.invariant
    c.in_ok-move_before.ensures

pub loop-item-smaller : goal.loop-item-smaller
loop-item-smaller c =
    let one : length c.loop-item.items ≡ length c.pop.new.self + 1 =
    ap (length {A = Item}) (c.pop.ensures.some c.in-Some.item c.in-Some.is)
    ∙ length-append c.pop.new.self (c.in-Some.item ∷ []) in
    omega arith

pub returns-clause-back : goal.returns-clause-back
returns-clause-back c = subst (λ (z : List Item). IsBack c.args.fst.now.edges false c.args.links.now
    c.args.items.now z) (sym c.swap.ensures.x_after)
    (all_taken c.args.fst.now.edges c.args.links.now c.args.items.now c.loop-item.items
    c.args.found.now c.loop-item.found (c.pop.ensures.none c.in_default.is).0 c.requires.none
    c.loop-item.invariant)

pub returns-clause-none : goal.returns-clause-none
returns-clause-none c = c.swap.ensures.y_after ∙ (c.pop.ensures.none c.in_default.is).1
