use Rattle.std.proofs.Common.{inl, inr, ◌∙◌, ap, subst, sym, ℕ, List, [], ◌∷◌, ◌++◌, take, arith}
use Rattle.std.proofs.lemmas.List.{take_more, take_all}
use Rattle.ap_fst.specs.Lists.{IsIn}
use Rattle.ap_fst.specs.declared.label.Edge.{Edge}
use Rattle.ap_fst.proofs.Listing.{in_either}
use Rattle.ap_live.specs.Readable.{IsCodedSide}
use Rattle.ap_live.proofs.readable.sides_are_coded.Goals as goal

pub loop-edge-preserved : goal.loop-edge-preserved
loop-edge-preserved c = λ e i.
    let xs : List Edge = c.args.edges.now in
    let at : ℕ = c.loop-edge.edge-index in
    let x : Edge = c.edge-item.result in
    elim (in_either e (take at xs) (x ∷ [])
    (subst (λ (z : List Edge). IsIn e z) (take_more xs at x c.loop-edge-test.true
    ∙ ap (λ y. take at xs ++ y ∷ []) (sym c.edge-item.is)) i)) [
      | inl k ↦ c.loop-edge.invariant e k
      | inr k ↦ elim k [
        | inl f ↦ subst (λ (z : Edge). IsCodedSide z.label.right) (sym f) c.side_is_coded.ensures
        | inr n ↦ elim n [ ]
      ]
    ]

pub returns : goal.returns
returns c = λ e i. c.loop-edge.invariant e
    (subst (λ (z : List Edge). IsIn e z)
    (sym (take_all c.loop-edge.edge-index c.args.edges.now (omega arith))) i)
