use Rattle.std.proofs.Common.{inl, inr, ◌∙◌, ap, subst, sym, ℕ, List, [], ◌∷◌, ◌++◌, take, rules, IsTrue, nat_eq}
use Rattle.std.proofs.lemmas.List.{take_more}
use Rattle.indexmap.specs.IndexMap.{get}
use Rattle.ap_fst.specs.Lists.{IsIn}
use Rattle.ap_fst.specs.Silence.{is_silent, KeepsUp}
use Rattle.ap_fst.specs.declared.label.Edge.{Edge}
use Rattle.ap_fst.proofs.Listing.{in_either}
use Rattle.ap_fst.proofs.cycles.all_keep_up.Goals as goal

pub loop-edge-preserved : goal.loop-edge-preserved
loop-edge-preserved c = λ e i h.
    let xs : List Edge = c.args.edges.now in
    let at : ℕ = c.loop-edge.edge-index in
    let x : Edge = c.edge-item.result in
    let fits : IsTrue c.edge_keeps_up.result = search rules in
    elim (in_either e (take at xs) (x ∷ [])
    (subst (λ (z : List Edge). IsIn e z) (take_more xs at x c.loop-edge-test.true
    ∙ ap (λ y. take at xs ++ y ∷ []) (sym c.edge-item.is)) i)) [
      | inl k ↦ c.loop-edge.invariant e k h
      | inr k ↦ elim k [
        | inl f ↦
            subst (λ (z : Edge). KeepsUp (get nat_eq c.args.numbers.now) z) (sym f)
            (c.edge_keeps_up.ensures fits (ap is_silent (sym f) ∙ h))
        | inr n ↦ elim n [ ]
      ]
    ]
