use Rattle.std.proofs.Common.{◌≡◌, inl, inr, ◌∙◌, ap, subst, arith, rules, IsTrue, List, get_or, nat_eq}
use Rattle.std.proofs.lemmas.Bool.{cases_lt}
use Rattle.std.proofs.lemmas.Option.{get_or_from_slice_get}
use Rattle.indexmap.specs.IndexMap.{get}
use Rattle.ap_fst.specs.Silence.{is_silent, Rises}
use Rattle.ap_fst.specs.declared.label.Edge.{Edge}
use Rattle.ap_fst.proofs.cycles.first_level.Goals as goal

pub loop-at-init : goal.loop-at-init
loop-at-init c = λ i e lt at h. absurd (omega arith)

pub loop-at-preserved : goal.loop-at-preserved
loop-at-preserved c = λ i e lt there h.
    let xs : List Edge = c.args.edges.now in
    let x : Edge = c.index-edges-at.result in
    elim (cases_lt i c.loop-at.at) [
      | inl below ↦ c.loop-at.invariant i e below there h
      | inr le ↦
          let same : c.loop-at.at ≡ i = omega arith in
          let one : x ≡ e = c.index-edges-at.is ∙ ap (λ k. get_or xs k x) same
          ∙ get_or_from_slice_get xs i e x there in
          let fits : IsTrue c.edge_rises.result = search rules in
          subst (λ (z : Edge). Rises (get nat_eq c.args.numbers.now) z) one
          (c.edge_rises.ensures fits (ap is_silent one ∙ h))
    ]
