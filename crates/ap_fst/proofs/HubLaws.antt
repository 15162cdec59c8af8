-- Hubs: states from which others are reached.
use Rattle.std.proofs.Common.{cond, eqb, ◌≡◌, inl, inr, ℕ, List, [], ◌∷◌, refl, sym, ◌∙◌, subst, arith, Option, Some}
use Rattle.std.proofs.lemmas.Bool.{cases_eq, cond-true, cond-false}
use Rattle.std.proofs.lemmas.Bool.Decides.{nat_tests}
use Rattle.std.proofs.lemmas.Option.{same_Some}
use Rattle.ap_fst.specs.Lists.{IsIn}
use Rattle.ap_fst.specs.Graphs.{arc_from, arcs_at, Reaches, begins, follows}
use Rattle.ap_fst.specs.Hubs.{AreHubs}
use Rattle.ap_fst.specs.declared.graph.Arc.{Arc}
use Rattle.ap_fst.proofs.Listing.{filter_in, IsKept}

pub own_hub : (arcs : List Arc) (s : ℕ) → Reaches arcs (s ∷ []) s
own_hub arcs s = begins (inl refl)

-- the state that an arc enters is reached from the hub of the one that it leaves
pub hub_passed : (arcs : List Arc) (a : Arc) (hub : ℕ) (old new : ℕ → Option ℕ) → IsIn a arcs →
    ((q : ℕ) → new q ≡ cond (eqb a.to q) (Some hub) (old q)) → Reaches arcs (hub ∷ []) a.from →
    AreHubs arcs old → AreHubs arcs new
hub_passed arcs a hub old new i up r h s other at = elim (cases_eq a.to s) [
  | inl e ↦
      let one : hub ≡ other = same_Some hub other
      (sym (up s ∙ cond-true (eqb a.to s) (Some hub) (old s) (grind (arith, nat_tests))) ∙ at) in
      subst (λ (x : ℕ). Reaches arcs (x ∷ []) s) one (follows a r i (sym e))
  | inr d ↦ h s other
      (sym (up s ∙ cond-false (eqb a.to s) (Some hub) (old s) (grind (arith, nat_tests))) ∙ at)
]

-- the arcs of a state are among all
pub arcs_among : (arcs some : List Arc) (s : ℕ) → some ≡ arcs_at arcs s → (a : Arc) → IsIn a some →
    IsIn a arcs
arcs_among arcs some s e a i =
    let k : IsKept (λ b. eqb (arc_from b) s) a arcs =
    filter_in (λ b. eqb (arc_from b) s) a arcs (subst (λ (z : List Arc). IsIn a z) e i) in
    k.listed
