-- What is left of an analyser is one value.
use Rattle.std.proofs.Common.{◌≡◌, ◌≤◌, List, sym, ◌∙◌}
use Rattle.std.specs.Prelude.{◌↔◌}
use Rattle.ap_fst.specs.Machines.{Machine, IsMachine}
use Rattle.ap_fst.specs.Sections.{Parts, section_of}
use Rattle.ap_fst.specs.Walks.{AcceptsLabels}
use Rattle.ap_fst.specs.declared.compiled.Kind2.{Kind2}
use Rattle.ap_fst.specs.declared.compiled.Kind2.TheVariants.{Standard, Inconditional, Postblank, Preblank}
use Rattle.ap_fst.specs.declared.label.Label.{Label}
use Rattle.ap_det.specs.Determinism.{IsDeterministic}
use Rattle.ap_min.specs.Canonical.{IsCanonical}
use Rattle.ap_trim.specs.Trimming.{IsTrimmedBy, IsLeastFor}

abbrev pub One : Type 0
One = (a b : Machine) → IsCanonical a → IsCanonical b →
    ((labels : List Label) → AcceptsLabels a labels ↔ AcceptsLabels b labels) → a ≡ b

module _ (law : One) (mono bilingual a b : Parts) (f : IsTrimmedBy mono bilingual a)
    (g : IsTrimmedBy mono bilingual b) where
  same_section : (kind : Kind2) → section_of a kind ≡ section_of b kind
  same_section kind = law (section_of a kind) (section_of b kind) (f.canonical kind)
      (g.canonical kind) (λ w. (
        λ h. (g.exactly kind w).1 ((f.exactly kind w).0 h),
        λ h. (f.exactly kind w).1 ((g.exactly kind w).0 h),
      ))

  pub one_trimmed : a ≡ b
  one_trimmed =
      let alphabet : a.alphabet ≡ b.alphabet = f.alphabet ∙ sym g.alphabet in
      let way : a.way ≡ b.way = f.way ∙ sym g.way in
      let standard : a.standard ≡ b.standard = same_section Standard in
      let inconditional : a.inconditional ≡ b.inconditional = same_section Inconditional in
      let postblank : a.postblank ≡ b.postblank = same_section Postblank in
      let preblank : a.preblank ≡ b.preblank = same_section Preblank in
      λ i. record {
        alphabet = alphabet i;
        way = way i;
        standard = standard i;
        inconditional =
            inconditional i;
        postblank = postblank i;
        preblank = preblank i;
      }

abbrev pub Least : Type 0
Least = (a b : Machine) → IsCanonical a → IsMachine b → IsDeterministic b →
    ((labels : List Label) → AcceptsLabels a labels ↔ AcceptsLabels b labels) → a.states ≤ b.states

pub least_trimmed : Least → (mono bilingual made : Parts) (kind : Kind2) →
    IsTrimmedBy mono bilingual made → IsLeastFor mono bilingual kind (section_of made kind)
least_trimmed law mono bilingual made kind f other sound one same =
    law (section_of made kind) other (f.canonical kind) sound one (λ w. (
      λ a. (same w).1 ((f.exactly kind w).0 a),
      λ a. (f.exactly kind w).1 ((same w).0 a),
    ))
