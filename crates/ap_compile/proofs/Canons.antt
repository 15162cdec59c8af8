-- Sections that are canonical for the strings of a dictionary: one, and least.
use Rattle.std.proofs.Common.{◌≡◌, ◌≤◌, List, sym, ◌∙◌}
use Rattle.std.specs.Prelude.{◌↔◌}
use Rattle.ap_dix.specs.declared.dictionary.Dictionary.{Dictionary}
use Rattle.ap_dix.specs.declared.dictionary.Direction.{Direction}
use Rattle.ap_dix.specs.declared.dictionary.Kind.{Kind}
use Rattle.ap_dix.specs.declared.dictionary.Kind.TheVariants.{Standard, Inconditional, Postblank, Preblank}
use Rattle.ap_fst.specs.Machines.{Machine, IsMachine}
use Rattle.ap_fst.specs.Sections.{Parts}
use Rattle.ap_fst.specs.Walks.{AcceptsLabels}
use Rattle.ap_fst.specs.declared.label.Label.{Label}
use Rattle.ap_det.specs.Determinism.{IsDeterministic}
use Rattle.ap_min.specs.Canonical.{IsCanonical}
use Rattle.ap_min.proofs.MachineLaws.{same_letters}
use Rattle.ap_compile.specs.Labels.{derived_labels}
use Rattle.ap_compile.specs.Compiling.{AcceptsStrings, IsCompiledFrom, HaveSameStrings, HaveOneClosure, IsLeast, AreLeast}

abbrev One : Type 0
One = (a b : Machine) → IsCanonical a → IsCanonical b →
    ((labels : List Label) → AcceptsLabels a labels ↔ AcceptsLabels b labels) → a ≡ b

abbrev Least : Type 0
Least = (a b : Machine) → IsCanonical a → IsMachine b → IsDeterministic b →
    ((labels : List Label) → AcceptsLabels a labels ↔ AcceptsLabels b labels) → a.states ≤ b.states

same_section : One → (d e : Dictionary) (direction : Direction) (kind : Kind) (m n : Machine) →
    IsCanonical m → IsCanonical n → AcceptsStrings d direction kind m →
    AcceptsStrings e direction kind n → HaveSameStrings d e direction → m ≡ n
same_section law d e direction kind m n c k f g same =
    law m n c k (λ w. (
      (λ a. (g w).1 ((same kind (derived_labels w)).0 ((f w).0 a))),
      (λ a. (f w).1 ((same kind (derived_labels w)).1 ((g w).0 a))),
    ))

pub one_compiled : One → (d e : Dictionary) (direction : Direction) (a b : Parts) →
    IsCompiledFrom d direction a → IsCompiledFrom e direction b → HaveSameStrings d e direction →
    HaveOneClosure d.alphabet e.alphabet → a ≡ b
one_compiled law d e direction a b f g same closure =
    let alphabet : a.alphabet ≡ b.alphabet =
    same_letters a.alphabet b.alphabet f.sound.letters.ascend g.sound.letters.ascend
    (λ c. f.alphabet c ∙ closure c ∙ sym (g.alphabet c)) in
    let way : a.way ≡ b.way = f.way ∙ sym g.way in
    let standard : a.standard ≡ b.standard =
    same_section law d e direction Standard a.standard b.standard f.canonical.standard_canonical
    g.canonical.standard_canonical f.standard g.standard same in
    let inconditional : a.inconditional ≡ b.inconditional =
    same_section law d e direction Inconditional a.inconditional b.inconditional
    f.canonical.inconditional_canonical g.canonical.inconditional_canonical f.inconditional
    g.inconditional same in
    let postblank : a.postblank ≡ b.postblank =
    same_section law d e direction Postblank a.postblank b.postblank
    f.canonical.postblank_canonical g.canonical.postblank_canonical f.postblank
    g.postblank same in
    let preblank : a.preblank ≡ b.preblank =
    same_section law d e direction Preblank a.preblank b.preblank f.canonical.preblank_canonical
    g.canonical.preblank_canonical f.preblank g.preblank same in
    λ i. record {
      alphabet = alphabet i;
      way = way i;
      standard = standard i;
      inconditional =
          inconditional i;
      postblank = postblank i;
      preblank = preblank i;
    }

least_section : Least → (d : Dictionary) (direction : Direction) (kind : Kind) (m : Machine) →
    IsCanonical m → AcceptsStrings d direction kind m → IsLeast d direction kind m
least_section law d direction kind m c f other sound one g =
    law m other c sound one (λ w. ((λ a. (g w).1 ((f w).0 a)), (λ a. (f w).1 ((g w).0 a))))

pub least_compiled : Least → (d : Dictionary) (direction : Direction) (c : Parts) →
    IsCompiledFrom d direction c → AreLeast d direction c
least_compiled law d direction c f = record {
  standard_least = least_section law d direction Standard c.standard
      f.canonical.standard_canonical f.standard;
  inconditional_least = least_section law d direction Inconditional c.inconditional
      f.canonical.inconditional_canonical f.inconditional;
  postblank_least = least_section law d direction Postblank c.postblank
      f.canonical.postblank_canonical f.postblank;
  preblank_least = least_section law d direction Preblank c.preblank
      f.canonical.preblank_canonical f.preblank;
}
