use Rattle.std.proofs.Common.{◌≡◌, List, subst}
use Rattle.std.specs.Prelude.{◌↔◌}
use Rattle.ap_dix.specs.Derivation.{Label as EntryLabel, Strings}
use Rattle.ap_dix.specs.declared.dictionary.Dictionary.{Dictionary}
use Rattle.ap_dix.specs.declared.dictionary.Direction.{Direction}
use Rattle.ap_dix.specs.declared.dictionary.Kind.{Kind}
use Rattle.ap_dix.specs.declared.dictionary.Section.{Section}
use Rattle.ap_fst.specs.Machines.{Machine}
use Rattle.ap_fst.specs.Paths.{Accepts}
use Rattle.ap_fst.specs.Sketches.{Sketch}
use Rattle.ap_fst.specs.Walks.{AcceptsLabels}
use Rattle.ap_fst.specs.declared.label.Label.{Label}
use Rattle.ap_compile.specs.Labels.{derived_labels}
use Rattle.ap_compile.specs.Drafts.{IsDraftOf, Any, SpellsIn}

string_of : (d : Dictionary) (direction : Direction) (kind : Kind) (labels : List EntryLabel) →
    Any (SpellsIn d direction kind) d.sections labels → Strings d direction kind labels
string_of d direction kind labels s =
    record {
      section = s.item;
      entry = s.holds.spells.item;
      listed = s.listed;
      of_kind =
          s.holds.of_kind;
      entered = s.holds.spells.listed;
      kept = s.holds.spells.holds.kept;
      derived =
          s.holds.spells.holds.derived;
    }

any_string : (d : Dictionary) (direction : Direction) (kind : Kind) (labels : List EntryLabel) →
    Strings d direction kind labels → Any (SpellsIn d direction kind) d.sections labels
any_string d direction kind labels s =
    record {
      item = s.section;
      listed = s.listed;
      holds =
          record {
            of_kind = s.of_kind;
            spells =
                record {
                  item = s.entry;
                  listed = s.entered;
                  holds =
                      record { kept = s.kept; derived = s.derived };
                };
          };
    }

pub section_strings : (d : Dictionary) (direction : Direction) (kind : Kind)
    (sections : List Section) (draft : Sketch) (m : Machine) → sections ≡ d.sections →
    IsDraftOf (Any (SpellsIn d direction kind) sections) draft
    → ((w : List Label) → AcceptsLabels m w ↔ Accepts draft w) → (w : List Label) →
    AcceptsLabels m w ↔ Strings d direction kind (derived_labels w)
section_strings d direction kind sections draft m e h same w =
    let k : IsDraftOf (Any (SpellsIn d direction kind) d.sections) draft =
    subst (λ (xs : List Section). IsDraftOf (Any (SpellsIn d direction kind) xs) draft) e h in (
      (λ a. string_of d direction kind (derived_labels w) ((k.exact w).0 ((same w).0 a))),
      (λ s. (same w).1 ((k.exact w).1 (any_string d direction kind (derived_labels w) s))),
    )

-- what a transducer accepts of a draft stays the same in one that is made from it
pub still : (draft : Sketch) (old new : Machine) →
    ((w : List Label) → AcceptsLabels new w ↔ AcceptsLabels old w) →
    ((w : List Label) → AcceptsLabels old w ↔ Accepts draft w) → (w : List Label) →
    AcceptsLabels new w ↔ Accepts draft w
still draft old new f g w = ((λ a. (g w).0 ((f w).0 a)), (λ a. (f w).1 ((g w).1 a)))

-- and in a draft of it
pub again : (old new : Sketch) (m : Machine) →
    ((w : List Label) → Accepts new w ↔ AcceptsLabels m w) →
    ((w : List Label) → AcceptsLabels m w ↔ Accepts old w) → (w : List Label) →
    Accepts new w ↔ Accepts old w
again old new m f g w = ((λ a. (g w).0 ((f w).0 a)), (λ a. (f w).1 ((g w).1 a)))

-- another draft that accepts the same
pub draft_of_same : (P : List EntryLabel → Type 0) (old new : Sketch) →
    ((w : List Label) → Accepts new w ↔ Accepts old w) → IsDraftOf P old → IsDraftOf P new
draft_of_same P old new same h = record {
  exact = λ w. ((λ a. (h.exact w).0 ((same w).0 a)), (λ p. (same w).1 ((h.exact w).1 p)));
  plain = λ w a. h.plain w ((same w).0 a);
}
