use Rattle.std.specs.Prelude.{◌≡◌, ◌≤◌, ◌↔◌, ℕ, List}
use Rattle.ap_symbol.specs.Alphabet.{IsClosure, is_in_closure}
use Rattle.ap_det.specs.Determinism.{IsDeterministic}
use Rattle.ap_dix.specs.Derivation.{Label as EntryLabel, Strings}
use Rattle.ap_dix.specs.declared.dictionary.Dictionary.{Dictionary}
use Rattle.ap_dix.specs.declared.dictionary.Direction.{Direction}
use Rattle.ap_dix.specs.declared.dictionary.Direction.TheVariants.{Lr, Rl}
use Rattle.ap_dix.specs.declared.dictionary.Kind.{Kind}
use Rattle.ap_dix.specs.declared.dictionary.Kind.TheVariants.{Standard, Inconditional, Postblank, Preblank}
use Rattle.ap_fst.specs.Machines.{Machine, IsMachine}
use Rattle.ap_fst.specs.Sections.{Parts, IsCompiled}
use Rattle.ap_fst.specs.Walks.{AcceptsLabels}
use Rattle.ap_fst.specs.declared.compiled.Way.{Way}
use Rattle.ap_fst.specs.declared.compiled.Way.TheVariants as told
use Rattle.ap_fst.specs.declared.label.Label.{Label}
use Rattle.ap_min.specs.Canonical.{IsCanonical}
use Rattle.ap_compile.specs.Labels.{derived_labels}

-- The transducer accepts exactly the label strings that the kept entries of the sections of that
-- kind derive.
abbrev pub AcceptsStrings : Dictionary → Direction → Kind → Machine → Type 0
AcceptsStrings d direction kind m = (w : List Label) →
    AcceptsLabels m w ↔ Strings d direction kind (derived_labels w)

-- At most one edge with a label leaves each state of each section.
pub record AreDeterministic (c : Parts) : Type 0 where
  pub standard_one : IsDeterministic c.standard
  pub inconditional_one : IsDeterministic c.inconditional
  pub postblank_one : IsDeterministic c.postblank
  pub preblank_one : IsDeterministic c.preblank

-- Each section is the canonical transducer of its label strings.
pub record AreCanonical (c : Parts) : Type 0 where
  pub standard_canonical : IsCanonical c.standard
  pub inconditional_canonical : IsCanonical c.inconditional
  pub postblank_canonical : IsCanonical c.postblank
  pub preblank_canonical : IsCanonical c.preblank

-- the direction, as a compiled dictionary tells it
abbrev pub way_of : Direction → Way
way_of Lr = told.Lr
way_of Rl = told.Rl

-- A compiled dictionary of these sections, with the alphabet closed under case partners and the
-- direction told. Its sections are trimmed, have no empty cycle and no empty side, and at most one
-- edge per state and label; and they are canonical.
pub record IsCompiledFrom (d : Dictionary) (direction : Direction) (c : Parts) : Type 0 where
  pub alphabet : IsClosure d.alphabet c.alphabet
  pub way : c.way ≡ way_of direction
  pub standard : AcceptsStrings d direction Standard c.standard
  pub inconditional : AcceptsStrings d direction Inconditional c.inconditional
  pub postblank : AcceptsStrings d direction Postblank c.postblank
  pub preblank : AcceptsStrings d direction Preblank c.preblank
  pub sound : IsCompiled c
  pub one : AreDeterministic c
  pub canonical : AreCanonical c

-- The dictionaries derive the same label strings in each kind of section.
abbrev pub HaveSameStrings : Dictionary → Dictionary → Direction → Type 0
HaveSameStrings d e direction = (kind : Kind) (labels : List EntryLabel) →
    Strings d direction kind labels ↔ Strings e direction kind labels

-- The alphabets have one closure under case partners.
abbrev pub HaveOneClosure : List ℕ → List ℕ → Type 0
HaveOneClosure a b = (c : ℕ) → is_in_closure a c ≡ is_in_closure b c

-- No transducer with at most one edge per state and label that accepts the strings of that kind has
-- fewer states.
abbrev pub IsLeast : Dictionary → Direction → Kind → Machine → Type 0
IsLeast d direction kind m = (other : Machine) → IsMachine other → IsDeterministic other →
    AcceptsStrings d direction kind other → m.states ≤ other.states

pub record AreLeast (d : Dictionary) (direction : Direction) (c : Parts) : Type 0 where
  pub standard_least : IsLeast d direction Standard c.standard
  pub inconditional_least : IsLeast d direction Inconditional c.inconditional
  pub postblank_least : IsLeast d direction Postblank c.postblank
  pub preblank_least : IsLeast d direction Preblank c.preblank
