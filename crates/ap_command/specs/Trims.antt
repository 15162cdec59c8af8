-- When the files of `trim` say the same, and what is then least.
use Rattle.std.specs.Prelude.{◌≡◌, ◌↔◌, ℕ, List}
use Rattle.ap_dix.specs.declared.dictionary.Direction.TheVariants.{Lr}
use Rattle.ap_dix.specs.Derivation.{Strings}
use Rattle.ap_fst.specs.Sections.{Parts, IsCompiled, section_of}
use Rattle.ap_fst.specs.Walks.{AcceptsLabels}
use Rattle.ap_fst.specs.declared.compiled.Kind2.{Kind2}
use Rattle.ap_fst.specs.declared.compiled.Way.{Way}
use Rattle.ap_fst.specs.declared.compiled.Way.TheVariants as told
use Rattle.ap_fst.specs.declared.label.Label.{Label}
use Rattle.ap_compile.specs.Labels.{derived_labels}
use Rattle.ap_live.specs.Relations.{AreSameRelations}
use Rattle.ap_trim.specs.Trimming.{IsLeastFor}
use Rattle.ap_command.specs.Gives.{IsLeftOf}
use Rattle.ap_command.specs.Output.{kind_of, letters_of, relation}
use Rattle.ap_command.specs.Said.{Said, Entries, Sections, Rules, Pairs}

-- the label strings of a file, in each kind of section: those that the entries of a dictionary
-- derive from left to right, or those that the sections of a compiled one accept
abbrev pub label_strings : Said → Kind2 → List Label → Type 0
label_strings (Entries d) kind labels = Strings d Lr (kind_of kind) (derived_labels labels)
label_strings (Sections p) kind labels = AcceptsLabels (section_of p kind) labels
label_strings (Rules r) kind labels = ⊥
label_strings (Pairs ps) kind labels = ⊥

-- the direction that is told of what is made of it
abbrev pub way_told : Said → Way
way_told (Entries d) = told.Lr
way_told (Sections p) = p.way
way_told (Rules r) = told.Untold
way_told (Pairs ps) = told.Untold

-- A compiled file is sound, as each is that the program reads.
abbrev pub IsSoundFile : Said → Type 0
IsSoundFile (Entries d) = Unit {0}
IsSoundFile (Sections p) = IsCompiled p
IsSoundFile (Rules r) = Unit {0}
IsSoundFile (Pairs ps) = Unit {0}

-- Two files say one analyser: they have the same label strings in each kind, letters that are the
-- same once alphabets are closed under case partners, and one direction.
pub record SayOneAnalyser (mono other : Said) : Type 0 where
  pub sound : IsSoundFile mono
  pub other_sound : IsSoundFile other
  pub letters : (c : ℕ) → letters_of mono c ≡ letters_of other c
  pub way : way_told mono ≡ way_told other
  pub strings : (kind : Kind2) (labels : List Label) →
      label_strings mono kind labels ↔ label_strings other kind labels

-- two files relate the same words from left to right
pub record SayOneRelation (bilingual second : Said) : Type 0 where
  pub sound : IsSoundFile bilingual
  pub second_sound : IsSoundFile second
  pub same : AreSameRelations (relation Lr bilingual) (relation Lr second)

-- It is what is left of the analyser, and no transducer with at most one edge per state and label
-- that accepts what is left of a kind of section has fewer states.
pub record IsLeastLeftOf (mono bilingual : Said) (made : Parts) : Type 0 where
  pub left : IsLeftOf mono bilingual made
  pub least : (kind : Kind2) → IsLeastFor left.analyser left.dictionary kind (section_of made kind)
