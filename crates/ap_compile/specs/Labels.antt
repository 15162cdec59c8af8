use Rattle.std.specs.Prelude.{IsTrue, ℕ, List, map, slice_get}
use Rattle.std.specs.List.{list_all}
use Rattle.ap_symbol.specs.Words.{AreProper}
use Rattle.ap_symbol.specs.declared.symbol.Symbol.{Symbol}
use Rattle.ap_dix.specs.Derivation.{Label as EntryLabel}
use Rattle.ap_dix.specs.Soundness.{is_entry_symbol}
use Rattle.ap_fst.specs.Sections.{is_plain_label}
use Rattle.ap_fst.specs.declared.label.Label.{Label}

-- a transducer's label as a label that entries derive: the same two sides
abbrev pub derived_label : Label → EntryLabel
derived_label l = record { left = l.left; right = l.right }

-- the labels of a transducer's label string as labels that entries derive
abbrev pub derived_labels : List Label → List EntryLabel
derived_labels labels = map derived_label labels

-- the symbols of two words at a place
abbrev pub label_of : List Symbol → List Symbol → ℕ → Label
label_of left right at = record { left = slice_get left at; right = slice_get right at }

-- each label has plain sides
abbrev pub ArePlain : List Label → Type 0
ArePlain labels = IsTrue (list_all is_plain_label labels)

-- a word as a sound dictionary holds it
pub record IsEntryWord (word : List Symbol) : Type 0 where
  pub proper : AreProper word
  pub symbols : IsTrue (list_all is_entry_symbol word)
