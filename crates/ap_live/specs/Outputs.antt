use Rattle.std.specs.Prelude.{◌≡◌, Bool, true, List, IsTrue, Option, Some, None, take, length}
use Rattle.ap_symbol.specs.Words.{is_word_symbol, is_proper}
use Rattle.ap_symbol.specs.declared.symbol.Symbol.{Symbol}
use Rattle.ap_fst.specs.Lists.{IsIn}
use Rattle.ap_fst.specs.Machines.{Machine}
use Rattle.ap_fst.specs.Walks.{AcceptsLabels}
use Rattle.ap_fst.specs.Sides.{left_word, right_word}
use Rattle.ap_fst.specs.declared.label.Label.{Label}
use Rattle.ap_fst.specs.declared.label.Edge.{Edge}
use Rattle.ap_live.specs.Fitting.{Input, fits_inputs}

-- an output of these inputs: the right word of an accepted label list whose left word fits them
pub record IsOutput (m : Machine) (seen : List Input) (output : List Symbol) : Type 0 where
  pub labels : List Label
  pub accepted : AcceptsLabels m labels
  pub fit : IsTrue (fits_inputs (left_word labels) seen)
  pub is : output ≡ right_word labels

-- The inputs fit a beginning of the left word of an accepted label list.
pub record FitBeginning (m : Machine) (seen : List Input) : Type 0 where
  pub labels : List Label
  pub accepted : AcceptsLabels m labels
  pub fit : IsTrue (fits_inputs (take (length seen) (left_word labels)) seen)

-- the side has no symbol, or one that a word may hold, which a white-space letter is not
abbrev pub is_word_side : Option Symbol → Bool
is_word_side None = true
is_word_side (Some x) = is_word_symbol x

-- no label has a white-space letter on its right side
abbrev pub WritesWords : Machine → Type 0
WritesWords m = (e : Edge) → IsIn e m.edges → IsTrue (is_word_side e.label.right)

-- the side has no symbol, or a proper one: one that a word may hold, and where it is a tag, with
-- the name of a tag
abbrev pub is_proper_side : Option Symbol → Bool
is_proper_side None = true
is_proper_side (Some x) = is_proper x

-- Each right side is proper. So is each of a transducer of the program that writes words.
abbrev pub WritesProper : Machine → Type 0
WritesProper m = (e : Edge) → IsIn e m.edges → IsTrue (is_proper_side e.label.right)
