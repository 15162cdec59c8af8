-- Of the inside: no public contract stands on this file.
-- What of a word a transducer reads, where a small letter fits its capital too.
use Rattle.std.specs.Prelude.{◌≡◌, ◌↔◌, ℕ, false, IsTrue, List, Option, Some, None}
use Rattle.ap_symbol.specs.Fitting.{fits_lem, lists_fit}
use Rattle.ap_symbol.specs.declared.symbol.Symbol.{Symbol}
use Rattle.ap_fst.specs.Lists.{IsIn}
use Rattle.ap_fst.specs.Machines.{Machine}
use Rattle.ap_fst.specs.Sections.{Parts, section_of}
use Rattle.ap_fst.specs.Sides.{left_word}
use Rattle.ap_fst.specs.Walks.{Walk, AcceptsLabels}
use Rattle.ap_fst.specs.declared.compiled.Kind2.{Kind2}
use Rattle.ap_fst.specs.declared.label.Label.{Label}
use Rattle.ap_fst.specs.declared.label.Edge.{Edge}

-- labels whose left word fits the word lead from the start to the state
pub record Reads (m : Machine) (word : List Symbol) (state : ℕ) : Type 0 where
  pub labels : List Label
  pub walk : Walk m.edges 0 labels state
  pub fit : IsTrue (lists_fit false (left_word labels) word)

-- labels whose left word fits the word are accepted
pub record ReadsWhole (m : Machine) (word : List Symbol) : Type 0 where
  pub labels : List Label
  pub accepted : AcceptsLabels m labels
  pub fit : IsTrue (lists_fit false (left_word labels) word)

-- exactly the states that read the word
abbrev pub AreRead : Machine → List Symbol → List ℕ → Type 0
AreRead m word set = (state : ℕ) → IsIn state set ↔ Reads m word state

-- an edge from the state with this left side leads to another
pub record LeavesBy (m : Machine) (state : ℕ) (left : Option Symbol) (target : ℕ) : Type 0 where
  pub edge : Edge
  pub listed : IsIn edge m.edges
  pub from_is : edge.from ≡ state
  pub left_is : edge.label.left ≡ left
  pub to_is : target ≡ edge.to

-- an edge from the state with a left side that fits the symbol leads to another
pub record FitsFrom (m : Machine) (symbol : Symbol) (state target : ℕ) : Type 0 where
  pub side : Symbol
  pub fit : IsTrue (fits_lem false side symbol)
  pub leaves : LeavesBy m state (Some side) target

-- the same from one of these states
pub record FitsTo (m : Machine) (set : List ℕ) (symbol : Symbol) (target : ℕ) : Type 0 where
  pub state : ℕ
  pub listed : IsIn state set
  pub fits : FitsFrom m symbol state target

-- reached from these states over edges with an empty left side
pub data Quietly (m : Machine) (set : List ℕ) : ℕ → Type 0 where
  given : {state : ℕ} → IsIn state set → Quietly m set state
  onward : {state : ℕ} (before : ℕ) → Quietly m set before → LeavesBy m before None state →
      Quietly m set state

-- the transducer accepts what the sections of a compiled dictionary accept, of whatever kind
pub record AcceptsAny (p : Parts) (labels : List Label) : Type 0 where
  pub kind : Kind2
  pub accepted : AcceptsLabels (section_of p kind) labels

abbrev pub IsUnion : Parts → Machine → Type 0
IsUnion p m = (labels : List Label) → AcceptsLabels m labels ↔ AcceptsAny p labels
