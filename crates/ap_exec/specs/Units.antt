-- What the parts of a rule are read from.
use Rattle.std.specs.Prelude.{ℕ, List, [], Option, Some, None, slice_get}
use Rattle.ap_symbol.specs.declared.symbol.Symbol.{Symbol}
use Rattle.ap_rules.specs.declared.attribute.AttrItem.{AttrItem}
use Rattle.ap_rules.specs.declared.rules.DefList.{DefList}
use Rattle.ap_rules.specs.declared.rules.Form.{Form}
use Rattle.ap_stream.specs.declared.item.Inner.{Inner}

-- A unit: in transfer the unit itself and its target, whose head ends at the border; in interchunk
-- a chunk's name and its content; in postchunk a word, or the chunk's name.
pub record Shown : Type 0 where
  pub source : List Symbol
  pub target : List Symbol
  pub border : ℕ
  pub content : List Inner

-- the number of the unit at each position, where there is one
abbrev pub Positions : Type 0
Positions = List (Option ℕ)

-- What the rules define, which unit stands at each position, the units by number, and what the
-- variables hold.
pub record Sight : Type 0 where
  pub form : Form
  pub attributes : List (List AttrItem)
  pub lists : List DefList
  pub positions : Positions
  pub units : List Shown
  pub vars : List (List Symbol)

-- the number of the unit at a position
abbrev pub standing : Option (Option ℕ) → Option ℕ
standing None = None
standing (Some unit) = unit

abbrev pub number_at : Positions → ℕ → Option ℕ
number_at positions pos = standing (slice_get positions pos)

abbrev pub numbered : List Shown → Option ℕ → Option Shown
numbered units None = None
numbered units (Some n) = slice_get units n

-- the unit at a position, where there is one
abbrev pub unit_at : Positions → List Shown → ℕ → Option Shown
unit_at positions units pos = numbered units (number_at positions pos)

-- what is kept, where something is
abbrev pub var_at : Option (List Symbol) → List Symbol
var_at None = []
var_at (Some word) = word
