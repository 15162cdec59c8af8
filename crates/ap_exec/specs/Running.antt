-- What statements do.
use Rattle.std.specs.Prelude.{ℕ, zero, suc, ◌==◌, List, [], ◌∷◌, map, Bool, true, false, if◌then◌else◌, Ok, Option, Some, None, slice_get, slice_set}
use Rattle.ap_symbol.specs.Recasing.{case_of_lem, recase_lem}
use Rattle.ap_symbol.specs.declared.symbol.Symbol.{Symbol}
use Rattle.ap_rules.specs.Plain.{PlainPiece, values_of, PlainStatement, PlainStatements, PlainWhens, choose, assign, append, out, modify_case, call_macro, no_statements, then_statement, no_whens, then_when}
use Rattle.ap_rules.specs.declared.attribute.AttrItem.{AttrItem}
use Rattle.ap_rules.specs.declared.rules.DefList.{DefList}
use Rattle.ap_rules.specs.declared.rules.Form.{Form}
use Rattle.ap_rules.specs.declared.statement.Place.{Place}
use Rattle.ap_rules.specs.declared.statement.Place.TheVariants as place
use Rattle.ap_rules.specs.declared.value.Clip.{Clip}
use Rattle.ap_exec.specs.declared.template.Piece.{Piece}
use Rattle.ap_exec.specs.Conditions.{holds}
use Rattle.ap_exec.specs.Parts.{part_at}
use Rattle.ap_exec.specs.Pieces.{piece_of, added}
use Rattle.ap_exec.specs.Results.{Ran, ◌>>=◌}
use Rattle.ap_exec.specs.Units.{Shown, Positions, Sight, number_at, numbered, var_at}
use Rattle.ap_exec.specs.Values.{value_of, appended}
use Rattle.ap_exec.specs.Writing.{written}

-- what the rules define, which stays as it is while a rule runs: macros by their statements
pub record Definitions : Type 0 where
  pub form : Form
  pub attributes : List (List AttrItem)
  pub lists : List DefList
  pub bodies : List PlainStatements

-- what a rule changes while it runs: the units, the variables, and the pieces of its output
pub record RunState : Type 0 where
  pub units : List Shown
  pub vars : List (List Symbol)
  pub pieces : List Piece

abbrev pub sight_of : Definitions → Positions → RunState → Sight
sight_of w positions s = record {
  form = w.form;
  attributes = w.attributes;
  lists = w.lists;
  positions =
      positions;
  units = s.units;
  vars = s.vars;
}

-- a variable is set
abbrev pub with_var : ℕ → List Symbol → RunState → RunState
with_var n word s = record s { vars = slice_set s.vars n word }

-- the unit of this number, where there is one, is written to
abbrev pub unit_set : Definitions → Clip → List Symbol → List Shown → Option ℕ → Option Shown →
    List Shown
unit_set w c value units (Some n) (Some unit) =
    slice_set units n (written w.form w.attributes c value unit)
unit_set w c value units (Some n) None = units
unit_set w c value units None unit = units

abbrev pub units_set : Definitions → Clip → List Symbol → List Shown → Option ℕ → List Shown
units_set w c value units at = unit_set w c value units at (numbered units at)

-- a part of the unit at a position is set; at a position without a unit nothing is
abbrev pub with_part : Definitions → Positions → Clip → List Symbol → RunState → RunState
with_part w positions c value s =
    record s { units = units_set w c value s.units (number_at positions c.pos) }

abbrev pub with_place : Definitions → Positions → Place → List Symbol → RunState → RunState
with_place w positions (place.Clip c) value s = with_part w positions c value s
with_place w positions (place.Var v) value s = with_var v.n value s

-- what stands at a place, whatever link it has
abbrev pub held_at : Sight → Place → List Symbol
held_at sight (place.Clip c) = part_at sight c.pos c.part c.side c.queue
held_at sight (place.Var v) = var_at (slice_get sight.vars v.n)

-- what stands at a place, in the case of a value
abbrev pub recased_at : Sight → Place → List Symbol → List Symbol
recased_at sight p value = recase_lem (case_of_lem value) (held_at sight p)

-- a piece is added to the output, unless that has too many bytes with it
abbrev pub placed : Piece → RunState → Ran RunState
placed piece s = added piece s.pieces >>= λ pieces. Ok (record s { pieces = pieces })

abbrev pub outs : Definitions → Positions → List PlainPiece → RunState → Ran RunState
outs w positions [] s = Ok s
outs w positions (p ∷ more) s =
    piece_of (sight_of w positions s) p >>= λ x. placed x s >>= outs w positions more

-- the units that a macro is given, behind what stands at position 0
abbrev pub places_of : Positions → List ℕ → Positions
places_of positions params = number_at positions 0 ∷ map (number_at positions) params

-- the first where it holds, or else the second
abbrev pub either_of : Bool → Ran RunState → Ran RunState → Ran RunState
either_of true first second = first
either_of false first second = second

-- what macros do: the macro's number, and the units that it is given
abbrev pub Calls : Type 0
Calls = ℕ → Positions → RunState → Ran RunState

abbrev mutual
  pub run : Definitions → Calls → Positions → PlainStatement → RunState → Ran RunState
  run w calls positions (choose whens otherwise) s =
      run_choice w calls positions whens (run_all w calls positions otherwise) s
  run w calls positions (assign p v) s =
      value_of (sight_of w positions s) v >>= λ x. Ok (with_place w positions p x s)
  run w calls positions (append n vs) s =
      appended (sight_of w positions s) n (values_of vs) >>= λ x. Ok (with_var n x s)
  run w calls positions (out pieces) s = outs w positions pieces s
  run w calls positions (modify_case p v) s =
      value_of (sight_of w positions s) v >>= λ x. Ok
      (with_place w positions p (recased_at (sight_of w positions s) p x) s)
  run w calls positions (call_macro n params) s = calls n (places_of positions params) s

  pub run_all : Definitions → Calls → Positions → PlainStatements → RunState → Ran RunState
  run_all w calls positions no_statements s = Ok s
  run_all w calls positions (then_statement x more) s =
      run w calls positions x s >>= run_all w calls positions more

  pub run_choice : Definitions → Calls → Positions → PlainWhens → (RunState → Ran RunState) →
      RunState → Ran RunState
  run_choice w calls positions no_whens last s = last s
  run_choice w calls positions (then_when test statements more) last s =
      holds (sight_of w positions s) test >>= λ b. either_of b
      (run_all w calls positions statements s) (run_choice w calls positions more last s)

abbrev pub body_in : Option PlainStatements → PlainStatements
body_in None = no_statements
body_in (Some body) = body

abbrev pub body_at : Definitions → ℕ → PlainStatements
body_at w n = body_in (slice_get w.bodies n)

-- what a macro does that may call those above it alone: only the first so many are in view, and no
-- other does anything
abbrev pub macros_below : Definitions → ℕ → Calls
macros_below w zero k positions s = Ok s
macros_below w (suc n) k positions s =
    if k == n then run_all w (macros_below w n) positions (body_at w n) s
    else macros_below w n k positions s
