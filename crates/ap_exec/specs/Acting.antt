-- What a rule does to a match and to the variables.
use Rattle.std.specs.Prelude.{ℕ, zero, suc, ◌+◌, List, [], ◌∷◌, ◌++◌, length, map, Option, Some, None, slice_get}
use Rattle.ap_symbol.specs.declared.symbol.Symbol.{Symbol}
use Rattle.ap_rules.specs.Plain.{PlainStatements, statements_of, no_statements, PlainMacro, PlainRule, PlainRules}
use Rattle.ap_exec.specs.declared.matched.Matched.{Matched}
use Rattle.ap_exec.specs.declared.matched.MatchedUnit.{MatchedUnit}
use Rattle.ap_exec.specs.declared.template.Piece.{Piece}
use Rattle.ap_exec.specs.Results.{Ran, seen}
use Rattle.ap_exec.specs.Running.{Definitions, RunState, run_all, macros_below}
use Rattle.ap_exec.specs.Units.{Shown, Positions}

-- the pieces of a rule, and what the variables hold after it
pub record Outcome : Type 0 where
  pub pieces : List Piece
  pub vars : List (List Symbol)

abbrev pub outcome : RunState → Outcome
outcome s = record { pieces = s.pieces; vars = s.vars }

abbrev pub body_of : PlainMacro → PlainStatements
body_of m = statements_of m.statements

abbrev pub definitions_of : PlainRules → Definitions
definitions_of r = record {
  form = r.form;
  attributes = r.attributes;
  lists = r.lists;
  bodies =
      map body_of r.macros;
}

abbrev pub action_in : Option PlainRule → PlainStatements
action_in None = no_statements
action_in (Some rule) = statements_of rule.action

-- the action of the rule of this number
abbrev pub action_of : PlainRules → ℕ → PlainStatements
action_of r n = action_in (slice_get r.rules n)

-- a unit: its target is its head and its queue
abbrev pub shown : MatchedUnit → Shown
shown u = record {
  source = u.source;
  target = u.head ++ u.queue;
  border =
      length u.head;
  content = u.content;
}

-- the chunk of postchunk as a unit
abbrev pub shown_chunk : List Symbol → Shown
shown_chunk name = record { source = []; target = name; border = length name; content = [] }

-- the units of a match by number: the chunk, where there is one, and the units in order
abbrev pub units_in : Option (List Symbol) → List MatchedUnit → List Shown
units_in None units = map shown units
units_in (Some name) units = shown_chunk name ∷ map shown units

-- so many numbers from this one on
abbrev pub from : ℕ → ℕ → Positions
from first zero = []
from first (suc n) = Some first ∷ from (first + 1) n

-- what stands at the positions: at 0 the chunk, or nothing, and from 1 on the units
abbrev pub positions_in : Option (List Symbol) → ℕ → Positions
positions_in None n = None ∷ from 0 n
positions_in (Some name) n = Some 0 ∷ from 1 n

abbrev pub started : Matched → List (List Symbol) → RunState
started m vars = record {
  units = units_in m.chunk m.units;
  vars = vars;
  pieces =
      [];
}

-- the rule's action is run; each macro may be called
abbrev pub act_of : PlainRules → ℕ → Matched → List (List Symbol) → Ran Outcome
act_of r n m vars =
    seen outcome (run_all (definitions_of r) (macros_below (definitions_of r) (length r.macros))
    (positions_in m.chunk (length m.units)) (action_of r n) (started m vars))
