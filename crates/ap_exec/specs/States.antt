-- Of the inside: no public contract stands on this file.
-- What the state of a run stands for.
use Rattle.std.specs.Prelude.{List, [], ◌∷◌, map, Option, Some, None}
use Rattle.ap_symbol.specs.declared.symbol.Symbol.{Symbol}
use Rattle.ap_rules.specs.Plain.{PlainStatements, statements_of}
use Rattle.ap_rules.specs.Views.{plain_statements}
use Rattle.ap_rules.specs.declared.rules.DefMacro.{DefMacro}
use Rattle.ap_exec.specs.declared.state.State.{State}
use Rattle.ap_exec.specs.declared.state.View.{View}
use Rattle.ap_exec.specs.declared.state.World.{World}
use Rattle.ap_exec.specs.Running.{Definitions, RunState}
use Rattle.ap_exec.specs.Units.{Sight}

-- variables, of which some have new values
abbrev pub overlaid : List (List Symbol) → List (Option (List Symbol)) → List (List Symbol)
overlaid [] fresh = []
overlaid (word ∷ words) [] = word ∷ words
overlaid (word ∷ words) (None ∷ fresh) = word ∷ overlaid words fresh
overlaid (word ∷ words) (Some new ∷ fresh) = new ∷ overlaid words fresh

-- the new value of a variable, where it has one
abbrev pub fresh_in : Option (Option (List Symbol)) → Option (List Symbol)
fresh_in None = None
fresh_in (Some new) = new

abbrev pub body_in : DefMacro → PlainStatements
body_in m = statements_of (plain_statements m.statements.items)

abbrev pub definitions : World → Definitions
definitions w = record {
  form = w.form;
  attributes = w.attributes.now;
  lists = w.lists.now;
  bodies =
      map body_in w.macros.now;
}

abbrev pub run_state : World → State → RunState
run_state w s = record {
  units = s.units.items;
  vars = overlaid w.vars.now s.fresh.items;
  pieces =
      s.pieces;
}

abbrev pub sight : View → Sight
sight v = record {
  form = v.world.form;
  attributes = v.world.attributes.now;
  lists = v.world.lists.now;
  positions = v.positions.now;
  units = v.units.now;
  vars = overlaid v.world.vars.now v.fresh.now;
}
