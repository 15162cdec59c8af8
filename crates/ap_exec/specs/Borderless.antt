-- Where no clip of the rules leaves out a queue, the border between the head and the queue of a
-- target isn't seen.
use Rattle.std.specs.Prelude.{◌≡◌, ℕ, true, List, [], ◌++◌, map}
use Rattle.ap_symbol.specs.declared.symbol.Symbol.{Symbol}
use Rattle.ap_rules.specs.Plain.{PlainValue, PlainValues, clip, lit, lit_tag, var, get_case_from, case_of, concat, blank_value, no_values, then_value, PlainUnit, PlainCondition, PlainConditions, all_of, one_of, negated, equal, begins_with, ends_with, contains_substring, is_in, begins_with_list, ends_with_list, no_conditions, then_condition, PlainComparison, PlainChunkPiece, chunk_unit, chunk_units, chunk_blank, PlainChunk, PlainPiece, blank, unit, units, chunk, value_chunk, PlainStatement, PlainStatements, PlainWhens, choose, assign, append, out, modify_case, call_macro, no_statements, then_statement, no_whens, then_when, PlainMacro, PlainRule, PlainRules, statements_of}
use Rattle.ap_rules.specs.Soundness.{Each}
use Rattle.ap_rules.specs.declared.statement.Place.{Place}
use Rattle.ap_rules.specs.declared.statement.Place.TheVariants as place
use Rattle.ap_rules.specs.declared.value.Clip.{Clip}
use Rattle.ap_exec.specs.Acting.{act_of}
use Rattle.ap_exec.specs.declared.matched.Matched.{Matched}
use Rattle.ap_exec.specs.declared.matched.MatchedUnit.{MatchedUnit}

-- the clip reads the queue of a target too
abbrev pub ClipKeeps : Clip → Type 0
ClipKeeps c = c.queue ≡ true

-- so does every clip in a value
abbrev mutual
  pub ValueKeeps : PlainValue → Type 0
  ValueKeeps (clip c) = ClipKeeps c
  ValueKeeps (lit word) = Unit {0}
  ValueKeeps (lit_tag word) = Unit {0}
  ValueKeeps (var n) = Unit {0}
  ValueKeeps (get_case_from pos v) = ValueKeeps v
  ValueKeeps (case_of c) = Unit {0}
  ValueKeeps (concat vs) = ValuesKeep vs
  ValueKeeps (blank_value pos) = Unit {0}

  pub ValuesKeep : PlainValues → Type 0
  ValuesKeep no_values = Unit {0}
  ValuesKeep (then_value v vs) = ValueKeeps v × ValuesKeep vs

abbrev pub UnitKeeps : PlainUnit → Type 0
UnitKeeps vs = Each ValueKeeps vs

abbrev pub ComparisonKeeps : PlainComparison → Type 0
ComparisonKeeps c = ValueKeeps c.first × ValueKeeps c.second

abbrev mutual
  pub ConditionKeeps : PlainCondition → Type 0
  ConditionKeeps (all_of conditions) = ConditionsKeep conditions
  ConditionKeeps (one_of conditions) = ConditionsKeep conditions
  ConditionKeeps (negated condition) = ConditionKeeps condition
  ConditionKeeps (equal c) = ComparisonKeeps c
  ConditionKeeps (begins_with c) = ComparisonKeeps c
  ConditionKeeps (ends_with c) = ComparisonKeeps c
  ConditionKeeps (contains_substring c) = ComparisonKeeps c
  ConditionKeeps (is_in m) = ValueKeeps m.value
  ConditionKeeps (begins_with_list m) = ValueKeeps m.value
  ConditionKeeps (ends_with_list m) = ValueKeeps m.value

  pub ConditionsKeep : PlainConditions → Type 0
  ConditionsKeep no_conditions = Unit {0}
  ConditionsKeep (then_condition c cs) = ConditionKeeps c × ConditionsKeep cs

abbrev pub ChunkPieceKeeps : PlainChunkPiece → Type 0
ChunkPieceKeeps (chunk_unit vs) = UnitKeeps vs
ChunkPieceKeeps (chunk_units us) = Each UnitKeeps us
ChunkPieceKeeps (chunk_blank pos) = Unit {0}

pub record ChunkKeeps (c : PlainChunk) : Type 0 where
  pub tags : Each UnitKeeps c.tags
  pub pieces : Each ChunkPieceKeeps c.pieces

abbrev pub PieceKeeps : PlainPiece → Type 0
PieceKeeps (blank pos) = Unit {0}
PieceKeeps (unit vs) = UnitKeeps vs
PieceKeeps (units us) = Each UnitKeeps us
PieceKeeps (chunk c) = ChunkKeeps c
PieceKeeps (value_chunk vs) = UnitKeeps vs

abbrev pub PlaceKeeps : Place → Type 0
PlaceKeeps (place.Clip c) = ClipKeeps c
PlaceKeeps (place.Var v) = Unit {0}

abbrev mutual
  pub StatementKeeps : PlainStatement → Type 0
  StatementKeeps (choose whens otherwise) = WhensKeep whens × StatementsKeep otherwise
  StatementKeeps (assign p v) = PlaceKeeps p × ValueKeeps v
  StatementKeeps (append n vs) = UnitKeeps vs
  StatementKeeps (out pieces) = Each PieceKeeps pieces
  StatementKeeps (modify_case p v) = PlaceKeeps p × ValueKeeps v
  StatementKeeps (call_macro n params) = Unit {0}

  pub StatementsKeep : PlainStatements → Type 0
  StatementsKeep no_statements = Unit {0}
  StatementsKeep (then_statement s more) = StatementKeeps s × StatementsKeep more

  pub WhensKeep : PlainWhens → Type 0
  WhensKeep no_whens = Unit {0}
  WhensKeep (then_when test statements more) =
      ConditionKeeps test × StatementsKeep statements × WhensKeep more

abbrev pub MacroKeeps : PlainMacro → Type 0
MacroKeeps m = StatementsKeep (statements_of m.statements)

abbrev pub RuleKeeps : PlainRule → Type 0
RuleKeeps rule = StatementsKeep (statements_of rule.action)

-- no clip of the rules leaves out a queue
pub record KeepQueues (r : PlainRules) : Type 0 where
  pub macros : Each MacroKeeps r.macros
  pub rules : Each RuleKeeps r.rules

-- a unit whose target is all head
abbrev pub all_head : MatchedUnit → MatchedUnit
all_head u = record {
  source = u.source;
  head = u.head ++ u.queue;
  queue = [];
  content =
      u.content;
}

-- a match of such units
abbrev pub without_queues : Matched → Matched
without_queues m = record { chunk = m.chunk; units = map all_head m.units }

-- such rules do the same to a match wherever the borders in its targets stand
abbrev pub BordersDoNotMatter : Type 0
BordersDoNotMatter = (r : PlainRules) (rule : ℕ) (matched : Matched) (vars : List (List Symbol)) →
    KeepQueues r → act_of r rule (without_queues matched) vars ≡ act_of r rule matched vars
