-- What the trees of the code stand for.
use Rattle.std.specs.Prelude.{Bool, true, false, List, map}
use Rattle.ap_rules.specs.Plain.{PlainValue, PlainValues, clip, lit, lit_tag, var, get_case_from, case_of, concat, blank_value, no_values, then_value, PlainComparison, PlainMembership, PlainCondition, PlainConditions, all_of, one_of, negated, equal, begins_with, ends_with, contains_substring, is_in, begins_with_list, ends_with_list, no_conditions, then_condition, PlainChunkPiece, chunk_unit, chunk_units, chunk_blank, PlainChunk, PlainPiece, blank, unit, units, chunk, value_chunk, PlainStatement, PlainStatements, PlainWhen, PlainWhens, choose, assign, append, out, modify_case, call_macro, no_statements, then_statement, no_whens, then_when, PlainMacro, PlainRule, PlainRules}
use Rattle.ap_rules.specs.declared.value.Value.{Value, Clip, Lit, LitTag, Var, GetCaseFrom', CaseOf, Concat', B, Row_of-Value, end_of-Value, more_of-Value}
use Rattle.ap_rules.specs.declared.condition.Comparison.{Comparison}
use Rattle.ap_rules.specs.declared.condition.Membership.{Membership}
use Rattle.ap_rules.specs.declared.condition.Condition.{Condition, And', Or', Not', Equal, BeginsWith, EndsWith, ContainsSubstring, In, BeginsWithList, EndsWithList, Row_of-Condition, end_of-Condition, more_of-Condition}
use Rattle.ap_rules.specs.declared.piece.Chunk.{Chunk}
use Rattle.ap_rules.specs.declared.piece.ChunkPiece.{ChunkPiece}
use Rattle.ap_rules.specs.declared.piece.ChunkPiece.TheVariants as code_chunk_piece
use Rattle.ap_rules.specs.declared.piece.Piece.{Piece}
use Rattle.ap_rules.specs.declared.piece.Piece.TheVariants as code_piece
use Rattle.ap_rules.specs.declared.rules.DefMacro.{DefMacro}
use Rattle.ap_rules.specs.declared.rules.DefaultPiece.{DefaultPiece}
use Rattle.ap_rules.specs.declared.rules.DefaultPiece.TheVariants as default
use Rattle.ap_rules.specs.declared.rules.Form.{Form}
use Rattle.ap_rules.specs.declared.rules.Form.TheVariants.{Transfer, Interchunk, Postchunk}
use Rattle.ap_rules.specs.declared.rules.Rule.{Rule}
use Rattle.ap_rules.specs.declared.rules.Rules.{Rules}
use Rattle.ap_rules.specs.declared.statement.Choose.{Choose as Chosen, Choose', Row_of-Statement, end_of-Statement, more_of-Statement, Row_of-When, end_of-When, more_of-When}
use Rattle.ap_rules.specs.declared.statement.Statement.{Statement, Choose, Let, Append, Out, ModifyCase, CallMacro}
use Rattle.ap_rules.specs.declared.statement.Place.{Place}
use Rattle.ap_rules.specs.declared.statement.When.{When}

abbrev mutual
  pub plain_value : Value → PlainValue
  plain_value (Clip c) = clip c
  plain_value (Lit l) = lit l.v
  plain_value (LitTag l) = lit_tag l.v
  plain_value (Var v) = var v.n
  plain_value (GetCaseFrom' pos place v) = get_case_from pos (plain_value v)
  plain_value (CaseOf c) = case_of c
  plain_value (Concat' shape row) = concat (row_values row)
  plain_value (B space) = blank_value space.pos

  pub row_values : {m : _} → Row_of-Value m → PlainValues
  row_values end_of-Value = no_values
  row_values (more_of-Value v rest) = then_value (plain_value v) (row_values rest)

abbrev pub plain_values : List Value → List PlainValue
plain_values vs = map plain_value vs

abbrev pub plain_comparison : Comparison → PlainComparison
plain_comparison c = record {
  caseless = c.caseless;
  first = plain_value c.first;
  second =
      plain_value c.second;
}

abbrev pub plain_membership : Membership → PlainMembership
plain_membership m = record { caseless = m.caseless; value = plain_value m.value; list = m.list }

abbrev mutual
  pub plain_condition : Condition → PlainCondition
  plain_condition (And' shape row) = all_of (row_conditions row)
  plain_condition (Or' shape row) = one_of (row_conditions row)
  plain_condition (Not' place c) = negated (plain_condition c)
  plain_condition (Equal c) = equal (plain_comparison c)
  plain_condition (BeginsWith c) = begins_with (plain_comparison c)
  plain_condition (EndsWith c) = ends_with (plain_comparison c)
  plain_condition (ContainsSubstring c) = contains_substring (plain_comparison c)
  plain_condition (In m) = is_in (plain_membership m)
  plain_condition (BeginsWithList m) = begins_with_list (plain_membership m)
  plain_condition (EndsWithList m) = ends_with_list (plain_membership m)

  pub row_conditions : {m : _} → Row_of-Condition m → PlainConditions
  row_conditions end_of-Condition = no_conditions
  row_conditions (more_of-Condition c rest) =
      then_condition (plain_condition c) (row_conditions rest)

abbrev pub plain_conditions : List Condition → List PlainCondition
plain_conditions cs = map plain_condition cs

abbrev pub plain_chunk_piece : ChunkPiece → PlainChunkPiece
plain_chunk_piece (code_chunk_piece.Lu u) = chunk_unit (plain_values u.values.items)
plain_chunk_piece (code_chunk_piece.Mlu m) =
    chunk_units (map (λ u. plain_values u.values.items) m.units.items)
plain_chunk_piece (code_chunk_piece.B space) = chunk_blank space.pos

abbrev pub plain_chunk : Chunk → PlainChunk
plain_chunk c = record {
  name = c.name;
  namefrom = c.namefrom;
  case = c.case;
  tags = map (λ t. plain_values t.values.items) c.tags.items;
  pieces = map plain_chunk_piece c.pieces.items;
}

abbrev pub plain_piece : Piece → PlainPiece
plain_piece (code_piece.B space) = blank space.pos
plain_piece (code_piece.Lu u) = unit (plain_values u.values.items)
plain_piece (code_piece.Mlu m) = units (map (λ u. plain_values u.values.items) m.units.items)
plain_piece (code_piece.Chunk c) = chunk (plain_chunk c)
plain_piece (code_piece.ValueChunk c) = value_chunk (plain_values c.values.items)

-- a place that is set, with the value
abbrev pub plain_setting : Place × Value → Place × PlainValue
plain_setting x = (x.0, plain_value x.1)

abbrev mutual
  pub plain_statement : Statement → PlainStatement
  plain_statement (Choose c) = plain_choose c
  plain_statement (Let l) = assign l.place (plain_value l.value)
  plain_statement (Append a) = append a.n (plain_values a.values.items)
  plain_statement (Out o) = out (map plain_piece o.pieces.items)
  plain_statement (ModifyCase m) = modify_case m.place (plain_value m.value)
  plain_statement (CallMacro c) = call_macro c.n c.params.items

  pub plain_choose : Chosen → PlainStatement
  plain_choose (Choose' wshape wrow sshape srow) = choose (row_whens wrow) (row_statements srow)

  pub row_statements : {m : _} → Row_of-Statement m → PlainStatements
  row_statements end_of-Statement = no_statements
  row_statements (more_of-Statement s rest) =
      then_statement (plain_statement s) (row_statements rest)

  pub row_whens : {m : _} → Row_of-When m → PlainWhens
  row_whens end_of-When = no_whens
  row_whens (more_of-When test shape row rest) =
      then_when (plain_condition test) (row_statements row) (row_whens rest)

abbrev pub plain_statements : List Statement → List PlainStatement
plain_statements ss = map plain_statement ss

abbrev pub plain_when : When → PlainWhen
plain_when w = (plain_condition w.test, plain_statements w.statements.items)

abbrev pub plain_macro : DefMacro → PlainMacro
plain_macro m = record { npar = m.npar; statements = plain_statements m.statements.items }

abbrev pub plain_rule : Rule → PlainRule
plain_rule r = record {
  line = r.line;
  pattern = r.pattern;
  action =
      plain_statements r.action.items;
}

-- the rules of a file, as a plain tree
abbrev pub plain_rules : Rules → PlainRules
plain_rules r = record {
  form = r.form;
  line = r.line;
  default = r.default;
  categories = r.categories;
  attributes = r.attributes;
  variables = r.variables;
  lists = r.lists;
  macros = map plain_macro r.macros.items;
  rules = map plain_rule r.rules.items;
}

-- they are rules of transfer that write chunks
abbrev pub makes_chunks : Form → DefaultPiece → Bool
makes_chunks Transfer default.Chunk = true
makes_chunks Transfer default.Lu = false
makes_chunks Interchunk d = false
makes_chunks Postchunk d = false
