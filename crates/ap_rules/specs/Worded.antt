-- When all words in rules are words of the program: their letters are characters, and their tags
-- have names.
use Rattle.std.specs.Prelude.{List}
use Rattle.ap_symbol.specs.Coded.{AreCoded}
use Rattle.ap_symbol.specs.Words.{AreProper}
use Rattle.ap_symbol.specs.declared.symbol.Symbol.{Symbol}
use Rattle.ap_rules.specs.Plain.{PlainValue, PlainValues, clip, lit, lit_tag, var, get_case_from, case_of, concat, blank_value, no_values, then_value, PlainChunkPiece, chunk_unit, chunk_units, chunk_blank, PlainChunk, PlainPiece, blank, unit, units, chunk, value_chunk, PlainStatement, PlainStatements, PlainWhens, choose, assign, append, out, modify_case, call_macro, no_statements, then_statement, no_whens, then_when, PlainMacro, PlainRule, PlainRules, statements_of}
use Rattle.ap_rules.specs.Soundness.{Opt, Each}
use Rattle.ap_rules.specs.declared.rules.DefVar.{DefVar}

abbrev pub IsWorded : List Symbol → Type 0
IsWorded word = AreProper word × AreCoded word

-- the words that a value may give by itself: texts, tags and links
abbrev mutual
  pub IsWordedValue : PlainValue → Type 0
  IsWordedValue (clip c) = Opt IsWorded c.link_to
  IsWordedValue (lit word) = IsWorded word
  IsWordedValue (lit_tag word) = IsWorded word
  IsWordedValue (var n) = Unit {0}
  IsWordedValue (get_case_from pos v) = IsWordedValue v
  IsWordedValue (case_of c) = Unit {0}
  IsWordedValue (concat vs) = AreWordedValues vs
  IsWordedValue (blank_value pos) = Unit {0}

  pub AreWordedValues : PlainValues → Type 0
  AreWordedValues no_values = Unit {0}
  AreWordedValues (then_value v vs) = IsWordedValue v × AreWordedValues vs

abbrev pub IsWordedUnit : List PlainValue → Type 0
IsWordedUnit vs = Each IsWordedValue vs

abbrev pub IsWordedChunkPiece : PlainChunkPiece → Type 0
IsWordedChunkPiece (chunk_unit vs) = IsWordedUnit vs
IsWordedChunkPiece (chunk_units us) = Each IsWordedUnit us
IsWordedChunkPiece (chunk_blank pos) = Unit {0}

pub record IsWordedChunk (c : PlainChunk) : Type 0 where
  pub name : Opt IsWorded c.name
  pub tags : Each IsWordedUnit c.tags
  pub pieces : Each IsWordedChunkPiece c.pieces

abbrev pub IsWordedPiece : PlainPiece → Type 0
IsWordedPiece (blank pos) = Unit {0}
IsWordedPiece (unit vs) = IsWordedUnit vs
IsWordedPiece (units us) = Each IsWordedUnit us
IsWordedPiece (chunk c) = IsWordedChunk c
IsWordedPiece (value_chunk vs) = IsWordedUnit vs

-- tests give no words
abbrev mutual
  pub IsWordedStatement : PlainStatement → Type 0
  IsWordedStatement (choose whens otherwise) =
      AreWordedWhens whens × AreWordedStatements otherwise
  IsWordedStatement (assign p v) = IsWordedValue v
  IsWordedStatement (append n vs) = IsWordedUnit vs
  IsWordedStatement (out pieces) = Each IsWordedPiece pieces
  IsWordedStatement (modify_case p v) = IsWordedValue v
  IsWordedStatement (call_macro n params) = Unit {0}

  pub AreWordedStatements : PlainStatements → Type 0
  AreWordedStatements no_statements = Unit {0}
  AreWordedStatements (then_statement s more) = IsWordedStatement s × AreWordedStatements more

  pub AreWordedWhens : PlainWhens → Type 0
  AreWordedWhens no_whens = Unit {0}
  AreWordedWhens (then_when test statements more) =
      AreWordedStatements statements × AreWordedWhens more

abbrev pub IsWordedVariable : DefVar → Type 0
IsWordedVariable variable = IsWorded variable.v

abbrev pub IsWordedMacro : PlainMacro → Type 0
IsWordedMacro m = AreWordedStatements (statements_of m.statements)

abbrev pub IsWordedRule : PlainRule → Type 0
IsWordedRule rule = AreWordedStatements (statements_of rule.action)

-- those of variables, macros and rules
pub record AreWorded (r : PlainRules) : Type 0 where
  pub variables : Each IsWordedVariable r.variables
  pub macros : Each IsWordedMacro r.macros
  pub rules : Each IsWordedRule r.rules
