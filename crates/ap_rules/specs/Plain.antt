-- The rules of a file as plain trees, in the table's order, with a number in place of each name.
use Rattle.std.specs.Prelude.{ℕ, Bool, List, [], ◌∷◌, Option}
use Rattle.ap_symbol.specs.declared.symbol.Symbol.{Symbol}
use Rattle.ap_rules.specs.declared.attribute.AttrItem.{AttrItem}
use Rattle.ap_rules.specs.declared.rules.DefCat.{DefCat}
use Rattle.ap_rules.specs.declared.rules.DefList.{DefList}
use Rattle.ap_rules.specs.declared.rules.DefVar.{DefVar}
use Rattle.ap_rules.specs.declared.rules.DefaultPiece.{DefaultPiece}
use Rattle.ap_rules.specs.declared.rules.Form.{Form}
use Rattle.ap_rules.specs.declared.rules.PatternItem.{PatternItem}
use Rattle.ap_rules.specs.declared.statement.Place.{Place}
use Rattle.ap_rules.specs.declared.value.CaseOf.{CaseOf}
use Rattle.ap_rules.specs.declared.value.Clip.{Clip}

-- A value: a clip; a word; tags; a variable; a value in the case of the unit at a position; the
-- case of a part; values one after another; a blank, with its position where it has one.
mutual
  pub data PlainValue : Type 0 where
    clip : Clip → PlainValue
    lit : List Symbol → PlainValue
    lit_tag : List Symbol → PlainValue
    var : ℕ → PlainValue
    get_case_from : ℕ → PlainValue → PlainValue
    case_of : CaseOf → PlainValue
    concat : PlainValues → PlainValue
    blank_value : Option ℕ → PlainValue

  pub data PlainValues : Type 0 where
    no_values : PlainValues
    then_value : PlainValue → PlainValues → PlainValues

-- these values in a row
abbrev pub values_of : List PlainValue → PlainValues
values_of [] = no_values
values_of (v ∷ vs) = then_value v (values_of vs)

-- two values that are compared, and whether all letters are put in lower case first
pub record PlainComparison : Type 0 where
  pub caseless : Bool
  pub first : PlainValue
  pub second : PlainValue

-- a value that is compared with the items of a list
pub record PlainMembership : Type 0 where
  pub caseless : Bool
  pub value : PlainValue
  pub list : ℕ

mutual
  pub data PlainCondition : Type 0 where
    all_of : PlainConditions → PlainCondition
    one_of : PlainConditions → PlainCondition
    negated : PlainCondition → PlainCondition
    equal : PlainComparison → PlainCondition
    begins_with : PlainComparison → PlainCondition
    ends_with : PlainComparison → PlainCondition
    contains_substring : PlainComparison → PlainCondition
    is_in : PlainMembership → PlainCondition
    begins_with_list : PlainMembership → PlainCondition
    ends_with_list : PlainMembership → PlainCondition

  pub data PlainConditions : Type 0 where
    no_conditions : PlainConditions
    then_condition : PlainCondition → PlainConditions → PlainConditions

abbrev pub conditions_of : List PlainCondition → PlainConditions
conditions_of [] = no_conditions
conditions_of (c ∷ cs) = then_condition c (conditions_of cs)

-- a unit's values
abbrev pub PlainUnit : Type 0
PlainUnit = List PlainValue

-- a piece of a chunk that transfer makes: a unit, one unit of several, or a blank
pub data PlainChunkPiece : Type 0 where
  chunk_unit : PlainUnit → PlainChunkPiece
  chunk_units : List PlainUnit → PlainChunkPiece
  chunk_blank : Option ℕ → PlainChunkPiece

pub record PlainChunk : Type 0 where
  pub name : Option (List Symbol)
  pub namefrom : Option ℕ
  pub case : Option ℕ
  pub tags : List (List PlainValue)
  pub pieces : List PlainChunkPiece

-- a piece of an output: a blank, a unit, one unit of several, a chunk as transfer makes it, or as
-- interchunk does
pub data PlainPiece : Type 0 where
  blank : Option ℕ → PlainPiece
  unit : PlainUnit → PlainPiece
  units : List PlainUnit → PlainPiece
  chunk : PlainChunk → PlainPiece
  value_chunk : List PlainValue → PlainPiece

-- A statement: a choice, with what is done otherwise; a place is set; values are added to a
-- variable; pieces are added to the output; a place is put in the case of a value; a macro is run
-- on the units at these positions.
mutual
  pub data PlainStatement : Type 0 where
    choose : PlainWhens → PlainStatements → PlainStatement
    assign : Place → PlainValue → PlainStatement
    append : ℕ → List PlainValue → PlainStatement
    out : List PlainPiece → PlainStatement
    modify_case : Place → PlainValue → PlainStatement
    call_macro : ℕ → List ℕ → PlainStatement

  pub data PlainStatements : Type 0 where
    no_statements : PlainStatements
    then_statement : PlainStatement → PlainStatements → PlainStatements

  pub data PlainWhens : Type 0 where
    no_whens : PlainWhens
    then_when : PlainCondition → PlainStatements → PlainWhens → PlainWhens

abbrev pub statements_of : List PlainStatement → PlainStatements
statements_of [] = no_statements
statements_of (s ∷ ss) = then_statement s (statements_of ss)

-- a choice of `choose`: its condition and its statements
abbrev pub PlainWhen : Type 0
PlainWhen = PlainCondition × List PlainStatement

abbrev pub whens_of : List PlainWhen → PlainWhens
whens_of [] = no_whens
whens_of (w ∷ ws) = then_when w.0 (statements_of w.1) (whens_of ws)

pub record PlainMacro : Type 0 where
  pub npar : ℕ
  pub statements : List PlainStatement

pub record PlainRule : Type 0 where
  pub line : ℕ
  pub pattern : List PatternItem
  pub action : List PlainStatement

pub record PlainRules : Type 0 where
  pub form : Form
  pub line : ℕ
  pub default : DefaultPiece
  pub categories : List DefCat
  pub attributes : List (List AttrItem)
  pub variables : List DefVar
  pub lists : List DefList
  pub macros : List PlainMacro
  pub rules : List PlainRule
