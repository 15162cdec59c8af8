-- Expressions as plain trees.
use Rattle.std.specs.Prelude.{List, [], ◌∷◌}
use Rattle.ap_symbol.specs.declared.symbol.Symbol.{Symbol}
use Rattle.ap_dix.specs.declared.expr.Range.{Range}

mutual
  -- One symbol, a class, expressions one after another, one of some expressions, or an expression
  -- any number of times, at least once or at most once.
  pub data Form : Type 0 where
    one : Symbol → Form
    class : List Range → Form
    sequence : Forms → Form
    either : Forms → Form
    star : Form → Form
    plus : Form → Form
    opt : Form → Form

  -- expressions, in order
  pub data Forms : Type 0 where
    no_forms : Forms
    then_form : Form → Forms → Forms

abbrev pub forms_of : List Form → Forms
forms_of [] = no_forms
forms_of (f ∷ fs) = then_form f (forms_of fs)
