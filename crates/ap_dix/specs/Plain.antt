-- What an expression of the code stands for.
use Rattle.ap_dix.specs.Forms.{Form, Forms, one, class, sequence, either, star, plus, opt, no_forms, then_form}
use Rattle.ap_dix.specs.declared.expr.Expr.{Expr, One, Class, Sequence', Either', Star', Plus', Opt', Row_of-Expr, end_of-Expr, more_of-Expr}

abbrev mutual
  pub plain : Expr → Form
  plain (One s) = one s
  plain (Class ranges) = class ranges
  plain (Sequence' shape row) = sequence (row_forms row)
  plain (Either' shape row) = either (row_forms row)
  plain (Star' place e) = star (plain e)
  plain (Plus' place e) = plus (plain e)
  plain (Opt' place e) = opt (plain e)

  pub row_forms : {m : _} → Row_of-Expr m → Forms
  row_forms end_of-Expr = no_forms
  row_forms (more_of-Expr e rest) = then_form (plain e) (row_forms rest)
