use Rattle.std.proofs.Common.{sym, ◌∙◌}
use Rattle.ap_rules.specs.Views.{plain_value}
use Rattle.ap_exec.specs.States.{sight}
use Rattle.ap_exec.proofs.Setting.{held_words}
use Rattle.ap_exec.proofs.changes.is_held.Goals as goal

pub returns-in-Var : goal.returns-in-Var
returns-in-Var c = λ same. record {
  var = c.in-Var.var;
  is = c.in-Var.is;
  gives = held_words (sight c.args.view.now) c.in-Var.var.n (plain_value c.args.value.now)
      c.args.word.now c.var_at-held.result.now c.requires c.var_at-held.ensures.value
      (sym c.same_words.ensures ∙ same);
}
