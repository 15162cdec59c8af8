use Rattle.std.proofs.Common.{sym, ◌∙◌}
use Rattle.ap_exec.proofs.Overlays.{none_fresh, some_fresh, past_fresh}
use Rattle.ap_exec.proofs.values.var_at.Goals as goal

pub returns-in-None-clause-value : goal.returns-in-None-clause-value
returns-in-None-clause-value c =
    c.old_var.ensures.value ∙ sym
    (none_fresh c.args.vars.now c.args.fresh.now c.args.n (sym c.in-None.ensures))

pub returns-then-n-vars-clause-value : goal.returns-then-n-vars-clause-value
returns-then-n-vars-clause-value c = c.symbols.ensures.symbols
    ∙ sym (some_fresh c.args.vars.now c.args.fresh.now c.args.n c.in-Some.word.now
    (sym c.in-Some.ensures) c.if-n-vars.true)

pub returns-else-n-vars-clause-value : goal.returns-else-n-vars-clause-value
returns-else-n-vars-clause-value c =
    sym (past_fresh c.args.vars.now c.args.fresh.now c.args.n c.if-n-vars.false)
