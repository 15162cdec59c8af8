use Rattle.std.proofs.Common.{sym, ◌∙◌}
use Rattle.ap_format.proofs.BareBlanks.{bare_same}
use Rattle.ap_format.proofs.items.write_blank.Goals as goal

pub returns-then-not-has_bracket-clause-ok : goal.returns-then-not-has_bracket-clause-ok
returns-then-not-has_bracket-clause-ok c =
    rw (← bare_same c.args.bytes.now (sym c.has_bracket.ensures ∙ c.if-not-has_bracket.true))
    c.extend.ensures.ok
