use Rattle.std.proofs.Common.{sym, ◌∙◌}
use Rattle.ap_format.proofs.Plains.{white_at}
use Rattle.ap_format.proofs.given.part_size.Goals as goal

pub returns-then-is_white-clause-blank : goal.returns-then-is_white-clause-blank
returns-then-is_white-clause-blank c = λ _.
    white_at c.args.bytes.now c.requires (sym c.is_white.ensures ∙ c.if-is_white.true)
