use Rattle.std.proofs.Common.{ap, sym, ◌∙◌}
use Rattle.ap_command.specs.Account.{stored_outcome}
use Rattle.ap_command.proofs.Trimmed.{left-one}
use Rattle.ap_command.proofs.laws.one_stored_outcome.Goals as goal

pub returns-clause-same : goal.returns-clause-same
returns-clause-same c = λ d e way out input ending a b same closure p q. p.3
    ∙ ap (stored_outcome out)
    (c.same_strings_same_compiled.ensures d e way p.0 q.0 p.1 q.1 same closure) ∙ sym q.3

pub returns-clause-least : goal.returns-clause-least
returns-clause-least c =
    λ d way out input ending o p. (p.0, c.compiled_is_least.ensures d way p.0 p.1, p.3)

pub returns-clause-trimmed : goal.returns-clause-trimmed
returns-clause-trimmed c = λ mono bilingual out input ending a b p q. p.3
    ∙ ap (stored_outcome out)
    (left-one c.same_strings_same_compiled.ensures c.trimmed_is_one.ensures mono bilingual p.0 q.0
    p.1 q.1) ∙ sym q.3
