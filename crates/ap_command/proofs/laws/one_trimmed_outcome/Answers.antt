use Rattle.std.proofs.Common.{ap, sym, ◌∙◌}
use Rattle.ap_command.specs.Account.{stored_outcome}
use Rattle.ap_command.proofs.TrimmedSame.{left-same, left-least}
use Rattle.ap_command.proofs.laws.one_trimmed_outcome.Goals as goal

pub returns-clause-same : goal.returns-clause-same
returns-clause-same c = λ mono other bilingual second out input ending a b m r p q. p.3
    ∙ ap (stored_outcome out)
    (left-same mono other bilingual second p.0 q.0 m r p.1 q.1
    c.same_is_left_of_the_same.ensures) ∙ sym q.3

pub returns-clause-least : goal.returns-clause-least
returns-clause-least c = λ mono bilingual out input ending o p.
    (p.0, left-least c.trimmed_is_least.ensures mono bilingual p.0 p.1, p.3)
