use Rattle.ap_command.proofs.Flowing.{one-row}
use Rattle.ap_command.proofs.laws.one_meaning.Goals as goal

pub returns : goal.returns
returns c = one-row c.plain_rules_decide.ensures
