use Rattle.ap_binary.proofs.Once.{one_spelled}
use Rattle.ap_binary.proofs.laws.spells_one.Goals as goal

pub returns : goal.returns
returns c = one_spelled
