use Rattle.ap_binary.proofs.FaultKinds.{not_wrong_way}
use Rattle.ap_binary.proofs.laws.never_wrong_way.Goals as goal

pub returns : goal.returns
returns c = not_wrong_way
