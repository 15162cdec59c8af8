use Rattle.ap_binary.proofs.Once.{one_fault}
use Rattle.ap_binary.proofs.laws.has_one_fault.Goals as goal

pub returns : goal.returns
returns c = one_fault
