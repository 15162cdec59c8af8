use Rattle.ap_binary.proofs.Once.{never_both}
use Rattle.ap_binary.proofs.laws.spells_without_fault.Goals as goal

pub returns : goal.returns
returns c = never_both
