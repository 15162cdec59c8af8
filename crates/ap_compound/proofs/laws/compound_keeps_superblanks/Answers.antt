use Rattle.ap_compound.proofs.Keeps.{compound_keeps}
use Rattle.ap_compound.proofs.laws.compound_keeps_superblanks.Goals as goal

pub returns : goal.returns
returns c = compound_keeps
