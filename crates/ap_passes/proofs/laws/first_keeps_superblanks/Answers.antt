use Rattle.ap_passes.proofs.Kept.{first_keeps}
use Rattle.ap_passes.proofs.laws.first_keeps_superblanks.Goals as goal

pub returns : goal.returns
returns c = first_keeps
