use Rattle.ap_passes.proofs.Kept.{split_keeps}
use Rattle.ap_passes.proofs.laws.pretransfer_keeps_superblanks.Goals as goal

pub returns : goal.returns
returns c = split_keeps
