use Rattle.ap_chunk.proofs.StagesKept.{transfer_keeps}
use Rattle.ap_chunk.proofs.laws.transfer_keeps_superblanks.Goals as goal

pub returns : goal.returns
returns c = transfer_keeps
