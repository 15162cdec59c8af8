use Rattle.ap_passes.proofs.Whole.{nothing_lost}
use Rattle.ap_passes.proofs.laws.nothing_is_lost.Goals as goal

pub returns : goal.returns
returns c = nothing_lost
