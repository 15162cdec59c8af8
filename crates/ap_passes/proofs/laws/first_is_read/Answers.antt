use Rattle.ap_passes.proofs.Kept.{first_read}
use Rattle.ap_passes.proofs.laws.first_is_read.Goals as goal

pub returns : goal.returns
returns c = first_read
