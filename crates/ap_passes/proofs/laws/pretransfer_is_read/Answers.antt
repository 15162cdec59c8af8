use Rattle.ap_passes.proofs.Kept.{split_read}
use Rattle.ap_passes.proofs.laws.pretransfer_is_read.Goals as goal

pub returns : goal.returns
returns c = split_read
