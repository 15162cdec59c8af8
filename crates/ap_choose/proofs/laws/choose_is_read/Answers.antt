use Rattle.ap_choose.proofs.Kept.{choose_read}
use Rattle.ap_choose.proofs.laws.choose_is_read.Goals as goal

pub returns : goal.returns
returns c = choose_read
