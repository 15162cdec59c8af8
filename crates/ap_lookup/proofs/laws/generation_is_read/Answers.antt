use Rattle.ap_lookup.proofs.SuperblanksKept.{generation_read}
use Rattle.ap_lookup.proofs.laws.generation_is_read.Goals as goal

pub returns : goal.returns
returns c = generation_read
