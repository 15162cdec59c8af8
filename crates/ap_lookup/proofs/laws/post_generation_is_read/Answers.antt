use Rattle.ap_lookup.proofs.PostKept.{post_generation_read}
use Rattle.ap_lookup.proofs.laws.post_generation_is_read.Goals as goal

pub returns : goal.returns
returns c = post_generation_read
