use Rattle.ap_lookup.proofs.PostKept.{post_generation_keeps}
use Rattle.ap_lookup.proofs.laws.post_generation_keeps_superblanks.Goals as goal

pub returns : goal.returns
returns c = post_generation_keeps
