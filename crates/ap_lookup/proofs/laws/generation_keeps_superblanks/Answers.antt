use Rattle.ap_lookup.proofs.SuperblanksKept.{generation_keeps}
use Rattle.ap_lookup.proofs.laws.generation_keeps_superblanks.Goals as goal

pub returns : goal.returns
returns c = generation_keeps
