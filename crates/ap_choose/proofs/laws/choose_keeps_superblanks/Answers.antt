use Rattle.ap_choose.proofs.Kept.{choose_keeps}
use Rattle.ap_choose.proofs.laws.choose_keeps_superblanks.Goals as goal

pub returns : goal.returns
returns c = choose_keeps
