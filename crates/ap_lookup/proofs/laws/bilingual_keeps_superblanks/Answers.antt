use Rattle.ap_lookup.proofs.SuperblanksKept.{bilingual_keeps}
use Rattle.ap_lookup.proofs.laws.bilingual_keeps_superblanks.Goals as goal

pub returns : goal.returns
returns c = bilingual_keeps
