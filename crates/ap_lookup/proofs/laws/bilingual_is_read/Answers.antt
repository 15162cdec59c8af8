use Rattle.ap_lookup.proofs.SuperblanksKept.{bilingual_read}
use Rattle.ap_lookup.proofs.laws.bilingual_is_read.Goals as goal

pub returns : goal.returns
returns c = bilingual_read
