use Rattle.ap_choose.proofs.Kept.{reading_reads}
use Rattle.ap_choose.proofs.laws.readings_are_words.Goals as goal

pub returns : goal.returns
returns c = reading_reads
