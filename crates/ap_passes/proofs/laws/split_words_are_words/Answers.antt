use Rattle.ap_passes.proofs.ReadAgain.{split_reads}
use Rattle.ap_passes.proofs.laws.split_words_are_words.Goals as goal

pub returns : goal.returns
returns c = split_reads
