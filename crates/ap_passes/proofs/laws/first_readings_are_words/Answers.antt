use Rattle.ap_passes.proofs.ReadAgain.{first_reads}
use Rattle.ap_passes.proofs.laws.first_readings_are_words.Goals as goal

pub returns : goal.returns
returns c = first_reads
