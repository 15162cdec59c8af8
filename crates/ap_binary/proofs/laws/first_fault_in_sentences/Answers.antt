use Rattle.ap_binary.proofs.FileFaults.{first_both}
use Rattle.ap_binary.proofs.laws.first_fault_in_sentences.Goals as goal

pub returns : goal.returns
returns c = first_both
