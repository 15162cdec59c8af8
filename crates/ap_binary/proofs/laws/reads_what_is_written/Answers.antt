use Rattle.ap_binary.proofs.RoundTrip.{reads_back}
use Rattle.ap_binary.proofs.laws.reads_what_is_written.Goals as goal

pub returns : goal.returns
returns c = reads_back
