use Rattle.ap_stream.proofs.Rows.{reads_have}
use Rattle.ap_stream.proofs.laws.read_texts_have_superblanks.Goals as goal

pub returns : goal.returns
returns c = reads_have
