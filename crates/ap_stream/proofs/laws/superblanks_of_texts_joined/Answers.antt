use Rattle.ap_stream.proofs.Joined.{joined}
use Rattle.ap_stream.proofs.laws.superblanks_of_texts_joined.Goals as goal

pub returns : goal.returns
returns c = joined
