use Rattle.ap_stream.proofs.Fronts.{kept_twice}
use Rattle.ap_stream.proofs.laws.superblanks_are_kept_twice.Goals as goal

pub returns : goal.returns
returns c = kept_twice
