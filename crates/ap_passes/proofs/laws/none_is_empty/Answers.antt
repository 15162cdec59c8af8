use Rattle.ap_passes.proofs.Staying.{none_empty}
use Rattle.ap_passes.proofs.laws.none_is_empty.Goals as goal

pub returns : goal.returns
returns c = none_empty
