use Rattle.ap_live.proofs.Finding.{viable_found}
use Rattle.ap_live.proofs.laws.viable_law.Goals as goal

pub returns : goal.returns
returns c = viable_found
