use Rattle.ap_compound.proofs.Keeps.{compound_read}
use Rattle.ap_compound.proofs.laws.compound_is_read.Goals as goal

pub returns : goal.returns
returns c = compound_read
