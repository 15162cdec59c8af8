use Rattle.ap_binary.proofs.Trimmed.{spelled_is_compiled}
use Rattle.ap_binary.proofs.laws.spells_compiled.Goals as goal

pub returns : goal.returns
returns c = spelled_is_compiled
