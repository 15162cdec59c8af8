use Rattle.ap_pipe.proofs.Behind.{behind_first}
use Rattle.ap_pipe.proofs.laws.behind_the_first.Goals as goal

pub returns : goal.returns
returns c = behind_first
