use Rattle.ap_chunk.proofs.Tried.{one_choice}
use Rattle.ap_chunk.proofs.laws.one_is_chosen.Goals as goal

pub returns : goal.returns
returns c = λ patterns units a b. one_choice patterns units a b
