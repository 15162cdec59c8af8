use Rattle.ap_chunk.proofs.Tried.{chosen_is}
use Rattle.ap_chunk.proofs.laws.trying_all_chooses.Goals as goal

pub returns : goal.returns
returns c = λ patterns units. chosen_is patterns units
