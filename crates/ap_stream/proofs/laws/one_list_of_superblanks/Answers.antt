use Rattle.ap_stream.proofs.Fronts.{one_list}
use Rattle.ap_stream.proofs.laws.one_list_of_superblanks.Goals as goal

pub returns : goal.returns
returns c = one_list
