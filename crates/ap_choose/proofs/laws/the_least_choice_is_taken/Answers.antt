use Rattle.ap_choose.proofs.Least.{least_chosen}
use Rattle.ap_choose.proofs.laws.the_least_choice_is_taken.Goals as goal

pub returns : goal.returns
returns c = least_chosen
