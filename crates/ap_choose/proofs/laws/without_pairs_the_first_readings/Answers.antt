use Rattle.ap_choose.proofs.NoPairs.{no_pairs_first}
use Rattle.ap_choose.proofs.laws.without_pairs_the_first_readings.Goals as goal

pub returns : goal.returns
returns c = no_pairs_first
