use Rattle.ap_live.proofs.Finding.{found_sorted, found_is_output, outputs_found, output_there}
use Rattle.ap_live.proofs.laws.outputs_law.Goals as goal

pub returns-clause-order : goal.returns-clause-order
returns-clause-order c = found_sorted

pub returns-clause-sound : goal.returns-clause-sound
returns-clause-sound c = found_is_output

pub returns-clause-exact : goal.returns-clause-exact
returns-clause-exact c = outputs_found c.one_rendering.ensures

pub returns-clause-some : goal.returns-clause-some
returns-clause-some c = output_there
