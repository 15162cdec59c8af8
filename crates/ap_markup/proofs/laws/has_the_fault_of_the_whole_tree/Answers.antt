use Rattle.ap_markup.proofs.WholeTrees.{whole_found, whole_read}
use Rattle.ap_markup.proofs.laws.has_the_fault_of_the_whole_tree.Goals as goal

pub returns-clause-found : goal.returns-clause-found
returns-clause-found c = whole_found

pub returns-clause-read : goal.returns-clause-read
returns-clause-read c = whole_read
