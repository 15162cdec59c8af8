use Rattle.std.proofs.Common.{sym, ◌∙◌}
use Rattle.ap_rules.proofs.SectionsRead.{tree_read}
use Rattle.ap_rules.proofs.TreeStands.{tree_stands}
use Rattle.ap_rules.proofs.laws.reads_each_row.Goals as goal

pub returns-clause-every : goal.returns-clause-every
returns-clause-every c = tree_stands

pub returns-clause-read : goal.returns-clause-read
returns-clause-read c = tree_read

pub returns-clause-one : goal.returns-clause-one
returns-clause-one c = λ form tree q r a b. sym (tree_read form tree q a) ∙ tree_read form tree r b
