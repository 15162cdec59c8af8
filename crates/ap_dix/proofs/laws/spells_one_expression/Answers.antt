use Rattle.ap_dix.proofs.ExprLaws.{one_expression}
use Rattle.ap_dix.proofs.laws.spells_one_expression.Goals as goal

pub returns : goal.returns
returns c = one_expression
