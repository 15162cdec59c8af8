use Rattle.ap_dix.proofs.ExprLaws.{expression_exact}
use Rattle.ap_dix.proofs.laws.expression_is_spelled.Goals as goal

pub returns : goal.returns
returns c = expression_exact
