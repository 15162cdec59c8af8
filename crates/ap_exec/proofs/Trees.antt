-- What the trees of the code stand for, by their children as lists.
use Rattle.ap_rules.proofs.ConditionViews.{plain-And, plain-Or, plain-Not}
use Rattle.ap_rules.proofs.StatementViews.{plain-Choose}
use Rattle.ap_rules.proofs.ValueViews.{plain-Concat, plain-GetCaseFrom}

pub ruleset views = (plain-Concat, plain-GetCaseFrom, plain-And, plain-Or, plain-Not, plain-Choose)
