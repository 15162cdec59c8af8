use Rattle.ap_rules.specs.declared.condition.And.{And as Held}
use Rattle.ap_rules.proofs.ConditionViews.{plain-And}
use Rattle.ap_rules.proofs.conditions.all_of.Goals as goal

pub returns : goal.returns
returns c = let held : Held = record { conditions = c.args.conditions } in plain-And held
