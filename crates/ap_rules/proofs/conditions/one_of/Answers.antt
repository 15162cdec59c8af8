use Rattle.ap_rules.specs.declared.condition.Or.{Or as Held}
use Rattle.ap_rules.proofs.ConditionViews.{plain-Or}
use Rattle.ap_rules.proofs.conditions.one_of.Goals as goal

pub returns : goal.returns
returns c = let held : Held = record { conditions = c.args.conditions } in plain-Or held
