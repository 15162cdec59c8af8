use Rattle.ap_rules.specs.declared.value.Concat.{Concat as Held}
use Rattle.ap_rules.proofs.ValueViews.{plain-Concat}
use Rattle.ap_rules.proofs.values.concat.Goals as goal

pub returns : goal.returns
returns c = let held : Held = record { values = c.args.values } in plain-Concat held
