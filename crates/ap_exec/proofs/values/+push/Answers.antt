use Rattle.ap_rules.specs.Plain.{values_of}
use Rattle.ap_rules.specs.Views.{plain_values}
use Rattle.ap_exec.specs.States.{sight}
use Rattle.ap_exec.specs.Values.{joined_of}
use Rattle.ap_exec.proofs.Joins.{then_bounded}
use Rattle.ap_exec.proofs.values.+push.Goals as goal

pub push_concat-returns : goal.push_concat-returns
push_concat-returns t c =
    then_bounded c.args.into.now c.push_values.new.into
    (joined_of (sight c.args.view.now) (values_of (plain_values c.args.held.now.values.items)))
    c.bound.result (rw (← c.deref.ensures.value) (c.in_ok-push_values.ensures))
    (rw (← c.rendered-before.ensures) c.bound.ensures)
