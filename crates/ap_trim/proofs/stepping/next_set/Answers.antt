use Rattle.ap_trim.proofs.Steps.{next_steps}
use Rattle.ap_trim.proofs.stepping.next_set.Goals as goal

pub returns : goal.returns
returns c = next_steps c.args.fst.now c.args.symbol.now c.args.sets.now c.number.new.self
    c.args.number c.in_ok-next.next c.get.result.now c.in_ok-targets.targets.items
    c.as_slice.result.now c.in_ok-set.set.items c.as_slice-2.result.now
    c.get.ensures c.in_ok-targets.ensures c.as_slice.ensures.value c.in_ok-set.ensures
    c.as_slice-2.ensures.value c.in_ok-next.ensures
