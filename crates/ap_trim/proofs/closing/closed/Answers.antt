use Rattle.ap_trim.proofs.Reaching.{sorted_same}
use Rattle.ap_trim.proofs.closing.closed.Goals as goal

pub returns : goal.returns
returns c = sorted_same c.args.fst.now c.args.starts.now c.in_ok-states.states c.as_slice.result.now
    c.in_ok-set.set.items c.sort_unstable.new.self.items c.as_slice.ensures
    c.in_ok-set.ensures.items c.sort_unstable.ensures.permutation c.in_ok-states.ensures
