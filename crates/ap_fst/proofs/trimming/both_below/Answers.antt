use Rattle.std.proofs.Common.{arith}
use Rattle.ap_fst.proofs.Commons.{below_begun, below_on, below_end}
use Rattle.ap_fst.proofs.trimming.both_below.Goals as goal

pub loop-state-init : goal.loop-state-init
loop-state-init c = below_begun c.args.a.now c.args.b.now c.in_ok-both.both.items
    c.in_ok-both.ensures.items

pub loop-state-preserved : goal.loop-state-preserved
loop-state-preserved c =
    below_on c.args.a.now c.args.b.now c.loop-state.state c.loop-state.both.items
    c.add_if_shared.new.both.items c.in_ok-add_if_shared.ensures c.loop-state.invariant

pub returns : goal.returns
returns c = below_end c.args.a.now c.args.b.now c.loop-state.both.items c.loop-state.state
    c.args.bound (omega arith) c.loop-state.invariant
