use Rattle.ap_fst.proofs.Commons.{common_on, common_all}
use Rattle.std.proofs.Common.{arith}
use Rattle.ap_fst.proofs.trimming.both_listed.Goals as goal

pub loop-at-preserved : goal.loop-at-preserved
loop-at-preserved c = common_on c.args.a.now c.args.b.now c.loop-at.at c.loop-at.both.items
    c.add_common.new.both.items c.in_ok-add_common.ensures c.loop-at.invariant

pub returns : goal.returns
returns c = common_all c.args.a.now c.args.b.now c.loop-at.both.items c.loop-at.at (omega arith)
    c.loop-at.invariant
