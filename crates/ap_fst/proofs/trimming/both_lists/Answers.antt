use Rattle.ap_fst.proofs.Commons.{below_all}
use Rattle.ap_fst.proofs.trimming.both_lists.Goals as goal

pub returns : goal.returns
returns c = below_all c.args.a.now c.args.b.now c.in_ok-both.both.items c.in-Some.bound
    c.in-Some.ensures c.in_ok-both.ensures
