use Rattle.ap_compile.proofs.Silences.{reads_left, reads_right}
use Rattle.ap_compile.proofs.empties.reads_nothing.Goals as goal

pub returns-in-Lr : goal.returns-in-Lr
returns-in-Lr c = reads_left c.args.direction c.args.left.now c.args.right.now c.is_empty.result
    c.in-Lr.is c.is_empty.ensures

pub returns-in-Rl : goal.returns-in-Rl
returns-in-Rl c = reads_right c.args.direction c.args.left.now c.args.right.now
    c.is_empty-in-Rl.result c.in-Rl.is c.is_empty-in-Rl.ensures
