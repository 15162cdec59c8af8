use Rattle.ap_compile.proofs.Words.{longer_left, longer_right}
use Rattle.ap_compile.proofs.drafts.longer.Goals as goal

pub returns-then-left-right : goal.returns-then-left-right
returns-then-left-right c = longer_right c.args.left.now c.args.right.now c.if-left-right.true

pub returns-else-left-right : goal.returns-else-left-right
returns-else-left-right c = longer_left c.args.left.now c.args.right.now c.if-left-right.false
