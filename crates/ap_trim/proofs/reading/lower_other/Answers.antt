use Rattle.ap_live.proofs.Others.{other_same, other_lower}
use Rattle.ap_trim.proofs.reading.lower_other.Goals as goal

pub returns-then-small-c : goal.returns-then-small-c
returns-then-small-c c =
    other_same c.args.c c.lower-small.result c.lower-small.ensures c.if-small-c.true

pub returns : goal.returns
returns c = other_lower c.args.c c.lower-small.result c.lower-small.ensures
