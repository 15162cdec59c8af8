use Rattle.ap_live.proofs.Others.{other_same, other_small, other_lower}
use Rattle.ap_live.proofs.picking.lower_other.Goals as goal

pub returns-then-is_ascii_lowercase : goal.returns-then-is_ascii_lowercase
returns-then-is_ascii_lowercase c = other_small c.args.c c.is_ascii_lowercase.result
    c.if-is_ascii_lowercase.true c.is_ascii_lowercase.ensures.value

pub returns-then-small-c : goal.returns-then-small-c
returns-then-small-c c =
    other_same c.args.c c.lower-small.result c.lower-small.ensures c.if-small-c.true

pub returns : goal.returns
returns c = other_lower c.args.c c.lower-small.result c.lower-small.ensures
