use Rattle.std.proofs.Common.{arith}
use Rattle.ap_stream.proofs.LimitedLaws as limited
use Rattle.ap_stream.proofs.level.look.Goals as goal

pub returns-then-held-le-UNIT_MAX : goal.returns-then-held-le-UNIT_MAX
returns-then-held-le-UNIT_MAX c =
    limited.looks_short _ _ _ _ c.show-shown.result (omega (arith, c.if-held-le-UNIT_MAX.true))
    (rw (c.split_at.ensures.front, c.split_at.ensures.back) at c.show-shown.ensures)

pub returns-in-BlankEnds : goal.returns-in-BlankEnds
returns-in-BlankEnds c =
    limited.looks_blank _ _ _ _ c.requires.stood
    (omega (arith, c.if-held-le-UNIT_MAX.false, c.requires.short))
    (rw (c.split_at.ensures.front, c.split_at.ensures.back) at c.in-BlankEnds.ensures)

pub returns-in_default : goal.returns-in_default
returns-in_default c = limited.looks_long _ _ _ _ c.show-shown.result c.in_default.not-BlankEnds
    c.requires.stood (omega (arith, c.if-held-le-UNIT_MAX.false, c.requires.short))
    (rw (c.split_at.ensures.front, c.split_at.ensures.back) at c.show-shown.ensures)
