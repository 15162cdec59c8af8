use Rattle.std.proofs.Common.{◌∙◌, sym}
use Rattle.ap_format.proofs.Runs.{nil_white, some_white}
use Rattle.ap_format.proofs.Cuts.{nil_part}
use Rattle.ap_format.proofs.cutter.Cutter.begin.Goals as goal

pub add_white-requires-clause-white : goal.add_white-requires-clause-white
add_white-requires-clause-white c = rw c.requires.empty nil_white

pub add_white-requires-clause-more : goal.add_white-requires-clause-more
add_white-requires-clause-more c =
    some_white _ c.requires.some (sym c.is_white.ensures ∙ c.if-is_white.true)

pub grow-requires-clause-part : goal.grow-requires-clause-part
grow-requires-clause-part c = rw c.requires.empty nil_part
