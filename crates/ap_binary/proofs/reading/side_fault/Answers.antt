use Rattle.std.proofs.Common.{refl}
use Rattle.ap_binary.specs.Spelling.{side}
use Rattle.ap_binary.proofs.reading.side_fault.Goals as goal

pub returns-then-branch : goal.returns-then-branch
returns-then-branch c = side c.requires (c.in_ok-empty_side.ensures.0 c.if-branch.true) refl
