use Rattle.ap_stream.proofs.UnitWords.{some_held}
use Rattle.ap_stream.proofs.unit.Unit.has_word.Goals as goal

pub returns : goal.returns
returns c = rw c.self.view_is at (some_held _ c.self.invariant)
