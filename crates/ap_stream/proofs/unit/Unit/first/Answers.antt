use Rattle.ap_stream.proofs.UnitWords.{first_at}
use Rattle.ap_stream.proofs.unit.Unit.first.Goals as goal

pub returns : goal.returns
returns c = first_at _ _ _ c.has_word.ensures c.in_ok-_found.ensures
