use Rattle.ap_passes.proofs.OneWay.{one_way}
use Rattle.ap_passes.proofs.Whole.{takes_apart}
use Rattle.ap_passes.proofs.laws.words_are_taken_apart.Goals as goal

pub returns-clause-apart : goal.returns-clause-apart
returns-clause-apart c = takes_apart

pub returns-clause-once : goal.returns-clause-once
returns-clause-once c = one_way
