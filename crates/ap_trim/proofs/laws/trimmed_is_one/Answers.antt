use Rattle.ap_trim.proofs.Uniqueness.{one_trimmed}
use Rattle.ap_trim.proofs.laws.trimmed_is_one.Goals as goal

pub returns : goal.returns
returns c = one_trimmed c.canonical_is_one.ensures
