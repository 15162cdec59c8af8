use Rattle.ap_trim.proofs.Uniqueness.{least_trimmed}
use Rattle.ap_trim.proofs.laws.trimmed_is_least.Goals as goal

pub returns : goal.returns
returns c = least_trimmed c.canonical_is_least.ensures
