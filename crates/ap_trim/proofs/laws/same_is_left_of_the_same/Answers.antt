use Rattle.ap_trim.proofs.Sameness.{same_left}
use Rattle.ap_trim.proofs.laws.same_is_left_of_the_same.Goals as goal

pub returns : goal.returns
returns c = same_left c.canonical_is_one.ensures c.one_rendering.ensures
