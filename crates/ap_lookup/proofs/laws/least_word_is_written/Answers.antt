use Rattle.ap_lookup.proofs.Exactly.{least_written}
use Rattle.ap_lookup.proofs.laws.least_word_is_written.Goals as goal

pub returns : goal.returns
returns c = least_written c.one_rendering.ensures
