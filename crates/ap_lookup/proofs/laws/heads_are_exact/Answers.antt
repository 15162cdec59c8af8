use Rattle.ap_lookup.proofs.Exactly.{heads_exact}
use Rattle.ap_lookup.proofs.laws.heads_are_exact.Goals as goal

pub returns : goal.returns
returns c = heads_exact c.one_rendering.ensures
