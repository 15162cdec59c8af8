use Rattle.ap_lookup.proofs.Exactly.{forms_exact, forms_written}
use Rattle.ap_lookup.proofs.laws.forms_are_exact.Goals as goal

pub returns-clause-exact : goal.returns-clause-exact
returns-clause-exact c = forms_exact c.one_rendering.ensures

pub returns-clause-written : goal.returns-clause-written
returns-clause-written c = forms_written
