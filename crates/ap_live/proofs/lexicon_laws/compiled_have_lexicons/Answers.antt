use Rattle.ap_live.proofs.Coherence.{coherent, lexicon_is}
use Rattle.ap_live.proofs.lexicon_laws.compiled_have_lexicons.Goals as goal

pub returns-clause-exact : goal.returns-clause-exact
returns-clause-exact c = lexicon_is c.one_rendering.ensures

pub returns-clause-coherent : goal.returns-clause-coherent
returns-clause-coherent c = coherent
