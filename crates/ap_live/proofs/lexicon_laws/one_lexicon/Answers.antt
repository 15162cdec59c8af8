use Rattle.ap_live.specs.Relations.{relation_of, Passes}
use Rattle.ap_live.proofs.Lexicons.{one_lexicon}
use Rattle.ap_live.proofs.lexicon_laws.one_lexicon.Goals as goal

pub returns-clause-accepted : goal.returns-clause-accepted
returns-clause-accepted c = λ sensitive letters p. one_lexicon sensitive letters (relation_of p)

pub returns-clause-tested : goal.returns-clause-tested
returns-clause-tested c = λ sensitive letters test. one_lexicon sensitive letters (Passes test)
