use Rattle.ap_symbol.specs.Alphabet.{has_letter}
use Rattle.ap_live.specs.Lexicon.{lexicon_of}
use Rattle.ap_live.specs.Relations.{relation_of, Passes}
use Rattle.ap_live.proofs.Coherence.{lexicon_is}
use Rattle.ap_live.proofs.Lexicons.{one_lexicon, lexicon_same}
use Rattle.ap_live.proofs.lexicon_laws.same_relation_same_lexicon.Goals as goal

pub returns-clause-accepted : goal.returns-clause-accepted
returns-clause-accepted c =
    λ lexicon sensitive letters others p q. lexicon_same lexicon sensitive letters others
    (relation_of p) (relation_of q)

pub returns-clause-tested : goal.returns-clause-tested
returns-clause-tested c =
    λ lexicon sensitive letters others p test. lexicon_same lexicon sensitive letters others
    (relation_of p) (Passes test)

pub returns-clause-compiled : goal.returns-clause-compiled
returns-clause-compiled c = λ sensitive p q pc pp qc qp same agree.
    one_lexicon sensitive (has_letter q.alphabet) (relation_of q) (lexicon_of p sensitive)
    (lexicon_of q sensitive)
    (lexicon_same (lexicon_of p sensitive) sensitive (has_letter p.alphabet) (has_letter q.alphabet)
    (relation_of p) (relation_of q) same agree
    (lexicon_is c.one_rendering.ensures p sensitive pc pp))
    (lexicon_is c.one_rendering.ensures q sensitive qc qp)
