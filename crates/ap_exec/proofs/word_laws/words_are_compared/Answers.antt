use Rattle.ap_exec.proofs.WordLaws.{equals_is_equality, begins_is_a_front, ends_is_a_back, contains_is_within, some_is_an_item}
use Rattle.ap_exec.proofs.word_laws.words_are_compared.Goals as goal

pub returns-clause-equals : goal.returns-clause-equals
returns-clause-equals c = equals_is_equality

pub returns-clause-begins : goal.returns-clause-begins
returns-clause-begins c = begins_is_a_front

pub returns-clause-ends : goal.returns-clause-ends
returns-clause-ends c = ends_is_a_back

pub returns-clause-contains : goal.returns-clause-contains
returns-clause-contains c = contains_is_within

pub returns-clause-some : goal.returns-clause-some
returns-clause-some c = some_is_an_item
