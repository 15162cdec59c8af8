use Rattle.ap_dix.proofs.DictionaryLaws.{dictionary_found, dictionary_read}
use Rattle.ap_dix.proofs.laws.reads_what_the_grammar_spells.Goals as goal

pub returns-clause-found : goal.returns-clause-found
returns-clause-found c = dictionary_found

pub returns-clause-read : goal.returns-clause-read
returns-clause-read c = dictionary_read
