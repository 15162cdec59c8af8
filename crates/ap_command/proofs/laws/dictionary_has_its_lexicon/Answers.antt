use Rattle.ap_command.proofs.Entries.{dictionary-lexicon}
use Rattle.ap_command.proofs.laws.dictionary_has_its_lexicon.Goals as goal

pub returns : goal.returns
returns c = dictionary-lexicon
