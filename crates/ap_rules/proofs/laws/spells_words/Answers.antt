use Rattle.ap_rules.proofs.WordedRules.{spelled_worded}
use Rattle.ap_rules.proofs.laws.spells_words.Goals as goal

pub returns : goal.returns
returns c = spelled_worded
