use Rattle.ap_binary.proofs.Inverses.{spells_texts}
use Rattle.ap_binary.proofs.laws.spells_texts.Goals as goal

pub returns : goal.returns
returns c = spells_texts
