use Rattle.ap_rules.proofs.SectionsSound.{spelled_sound}
use Rattle.ap_rules.proofs.laws.spells_is_sound.Goals as goal

pub returns : goal.returns
returns c = spelled_sound
