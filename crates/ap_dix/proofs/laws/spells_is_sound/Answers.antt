use Rattle.ap_dix.proofs.Sound.{spelled_sound}
use Rattle.ap_dix.proofs.laws.spells_is_sound.Goals as goal

pub returns : goal.returns
returns c = spelled_sound
