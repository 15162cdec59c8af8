use Rattle.ap_chunk.proofs.StagesKept.{sound_interchunk_keeps}
use Rattle.ap_chunk.proofs.laws.sound_interchunk_keeps_superblanks.Goals as goal

pub returns : goal.returns
returns c = sound_interchunk_keeps
