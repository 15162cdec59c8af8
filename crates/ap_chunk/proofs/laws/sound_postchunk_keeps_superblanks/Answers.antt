use Rattle.ap_chunk.proofs.StagesKept.{sound_postchunk_keeps}
use Rattle.ap_chunk.proofs.laws.sound_postchunk_keeps_superblanks.Goals as goal

pub returns : goal.returns
returns c = sound_postchunk_keeps
