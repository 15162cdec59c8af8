use Rattle.ap_chunk.proofs.StagesKept.{sound_gives_written, sound_transfer_keeps}
use Rattle.ap_chunk.proofs.laws.sound_transfer_keeps_superblanks.Goals as goal

pub returns-clause-gives : goal.returns-clause-gives
returns-clause-gives c = sound_gives_written

pub returns-clause-keeps : goal.returns-clause-keeps
returns-clause-keeps c = sound_transfer_keeps
