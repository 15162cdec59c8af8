use Rattle.std.proofs.Common.{◌≤◌, take}
use Rattle.ap_live.specs.Readings.{parted_size}
use Rattle.ap_live.proofs.readings.are_longer.Given as goal

abbrev pub invariant-loop-word : goal.invariant-loop-word
invariant-loop-word l = l.bytes ≤ parted_size (take l.word-index l.words)
