use Rattle.std.proofs.Common.{◌≡◌, ◌++◌, take}
use Rattle.std.specs.List.{flat_map}
use Rattle.ap_stream.specs.Spelling.{slashed}
use Rattle.ap_compound.proofs.unknown.push_slashed.Given as goal

abbrev pub invariant-loop-word : goal.invariant-loop-word
invariant-loop-word l = l.into ≡ l.fn.into ++ flat_map slashed (take l.word-index l.words)
