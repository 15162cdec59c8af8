use Rattle.std.proofs.Common.{◌≡◌, ◌++◌, take}
use Rattle.std.specs.List.{flat_map}
use Rattle.ap_chunk.specs.Matches.{inner_blanks}
use Rattle.ap_chunk.proofs.matches.push_inner_blanks.Given as goal

abbrev pub invariant-loop-part : goal.invariant-loop-part
invariant-loop-part l = l.into ≡ l.fn.into ++ flat_map inner_blanks (take l.part-index l.parts)
