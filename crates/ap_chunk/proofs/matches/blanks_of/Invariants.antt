use Rattle.std.proofs.Common.{◌≡◌, take}
use Rattle.ap_chunk.specs.Matches.{blanks_of}
use Rattle.ap_chunk.proofs.matches.blanks_of.Given as goal

abbrev pub invariant-loop-read : goal.invariant-loop-read
invariant-loop-read l = l.made ≡ blanks_of (take l.read-index l.reads)
