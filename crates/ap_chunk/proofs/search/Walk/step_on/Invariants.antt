use Rattle.std.proofs.Common.{◌≡◌, ◌-◌, length}
use Rattle.ap_chunk.specs.Parts.{parts_of}
use Rattle.ap_chunk.specs.Kept.{AllKept}
use Rattle.ap_chunk.specs.Searching.{IsWalk}
use Rattle.ap_chunk.specs.Tests.{row_of}
use Rattle.ap_chunk.proofs.search.Walk.step_on.Given as goal

abbrev pub invariant-loop-self : goal.invariant-loop-self
invariant-loop-self l = record {
  walk : IsWalk (parts_of l.rules l.reads) l.self;
  patterns : l.self.choosing.patterns ≡ l.fn.self.choosing.patterns;
  kept : AllKept (row_of l.rules) l.kept;
}

abbrev pub decreases-loop-self : goal.decreases-loop-self
decreases-loop-self l = length l.reads - l.self.seen
