use Rattle.std.proofs.Common.{◌≡◌, ◌++◌, [], take}
use Rattle.ap_compile.specs.Gatherings.{endings, shared}
use Rattle.ap_compile.proofs.gathering.agreed.Given as goal

abbrev pub invariant-loop-count : goal.invariant-loop-count
invariant-loop-count l = l.parts ≡ l.rest ++ shared [] (take l.count (endings l.levels))
