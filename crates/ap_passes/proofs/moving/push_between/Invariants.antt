use Rattle.std.proofs.Common.{◌≡◌, ◌++◌}
use Rattle.ap_passes.specs.Splitting.{between}
use Rattle.ap_passes.proofs.moving.push_between.Given as goal

abbrev pub invariant-loop-at : goal.invariant-loop-at
invariant-loop-at l = l.into ≡ l.fn.into ++ between l.from l.at l.symbols
