use Rattle.std.proofs.Common.{◌≡◌, ◌≤◌, ◌++◌}
use Rattle.std.specs.List.{filter}
use Rattle.ap_passes.specs.Passes.{spaced}
use Rattle.ap_passes.specs.Splitting.{is_filled, parts, parts_from}
use Rattle.ap_passes.specs.Writing.{following}
use Rattle.ap_passes.proofs.parts.write_parts.Given as goal

abbrev pub invariant-loop-at : goal.invariant-loop-at
invariant-loop-at l = record {
  begun : l.begun.from ≤ l.at;
  rest : l.into ++ following l.begun.behind (filter is_filled (parts_from l.begun.from l.at l.word))
      ≡ l.fn.into ++ spaced (filter is_filled (parts l.word));
}
