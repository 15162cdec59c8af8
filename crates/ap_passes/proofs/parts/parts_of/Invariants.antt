use Rattle.std.proofs.Common.{◌≡◌, ◌≤◌, ◌++◌}
use Rattle.std.specs.List.{filter}
use Rattle.ap_passes.specs.Splitting.{is_filled, parts, parts_from}
use Rattle.ap_passes.proofs.parts.parts_of.Given as goal

abbrev pub invariant-loop-at : goal.invariant-loop-at
invariant-loop-at l = record {
  begun : l.from ≤ l.at;
  rest : l.words ++ filter is_filled (parts_from l.from l.at l.word)
      ≡ filter is_filled (parts l.word);
}
