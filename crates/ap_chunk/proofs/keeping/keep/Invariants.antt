use Rattle.std.proofs.Common.{◌≡◌, ◌++◌, drop}
use Rattle.std.specs.List.{filter}
use Rattle.ap_chunk.specs.Choice.{unit_of}
use Rattle.ap_chunk.specs.Live.{stays, finishes, least_from}
use Rattle.ap_chunk.proofs.keeping.keep.Given as goal

abbrev pub invariant-rules : goal.invariant-rules
invariant-rules l = record {
  kept : l.kept.items ++ filter (stays l.patterns l.count (unit_of l.unit))
      (drop l.rule-index l.live) ≡ l.fn.kept.items
      ++ filter (stays l.patterns l.count (unit_of l.unit)) l.live;
  over : least_from l.least
      (filter (finishes l.patterns l.count (unit_of l.unit)) (drop l.rule-index l.live))
      ≡ least_from l.fn.over (filter (finishes l.patterns l.count (unit_of l.unit)) l.live);
}
