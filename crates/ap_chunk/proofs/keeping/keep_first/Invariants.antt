use Rattle.ap_chunk.specs.Choice.{unit_of}
use Rattle.ap_chunk.specs.Live.{finishes, begun, AreBegun, IsLeast}
use Rattle.ap_chunk.proofs.keeping.keep_first.Given as goal

abbrev pub invariant-categories : goal.invariant-categories
invariant-categories l = record {
  kept : AreBegun (unit_of l.unit) l.category l.patterns l.kept.items;
  over : IsLeast (begun (unit_of l.unit) l.category l.patterns
      (finishes l.patterns 0 (unit_of l.unit))) l.least;
}
