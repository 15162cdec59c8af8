use Rattle.std.proofs.Common.{◌≡◌, ◌++◌, List, length}
use Rattle.ap_stream.specs.declared.item.Read.{Read}
use Rattle.ap_analysis.specs.Fronts.{AreRead}
use Rattle.ap_analysis.proofs.seek.read_on.Given as goal

abbrev pub invariant-loop-at : goal.invariant-loop-at
invariant-loop-at l = record {
  read : AreRead l.piece l.reads.items;
  place : length l.reads.items ≡ l.at;
  grown : (more : List Read) × (l.reads.items ≡ l.initial.reads.items ++ more);
}
