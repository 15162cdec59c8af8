use Rattle.ap_analysis.specs.Fronts.{AreRead}
use Rattle.ap_analysis.specs.Searching.{IsSearch}
use Rattle.ap_analysis.proofs.seek.found_in.Given as goal

abbrev pub invariant-loop : goal.invariant-loop
invariant-loop l = record {
  search : IsSearch l.compiled l.sensitive l.reads.items l.search;
  read : AreRead l.piece l.reads.items;
}
