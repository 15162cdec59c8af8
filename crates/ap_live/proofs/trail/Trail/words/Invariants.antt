use Rattle.std.proofs.Common.{List}
use Rattle.ap_symbol.specs.Words.{AreProper}
use Rattle.ap_symbol.specs.declared.symbol.Symbol.{Symbol}
use Rattle.ap_fst.specs.Lists.{IsIn}
use Rattle.ap_live.specs.Outlines.{IsOutline}
use Rattle.ap_live.proofs.TrailLaws.{AreWritten}
use Rattle.ap_live.proofs.trail.Trail.words.Given as goal

abbrev pub invariant-loop-at : goal.invariant-loop-at
invariant-loop-at l = record {
  written : IsOutline l.fst.edges l.outline → AreWritten l.fst l.nodes l.low l.at l.words.items;
  proper : (w : List Symbol) → IsIn w l.words.items → AreProper w;
}
