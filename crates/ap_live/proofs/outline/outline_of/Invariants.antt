use Rattle.ap_live.specs.Outlines.{AreEntries, AreFirsts, SoFar}
use Rattle.ap_live.proofs.outline.outline_of.Given as goal

abbrev pub invariant-loop-place : goal.invariant-loop-place
invariant-loop-place l = record {
  firsts : AreFirsts l.edges l.firsts.items;
  so_far : SoFar l.edges l.firsts.items l.place l.codes;
  entries : AreEntries l.edges l.entries.items;
}
