use Rattle.std.proofs.Common.{ℕ}
use Rattle.ap_live.specs.Outlines.{AreFirsts, SoFar}
use Rattle.ap_live.proofs.outline.lengthen.Given as goal

abbrev pub invariant-loop : goal.invariant-loop
invariant-loop l = record {
  firsts : AreFirsts l.edges l.initial.firsts.items →
      SoFar l.edges l.initial.firsts.items l.place l.codes →
      AreFirsts l.edges l.firsts.items × SoFar l.edges l.firsts.items l.place l.codes;
  so_far : (codes : ℕ) → SoFar l.edges l.initial.firsts.items l.place codes →
      SoFar l.edges l.firsts.items l.place codes;
}
