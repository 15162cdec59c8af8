use Rattle.std.proofs.Common.{arith}
use Rattle.ap_symbol.specs.Case.{is_upper_lem}
use Rattle.ap_symbol.proofs.Letters.{seen_letter, seen_other, pick_zero, pick_more}
use Rattle.ap_symbol.proofs.recasing.case_of_symbols.Goals.{in-Letter, then-count-eq0, else-count-eq0, in_default}
use Rattle.ap_symbol.proofs.recasing.case_of_symbols.Goals as goal

pub loop-symbol-preserved : goal.loop-symbol-preserved
loop-symbol-preserved c = elim c.match-symbol.branch [
  | in-Letter w ↦ (elim w.if-count-eq0.branch [
    | then-count-eq0 w' ↦ record {
      seen = seen_letter is_upper_lem _ _ _ _ _ _ _ _ _ _ _ c.loop-symbol-test.true c.symbol-item.is
          w.in-Letter.is c.loop-symbol.invariant.seen w.is_upper-last_upper.ensures w.count-is
          (pick_zero _ _ _ _ _ w'.if-count-eq0.true w.first_upper-is w'.first_upper-is)
          w.last_upper-is;
      few = omega arith;
    }
    | else-count-eq0 w' ↦ record {
      seen = seen_letter is_upper_lem _ _ _ _ _ _ _ _ _ _ _ c.loop-symbol-test.true c.symbol-item.is
          w.in-Letter.is c.loop-symbol.invariant.seen w.is_upper-last_upper.ensures w.count-is
          (pick_more _ _ _ _ _ w'.if-count-eq0.false w.first_upper-is w'.first_upper-is)
          w.last_upper-is;
      few = omega arith;
    }
  ])
  | in_default w ↦ record {
    seen = seen_other is_upper_lem _ _ _ _ _ _ _ _ _ c.loop-symbol-test.true c.symbol-item.is
        w.in_default.not-Letter c.loop-symbol.invariant.seen w.count-is w.first_upper-is
        w.last_upper-is;
    few = omega arith;
  }
]
