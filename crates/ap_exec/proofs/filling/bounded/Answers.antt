use Rattle.std.proofs.Common.{arith, ap, length, List, ℕ}
use Rattle.ap_exec.proofs.Fills.{within_over, within_all}
use Rattle.ap_exec.proofs.filling.bounded.Goals as goal

pub returns-then-as_slice-gt-SPAN_MAX : goal.returns-then-as_slice-gt-SPAN_MAX
returns-then-as_slice-gt-SPAN_MAX c =
    within_over c.args.out (let same = ap (λ (xs : List ℕ). length xs) c.as_slice.ensures in
    omega (arith, same, c.if-as_slice-gt-SPAN_MAX.true))

pub returns : goal.returns
returns c = within_all c.args.out (let same = ap (λ (xs : List ℕ). length xs) c.as_slice.ensures in
    omega (arith, same, c.if-as_slice-gt-SPAN_MAX.false))
