use Rattle.std.proofs.Common.{arith, ◌+◌, ◌<◌, length, ap, List, ℕ}
use Rattle.ap_stream.specs.Limits.{span_max}
use Rattle.ap_exec.proofs.Fills.{over_more}
use Rattle.ap_exec.proofs.filling.put_bytes.Goals as goal
use Rattle.ap_exec.proofs.filling.put_bytes.Goals.{then-written-gt-SPAN_MAX-via-then-written-gt-SPAN_MAX, then-written-gt-SPAN_MAX-via-else-written-gt-SPAN_MAX+then-bytes-written}

pub returns-then-written-gt-SPAN_MAX : goal.returns-then-written-gt-SPAN_MAX
returns-then-written-gt-SPAN_MAX c =
    let same = ap (λ (xs : List ℕ). length xs) c.as_slice-written.ensures in
    let past : span_max < length c.args.out.now + length c.args.bytes.now =
    elim c.then-written-gt-SPAN_MAX.branch [
      | then-written-gt-SPAN_MAX-via-then-written-gt-SPAN_MAX w ↦
          omega (arith, same, w.if-written-gt-SPAN_MAX.true)
      | then-written-gt-SPAN_MAX-via-else-written-gt-SPAN_MAX+then-bytes-written w ↦
          omega (arith, same, w.if-written-gt-SPAN_MAX.false, w.if-bytes-written.true)
    ] in
    λ rest. over_more c.args.out.now c.args.bytes.now rest past
