use Rattle.std.proofs.Common.{arith, ◌∙◌, ◌+◌, ◌*◌, ◌≡◌, ◌-◌, drop, get_or}
use Rattle.ap_chunk.proofs.ChunkWords.{number_next, number_beyond}
use Rattle.ap_chunk.proofs.chunks.number_within.Goals as goal

pub returns-then-number-most-clause-beyond : goal.returns-then-number-most-clause-beyond
returns-then-number-most-clause-beyond c = λ _.
    let n = c.loop-digit.number * 10 + c.from.result in
    let m : n ≡ c.loop-digit.number * 10 +
    (get_or c.args.digits.now c.loop-digit.digit-index 0 - 48) =
    omega (arith, c.from.ensures, c.saturating_sub.ensures) in
    let e = c.loop-digit.invariant.so_far
    ∙ number_next c.loop-digit.number c.loop-digit.digit-index n c.args.digits.now
    c.loop-digit-test.true m in
    let b = number_beyond c.args.most n (drop (c.loop-digit.digit-index + 1) c.args.digits.now)
    c.if-number-most.true in
    omega (arith, e, b)

pub loop-digit-preserved : goal.loop-digit-preserved
loop-digit-preserved c =
    let n = c.loop-digit.number * 10 + c.from.result in
    let m : n ≡ c.loop-digit.number * 10 +
    (get_or c.args.digits.now c.loop-digit.digit-index 0 - 48) =
    omega (arith, c.from.ensures, c.saturating_sub.ensures) in
    record {
      within = c.if-number-most.false;
      so_far = c.loop-digit.invariant.so_far
          ∙ number_next c.loop-digit.number c.loop-digit.digit-index n c.args.digits.now
          c.loop-digit-test.true m;
    }
