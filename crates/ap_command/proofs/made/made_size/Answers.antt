use Rattle.std.proofs.Common.{◌≡◌, ◌+◌, ◌-◌, arith, ap, length}
use Rattle.ap_command.specs.Working.{sentences_from}
use Rattle.ap_command.proofs.Making.{one-more, no-more-bytes, head-short, tail-short}
use Rattle.ap_command.proofs.made.made_size.Goals as goal

pub loop-number-preserved : goal.loop-number-preserved
loop-number-preserved c =
    let n = c.loop-number.number in
    let m = c.args.sentences - n in
    let less : m - 1 ≡ c.args.sentences - (n + 1) = omega arith in
    let more = one-more n m c.loop-number.size (omega (arith, c.loop-number-test.true)) in
    let behind = ap (λ k. length (sentences_from (n + 1) k)) less in
    record {
      whole = omega (
        arith,
        c.loop-number.invariant.whole,
        more,
        behind,
        ap length c.head.ensures,
        ap length c.format.ensures.text,
        ap length c.tail.ensures,
      );
      bound = omega (
        arith,
        c.loop-number.invariant.bound,
        head-short n,
        tail-short n,
        ap length c.head.ensures,
        c.format.ensures.short,
        ap length c.tail.ensures,
      );
      within = omega (arith, c.loop-number-test.true);
    }

pub returns : goal.returns
returns c = no-more-bytes c.loop-number.number (c.args.sentences - c.loop-number.number)
    c.loop-number.size _ (omega (arith, c.loop-number-test.false, c.loop-number.invariant.within))
    c.loop-number.invariant.whole
