use Rattle.ap_binary.proofs.Numbers.{stops_at, is_read, goes_on}
use Rattle.ap_binary.proofs.pieces.value.Goals as goal

pub returns-in_default : goal.returns-in_default
returns-in_default c = stops_at c.digits.value c.digits.digit-index 0 c.args.digits.now
    c.digits-test.true c.in_default.ensures c.digits.invariant.same

pub returns : goal.returns
returns c = is_read c.digits.value c.digits.digit-index c.args.digits.now c.digits-test.false
    c.digits.invariant.small c.digits.invariant.same

pub digits-preserved : goal.digits-preserved
digits-preserved c =
    let k = goes_on c.digits.value c.in-Some.next c.digits.digit-index 0 c.args.digits.now
    c.digits-test.true c.in-Some.ensures c.digits.invariant.same in
    record { same = k.0; small = k.1 }
