use Rattle.std.proofs.Common.{◌+◌, ◌∙◌, arith, get_or, sym}
use Rattle.std.proofs.lemmas.List.{drop_more}
use Rattle.ap_binary.proofs.ShortNumbers.{begun, read_on}
use Rattle.ap_binary.proofs.pieces.short_number.Goals as goal

pub digits-init : goal.digits-init
digits-init c = record {
  so_far = begun c.args.bytes.now;
  within = omega arith;
  small = omega arith;
}

pub digits-preserved : goal.digits-preserved
digits-preserved c = record {
  so_far = read_on c.args.bytes.now c.digits.value c.digits.len
      (get_or c.args.bytes.now c.digits.len 0)
      (drop_more c.args.bytes.now c.digits.len 0 c.digits-test.true)
      (sym c.is_digit.ensures ∙ c.if-not-is_digit.false) c.digits.invariant.so_far;
  within = omega (arith, c.digits-test.true);
  small = omega (arith, c.if-value-ge-SHORT.false, c.type_inv.bytes c.digits.len);
}
