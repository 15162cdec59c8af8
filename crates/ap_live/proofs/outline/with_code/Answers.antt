use Rattle.std.specs.Prelude.{bit_or, ◌*◌, ◌%◌, ◌≡◌}
use Rattle.std.proofs.Common.{◌^◌, subst, ℕ}
use Rattle.std.specs.Int.{bit_at, w32}
use Rattle.std.proofs.lemmas.Nat.Bits.{bit_at_set_same}
use Rattle.ap_live.proofs.Codes.{one_bit, stays_set}
use Rattle.ap_live.proofs.outline.with_code.Goals as goal

pub returns-in-None-clause-has : goal.returns-in-None-clause-has
returns-in-None-clause-has c = λ b is. absurd (c.bit_of.ensures.none c.in-None.is b is)

pub returns-in-Some-clause-has : goal.returns-in-Some-clause-has
returns-in-Some-clause-has c = λ b is.
    let own = c.bit_of.ensures.some c.in-Some.bit c.in-Some.is in
    subst (λ (z : ℕ). bit_at (bit_or c.args.codes (1 * 2 ^ c.in-Some.bit % 2 ^ 32)) z ≡ 1)
    (one_bit c.args.code c.in-Some.bit b own.0 is)
    (bit_at_set_same w32 c.args.codes c.in-Some.bit own.1)

pub returns-in-Some-clause-kept : goal.returns-in-Some-clause-kept
returns-in-Some-clause-kept c = λ b set.
    stays_set c.args.codes (1 * 2 ^ c.in-Some.bit % 2 ^ 32) b set
