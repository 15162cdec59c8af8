-- Which codes are told by bits.
use Rattle.std.specs.Prelude.{◌≡◌, ℕ, ◌<◌, max, bit_or}
use Rattle.std.proofs.Common.{inl, inr, arith}
use Rattle.std.specs.Int.{bit_at}
use Rattle.std.proofs.lemmas.Nat.Bits.{bit_at_or, bit_at-lt}
use Rattle.ap_live.specs.Outlines.{IsBit}

-- A bit that is set stays so.
pub stays_set : (a b i : ℕ) → bit_at a i ≡ 1 → bit_at (bit_or a b) i ≡ 1
stays_set a b i set =
    let both : bit_at (bit_or a b) i ≡ max (bit_at a i) (bit_at b i) = bit_at_or a b i in
    let small : bit_at (bit_or a b) i < 2 = bit_at-lt (bit_or a b) i in
    omega arith

-- A code has one bit.
pub one_bit : (code a b : ℕ) → IsBit code a → IsBit code b → a ≡ b
one_bit code a b (inl (is, low)) (inl (is', low')) = omega arith
one_bit code a b (inl (is, low)) (inr (is', top')) = absurd (omega arith)
one_bit code a b (inr (is, top)) (inl (is', low')) = absurd (omega arith)
one_bit code a b (inr (is, top)) (inr (is', top')) = omega arith
