-- The greatest number up to a bound that passes a test.
use Rattle.std.specs.Prelude.{ℕ, suc, zero, Bool, if◌then◌else◌}

-- the greatest number from 1 to the bound that passes, or 0
abbrev pub greatest : (ℕ → Bool) → ℕ → ℕ
greatest test zero = 0
greatest test (suc n) = if test (suc n) then suc n else greatest test n
