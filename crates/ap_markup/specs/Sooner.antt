-- Of two faults the one that comes first, as the code finds it.
use Rattle.std.specs.Prelude.{ℕ, Bool, ◌&&◌, ◌||◌, ◌==◌, nat_lt, Option, Some, None, if◌then◌else◌}

-- by their places and then by their numbers
abbrev pub is_before : {F : Type 0} → (F → ℕ × ℕ) → F → F → Bool
is_before order f g = nat_lt (order f).0 (order g).0
    || ((order f).0 == (order g).0 && nat_lt (order f).1 (order g).1)

-- the first of two
abbrev pub sooner : {F : Type 0} → (F → ℕ × ℕ) → Option F → Option F → Option F
sooner order None g = g
sooner order (Some f) None = Some f
sooner order (Some f) (Some g) = if is_before order g f then Some g else Some f

-- a fault where this holds
abbrev pub when : {F : Type 0} → Bool → F → Option F
when b f = if b then Some f else None
