-- Of the inside: no public contract stands on this file.
use Rattle.std.specs.Prelude.{ℕ, ◌+◌, ◌-◌, ◌^◌, min, Bool, List, ◌==◌}
use Rattle.std.specs.List.{list_any}

-- The number of the next call, where so many were made. It stands still at its end.
abbrev pub next_call : ℕ → ℕ
next_call calls = min (calls + 1) (2 ^ 64 - 1)

-- Whether the next call is one of those that are to fail.
abbrev pub is_listed : List ℕ → ℕ → Bool
is_listed failing calls = list_any (λ number. number == next_call calls) failing
