-- Which of some faults comes first: the one of the least place, and at one place the one of the
-- least number. A fault is ordered by its place and its number.
use Rattle.std.specs.Prelude.{◌≡◌, ◌⊎◌, ◌<◌, ◌≤◌, ℕ, Option, Some, None}

-- its place is less, or it is the same and its number is no greater
abbrev pub IsNoLater : ℕ × ℕ → ℕ × ℕ → Type 0
IsNoLater f g = (f.0 < g.0) ⊎ ((f.0 ≡ g.0) × (f.1 ≤ g.1))

-- it is one of the faults, and no later than each; or there is none
abbrev pub IsLeast : {F : Type 0} → (F → ℕ × ℕ) → (F → Type 0) → Option F → Type 0
IsLeast {F = F} order Has None = (f : F) → Has f → ⊥
IsLeast {F = F} order Has (Some f) = Has f × ((g : F) → Has g → IsNoLater (order f) (order g))
