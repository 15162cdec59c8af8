use Rattle.std.specs.Prelude.{◌≡◌, ◌↔◌, ℕ, ◌==◌, Bool, true, List, slice_get}
use Rattle.std.specs.Option.{unwrap_or}
use Rattle.std.specs.List.{list_any}
use Rattle.ap_fst.specs.Lists.{IsIn}

-- a state that has a mark is known by it, another one by standing among the further states
abbrev pub is_known : List Bool → List ℕ → ℕ → Bool
is_known marks further s = unwrap_or (slice_get marks s) (list_any (λ y. s == y) further)

-- the known states are those of the list
abbrev pub AreKnown : List Bool → List ℕ → List ℕ → Type 0
AreKnown marks further states = (s : ℕ) → (is_known marks further s ≡ true) ↔ IsIn s states
