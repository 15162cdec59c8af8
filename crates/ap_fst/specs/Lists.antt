pub use Rattle.ap_symbol.specs.Lists.{IsIn}
use Rattle.std.specs.Prelude.{◌≡◌, ℕ, ◌-◌, ◌<◌, ◌≤◌, ◌==◌, List, [], ◌∷◌, length, take, drop, slice_index_or}
use Rattle.std.specs.List.{filter}
use Rattle.std.specs.declared.cmp.Ordering.{Ordering}
use Rattle.std.specs.declared.cmp.Ordering.TheVariants.{Less}

-- each item stands before all that follow it
abbrev pub Ascends : {X : Type 0} → (X → X → Ordering) → List X → Type 0
Ascends cmp [] = Unit {0}
Ascends {X} cmp (x ∷ xs) = ((y : X) → IsIn y xs → cmp x y ≡ Less) × Ascends cmp xs

-- in a list whose keys do not fall, the items before this place, and no others, have a key below
-- this one
pub record IsLow {X : Type 0} (key : X → ℕ) (s : ℕ) (xs : List X) (at : ℕ) : Type 0 where
  pub end : at ≤ length xs
  pub below : (k : ℕ) (d : X) → k < at → key (slice_index_or xs k d) < s
  pub above : (k : ℕ) (d : X) → at ≤ k → k < length xs → s ≤ key (slice_index_or xs k d)

-- in a list whose keys do not fall, the items with this key stand at the places from low up to high
pub record IsKeyRange {X : Type 0} (key : X → ℕ) (s : ℕ) (xs : List X) (low high : ℕ) : Type 0 where
  pub rises : low ≤ high
  pub end : high ≤ length xs
  pub part : take (high - low) (drop low xs) ≡ filter (λ x. key x == s) xs
  pub inside : (k : ℕ) (d : X) → low ≤ k → k < high → key (slice_index_or xs k d) ≡ s
  pub below : (k : ℕ) (d : X) → k < low → key (slice_index_or xs k d) < s
  pub above : (k : ℕ) (d : X) → high ≤ k → k < length xs → s < key (slice_index_or xs k d)
