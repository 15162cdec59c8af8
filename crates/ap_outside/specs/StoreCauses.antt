use Rattle.std.specs.Prelude.{◌≡◌, ℕ, ◌≤◌, List, Result, IsErrOf}
use Rattle.ap_outside.specs.Causes.{Rose}
use Rattle.ap_outside.specs.declared.files.StoreRefusal.{StoreRefusal}
use Rattle.ap_outside.specs.declared.files.StoreRefusal.TheVariants.{Failed}

-- the count of faults of stores never falls, rises where the store failed, and stays where it did
-- not
pub record HasStoreCause {T : Type 0} (before now : ℕ)
    (result : Result T StoreRefusal) : Type 0 where
  pub later : before ≤ now
  pub failed : IsErrOf result Failed → Rose before now
  pub stays : (IsErrOf result Failed → ⊥) → now ≡ before

-- of a store: no count of faults of loads falls, and all stay where the store did not fail
pub record SparesLoadFaults {T : Type 0} (before now : List ℕ → ℕ)
    (result : Result T StoreRefusal) : Type 0 where
  pub later : (other : List ℕ) → before other ≤ now other
  pub stays : (IsErrOf result Failed → ⊥) → now ≡ before
