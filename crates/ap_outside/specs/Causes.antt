use Rattle.std.specs.Prelude.{◌≡◌, ℕ, ◌+◌, ◌-◌, ◌^◌, ◌≤◌, min, List, Result, OnOk, OnErr, IsErrOf}
use Rattle.ap_outside.specs.declared.files.LoadRefusal.{LoadRefusal}
use Rattle.ap_outside.specs.declared.files.LoadRefusal.TheVariants.{Failed}

-- a count that is raised by one, and stands still at its end
abbrev pub raised : ℕ → ℕ
raised count = min (count + 1) (2 ^ 64 - 1)

-- the count has risen, or stands at its end
abbrev pub Rose : ℕ → ℕ → Type 0
Rose before now = raised before ≤ now

-- a count of faults never falls, rises where the call failed, and stays where it did not
pub record HasCause {T E : Type 0} (before now : ℕ) (result : Result T E) : Type 0 where
  pub later : before ≤ now
  pub failed : OnErr result (Rose before now)
  pub stays : OnOk result (now ≡ before)

-- the same of the counts by name, for a load of this name
pub record HasLoadCause {T : Type 0} (before now : List ℕ → ℕ) (name : List ℕ)
    (result : Result T LoadRefusal) : Type 0 where
  pub later : (other : List ℕ) → before other ≤ now other
  pub failed : IsErrOf result Failed → Rose (before name) (now name)
  pub stays : (IsErrOf result Failed → ⊥) → now ≡ before

-- of a load: the count of faults of stores never falls, and stays where the load did not fail
pub record SparesStoreFaults {T : Type 0} (before now : ℕ)
    (result : Result T LoadRefusal) : Type 0 where
  pub later : before ≤ now
  pub stays : (IsErrOf result Failed → ⊥) → now ≡ before
