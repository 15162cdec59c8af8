-- One count for all names.
use Rattle.std.proofs.Common.{◌≡◌, ℕ, List, Result, IsErrOf, ap, arith}
use Rattle.ap_outside.specs.Causes.{HasLoadCause, SparesStoreFaults, raised}
use Rattle.ap_outside.specs.StoreCauses.{HasStoreCause, SparesLoadFaults}
use Rattle.ap_outside.specs.declared.files.LoadRefusal.{LoadRefusal}
use Rattle.ap_outside.specs.declared.files.LoadRefusal.TheVariants.{Failed}
use Rattle.ap_outside.specs.declared.files.StoreRefusal.{StoreRefusal}

for_all : (now before : ℕ) → now ≡ before → ◌≡◌ {A = List ℕ → ℕ} (λ name. now) (λ name. before)
for_all now before e = let by : ℕ → List ℕ → ℕ = λ count name. count in ap by e

pub spares_loads : {T : Type 0} (before now : ℕ) (result : Result T StoreRefusal) →
    HasStoreCause before now result → SparesLoadFaults (λ name. before) (λ name. now) result
spares_loads before now result cause = record {
  later = λ other. cause.later;
  stays = λ calm. for_all now before (cause.stays calm);
}

pub loads_cause : {T : Type 0} (before now : ℕ) (name : List ℕ) (result : Result T LoadRefusal) →
    SparesStoreFaults before now result → (IsErrOf result Failed → now ≡ raised before) →
    HasLoadCause (λ other. before) (λ other. now) name result
loads_cause before now name result cause rises = record {
  later = λ other. cause.later;
  failed = λ f. (let e : now ≡ raised before = rises f in omega arith);
  stays = λ calm. for_all now before (cause.stays calm);
}
