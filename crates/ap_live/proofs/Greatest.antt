-- The greatest number up to a bound that passes a test.
use Rattle.std.proofs.Common.{◌≡◌, ℕ, suc, zero, ◌-◌, ◌<◌, ◌≤◌, Bool, true, false, arith, sym, ap, ◌∙◌, refl, inl, inr, ◌⊎◌}
use Rattle.std.specs.Prelude.{if◌then◌else◌}
use Rattle.std.proofs.lemmas.Bool.{cases_lt, cases_Bool}
use Rattle.ap_live.specs.Greatest.{greatest}

within_step : (t : Bool) (bound g : ℕ) → g ≤ bound → (if t then suc bound else g) ≤ suc bound
within_step true bound g h = omega arith
within_step false bound g h = omega arith

pub greatest_within : (test : ℕ → Bool) (bound : ℕ) → greatest test bound ≤ bound
greatest_within test zero = omega arith
greatest_within test (suc bound) =
    within_step (test (suc bound)) bound (greatest test bound) (greatest_within test bound)

passes_step : (test : ℕ → Bool) (t : Bool) (bound g : ℕ) → test (suc bound) ≡ t →
    (g ≡ 0) ⊎ (test g ≡ true) → ((if t then suc bound else g) ≡ 0)
    ⊎ (test (if t then suc bound else g) ≡ true)
passes_step test true bound g e h = inr e
passes_step test false bound g e h = h

pub greatest_passes : (test : ℕ → Bool) (bound : ℕ) → (greatest test bound ≡ 0)
    ⊎ (test (greatest test bound) ≡ true)
greatest_passes test zero = inl (omega arith)
greatest_passes test (suc bound) =
    passes_step test (test (suc bound)) bound (greatest test bound) refl
    (greatest_passes test bound)

above_step : (test : ℕ → Bool) (t : Bool) (bound g m : ℕ) → test (suc bound) ≡ t →
    (g < m → m ≤ bound → test m ≡ false) → (if t then suc bound else g) < m → m ≤ suc bound →
    test m ≡ false
above_step test true bound g m e h more le = absurd (omega arith)
above_step test false bound g m e h more le =
    elim (cases_lt m (suc bound)) [
      | inl lt ↦ h more (omega arith)
      | inr ge ↦ ap test (let same : m ≡ suc bound = omega arith in same) ∙ e
    ]

pub greatest_above : (test : ℕ → Bool) (bound m : ℕ) → greatest test bound < m → m ≤ bound →
    test m ≡ false
greatest_above test zero m more le = absurd (omega arith)
greatest_above test (suc bound) m more le =
    above_step test (test (suc bound)) bound (greatest test bound) m refl
    (greatest_above test bound m) more le

-- a number that passes is no greater
pub greatest_reaches : (test : ℕ → Bool) (bound m : ℕ) → m ≤ bound → test m ≡ true →
    m ≤ greatest test bound
greatest_reaches test bound m le t =
    elim (cases_lt (greatest test bound) m) [
      | inl more ↦ absurd (let f : test m ≡ false = greatest_above test bound m more le in
          let no : true ≡ false = sym t ∙ f in cc)
      | inr ge ↦ ge
    ]

below : (test : ℕ → Bool) (bound n : ℕ) → n ≤ suc bound → (n ≡ 0) ⊎ (test n ≡ true) →
    test (suc bound) ≡ false → n ≤ bound
below test bound n h (inl z) f = omega arith
below test bound n h (inr t) f =
    elim (cases_lt n (suc bound)) [
      | inl lt ↦ omega arith
      | inr ge ↦ let e : n ≡ suc bound = omega arith in let same : test n ≡ test (suc bound) =
          ap test e in absurd (let no : true ≡ false = sym t ∙ same ∙ f in cc)
    ]

-- it is the one above which none passes
pub greatest_is : (test : ℕ → Bool) (bound n : ℕ) → n ≤ bound → (n ≡ 0) ⊎ (test n ≡ true) →
    ((m : ℕ) → n < m → m ≤ bound → test m ≡ false) → greatest test bound ≡ n
greatest_is test zero n h p none = omega arith
greatest_is test (suc bound) n h p none =
    elim (cases_Bool (test (suc bound))) [
      | inl t ↦ ap (λ b. if b then suc bound else greatest test bound) t
          ∙ (elim (cases_lt n (suc bound)) [
            | inl lt ↦ let f : test (suc bound) ≡ false = none (suc bound) lt (omega arith) in cc
            | inr ge ↦ omega arith
          ])
      | inr f ↦ ap (λ b. if b then suc bound else greatest test bound) f
          ∙ greatest_is test bound n (below test bound n h p f) p
          (λ m lt le. none m lt (omega arith))
    ]

cut_case : (test : ℕ → Bool) (bound v m : ℕ) → ((k : ℕ) → v < k → k ≤ bound → test k ≡ false) →
    greatest test v < m → m ≤ bound → (v < m) ⊎ (m ≤ v) → test m ≡ false
cut_case test bound v m none more le (inl above) = none m above le
cut_case test bound v m none more le (inr under) = greatest_above test v m more under

-- where none passes above a lesser bound, that bound serves
pub greatest_cut : (test : ℕ → Bool) (bound v : ℕ) → v ≤ bound →
    ((m : ℕ) → v < m → m ≤ bound → test m ≡ false) → greatest test bound ≡ greatest test v
greatest_cut test bound v h none =
    let w = greatest_within test v in
    greatest_is test bound (greatest test v) (omega arith) (greatest_passes test v)
    (λ m more le. cut_case test bound v m none more le (cases_lt v m))

-- two tests that agree up to the bound
pub greatest_same : (t u : ℕ → Bool) (bound : ℕ) → ((m : ℕ) → m ≤ bound → t m ≡ u m) →
    greatest t bound ≡ greatest u bound
greatest_same t u zero same = refl
greatest_same t u (suc bound) same =
    ap (λ b. if b then suc bound else greatest t bound) (same (suc bound) (omega arith))
    ∙ ap (λ g. if u (suc bound) then suc bound else g)
    (greatest_same t u bound (λ m le. same m (omega arith)))

-- one down, where the bound does not pass, and at the bound, where it does
pub greatest_down : (test : ℕ → Bool) (n : ℕ) → 0 < n → test n ≡ false →
    greatest test n ≡ greatest test (n - 1)
greatest_down test zero some fails = absurd (omega arith)
greatest_down test (suc n) some fails = let one : suc n - 1 ≡ n = omega arith in
    rw (fails, one) refl

pub greatest_here : (test : ℕ → Bool) (n : ℕ) → 0 < n → test n ≡ true → greatest test n ≡ n
greatest_here test zero some passes = absurd (omega arith)
greatest_here test (suc n) some passes = rw passes refl
