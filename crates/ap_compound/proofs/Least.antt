-- The least of some numbers.
use Rattle.std.proofs.Common.{◌≡◌, ◌⊎◌, inl, inr, ℕ, ◌+◌, ◌<◌, ◌≤◌, Bool, true, false, Option, Some, None, refl, sym, subst, ◌∙◌, arith}
use Rattle.std.specs.Prelude.{nat_le, if◌then◌else◌}
use Rattle.std.proofs.lemmas.Bool.{cases_lt}
use Rattle.std.proofs.lemmas.Bool.Decides.{nat_tests}
use Rattle.std.proofs.lemmas.Option.{none-some, same_Some}
use Rattle.ap_compound.specs.Places.{IsLeast, lesser}

-- it is there, and no more than this
abbrev pub IsNoMore : Option ℕ → ℕ → Type 0
IsNoMore found m = (k : ℕ) × ((found ≡ Some k) × (k ≤ m))

either_of : (b : Bool) (m n k : ℕ) → (if b then Some m else Some n) ≡ Some k →
    (Some m ≡ Some k) ⊎ (Some n ≡ Some k)
either_of true m n k e = inl e
either_of false m n k e = inr e

lesser_is : (a b : Option ℕ) (k : ℕ) → lesser a b ≡ Some k → (a ≡ Some k) ⊎ (b ≡ Some k)
lesser_is None b k e = inr e
lesser_is (Some m) None k e = inl e
lesser_is (Some m) (Some n) k e = either_of (nat_le m n) m n k e

no_more_left : (b : Bool) (m n : ℕ) → nat_le m n ≡ b →
    IsNoMore (if b then Some m else Some n) m
no_more_left true m n e = (m, (refl, omega arith))
no_more_left false m n e = (n, (refl, grind (arith, nat_tests)))

no_more_right : (b : Bool) (m n : ℕ) → nat_le m n ≡ b →
    IsNoMore (if b then Some m else Some n) n
no_more_right true m n e = (m, (refl, grind (arith, nat_tests)))
no_more_right false m n e = (n, (refl, omega arith))

lesser_left : (a b : Option ℕ) (m : ℕ) → IsNoMore a m → IsNoMore (lesser a b) m
lesser_left None b m h = absurd (none-some h.0 h.1.0)
lesser_left (Some k) None m h = h
lesser_left (Some k) (Some n) m h =
    let e : k ≡ h.0 = same_Some k h.0 h.1.0 in
    let le : h.0 ≤ m = h.1.1 in
    let r : IsNoMore (if nat_le k n then Some k else Some n) k =
    no_more_left (nat_le k n) k n refl in
    let low : r.0 ≤ k = r.1.1 in
    (r.0, (r.1.0, omega arith))

lesser_right : (a b : Option ℕ) (m : ℕ) → IsNoMore b m → IsNoMore (lesser a b) m
lesser_right None b m h = h
lesser_right (Some k) None m h = absurd (none-some h.0 h.1.0)
lesser_right (Some k) (Some n) m h =
    let e : n ≡ h.0 = same_Some n h.0 h.1.0 in
    let le : h.0 ≤ m = h.1.1 in
    let r : IsNoMore (if nat_le k n then Some k else Some n) n =
    no_more_right (nat_le k n) k n refl in
    let low : r.0 ≤ n = r.1.1 in
    (r.0, (r.1.0, omega arith))

-- with one number more, if there is one at the bound
pub least_more : (at : ℕ → ℕ → Type 0) (bound : ℕ) (found next made : Option ℕ) →
    IsLeast at bound found → ((m : ℕ) → next ≡ Some m → at bound m) →
    ((m : ℕ) → at bound m → next ≡ Some m) → made ≡ lesser found next →
    IsLeast at (bound + 1) made
least_more at bound found next made old sound there e = record {
  attained = λ m is. elim (lesser_is found next m (sym e ∙ is)) [
    | inl f ↦ let o = old.attained m f in (o.0, (let l : o.0 < bound = o.1.0 in omega arith, o.1.1))
    | inr n ↦ (bound, (omega arith, sound m n))
  ];
  least = λ i m lt h. subst (λ (z : Option ℕ). IsNoMore z m) (sym e)
      (elim (cases_lt i bound) [
        | inl l ↦ lesser_left found next m (old.least i m l h)
        | inr l ↦ let same : i ≡ bound = omega (arith, lt) in
            lesser_right found next m (m, (there m (subst (λ (z : ℕ). at z m) same h), omega arith))
      ]);
}
