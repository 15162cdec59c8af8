-- Reading step by step that ends with a fault.
use Rattle.std.proofs.Common.{◌≡◌, ◌⊎◌, inl, inr, Bool, true, false, not, refl, sym, ◌∙◌, ap, Result, Ok, Err}
use Rattle.std.specs.Prelude.{if◌then◌else◌}
use Rattle.ap_binary.specs.Lines.{◌>>=◌}
use Rattle.ap_binary.specs.declared.refusal.BinaryFault.{BinaryFault}

abbrev err_or : {A : Type 0} → BinaryFault → Result A BinaryFault → BinaryFault
err_or d (Ok x) = d
err_or d (Err e) = e

pub same_Err : {A : Type 0} (e g : BinaryFault) → (let r : Result A BinaryFault = Err e in r)
    ≡ Err g → e ≡ g
same_Err {A} e g h = ap (λ (r : Result A BinaryFault). err_or e r) h

pub err_same : {A : Type 0} (e g : BinaryFault) → e ≡ g →
    (let r : Result A BinaryFault = Err e in r) ≡ Err g
err_same {A} e g h = ap (λ (z : BinaryFault). let r : Result A BinaryFault = Err z in r) h

pub ok_no_err : {A : Type 0} (x : A) (g : BinaryFault) →
    (let r : Result A BinaryFault = Ok x in r) ≡ Err g → ⊥
ok_no_err x g h = cc

-- the first part was read, and then comes the fault
pub record IsErrBehind {A B : Type 0} (r : Result A BinaryFault) (f : A → Result B BinaryFault)
    (g : BinaryFault) : Type 0 where
  pub x : A
  pub is : r ≡ Ok x
  pub gives : f x ≡ Err g

pub bound_err : {A B : Type 0} (r : Result A BinaryFault) (f : A → Result B BinaryFault)
    (g : BinaryFault) → ◌>>=◌ {A = A} {B = B} r f ≡ Err g → (r ≡ Err g) ⊎ IsErrBehind r f g
bound_err {A} {B} (Err e) f g h = inl (err_same {A = A} e g (same_Err {A = B} e g h))
bound_err (Ok x) f g h = inr (record { x = x; is = refl; gives = h })

pub err_bind : {A B : Type 0} (r : Result A BinaryFault) (f : A → Result B BinaryFault)
    (g : BinaryFault) → r ≡ Err g → ◌>>=◌ {A = A} {B = B} r f ≡ Err g
err_bind {A} {B} r f g h = ap (λ (z : Result A BinaryFault). ◌>>=◌ {A = A} {B = B} z f) h

pub ok_bind : {A B : Type 0} (r : Result A BinaryFault) (f : A → Result B BinaryFault) (x : A)
    (g : BinaryFault) → r ≡ Ok x → f x ≡ Err g → ◌>>=◌ {A = A} {B = B} r f ≡ Err g
ok_bind {A} {B} r f x g h k = ap (λ (z : Result A BinaryFault). ◌>>=◌ {A = A} {B = B} z f) h ∙ k

-- two tests, one behind the other
pub judge : {A : Type 0} (b w : Bool) (e f : BinaryFault) (x : A) (g : BinaryFault) →
    (if not b then Err e else if not w then Err f else Ok x) ≡ Err g →
    ((b ≡ false) × (g ≡ e)) ⊎ ((b ≡ true) × (w ≡ false) × (g ≡ f))
judge {A} false w e f x g h = inl (refl, sym (same_Err {A = A} e g h))
judge {A} true false e f x g h = inr (refl, refl, sym (same_Err {A = A} f g h))
judge {A} true true e f x g h = absurd (ok_no_err {A = A} x g h)
