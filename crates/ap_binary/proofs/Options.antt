-- What a reading that succeeded was made of.
use Rattle.std.proofs.Common.{◌≡◌, Bool, true, false, refl, subst, IfSome, Option, Some, None}
use Rattle.std.specs.Prelude.{if◌then◌else◌}
use Rattle.std.proofs.lemmas.Option.{same_Some}
use Rattle.ap_binary.specs.Reading.{◌>>=◌}

pub record IsBound {A B : Type 0} (r : Option A) (f : A → Option B) (y : B) : Type 0 where
  pub x : A
  pub is : r ≡ Some x
  pub gives : f x ≡ Some y

pub bound : {A B : Type 0} (r : Option A) (f : A → Option B) (y : B) → ◌>>=◌ {A = A} {B = B} r f
    ≡ Some y → IsBound r f y
bound (Some x) f y h = record { x = x; is = refl; gives = h }
bound None f y h = cc

pub some_if : {A : Type 0} (b : Bool) (x y : A) → (if b then Some x else None) ≡ Some y →
    (b ≡ true) × (x ≡ y)
some_if true x y h = (refl, same_Some x y h)
some_if false x y h = cc

pub some_unless : {A : Type 0} (b : Bool) (x y : A) → (if b then None else Some x) ≡ Some y →
    (b ≡ false) × (x ≡ y)
some_unless true x y h = cc
some_unless false x y h = (refl, same_Some x y h)

-- ---- what holds of each value that may be read

pub chosen : {A : Type 0} (b : Bool) (x y : Option A) (P : A → Type 0) → IfSome x P → IfSome y P →
    IfSome (if b then x else y) P
chosen true x y P h k = h
chosen false x y P h k = k

pub bind_some : {A B : Type 0} (r : Option A) (f : A → Option B) (P : B → Type 0) →
    ((x : A) → r ≡ Some x → IfSome (f x) P) → IfSome (◌>>=◌ {A = A} {B = B} r f) P
bind_some None f P h = tt
bind_some (Some x) f P h = h x refl

pub some_holds : {A : Type 0} (r : Option A) (x : A) (P : A → Type 0) → IfSome r P →
    r ≡ Some x → P x
some_holds (Some y) x P h e = subst P (same_Some y x e) h
some_holds None x P h e = cc

pub chosen_if : {A : Type 0} (b : Bool) (x : A) (P : A → Type 0) → (b ≡ true → P x) →
    IfSome (if b then Some x else None) P
chosen_if true x P h = h refl
chosen_if false x P h = tt

pub chosen_by : {A : Type 0} (b : Bool) (x y : Option A) (P : A → Type 0) →
    (b ≡ true → IfSome x P) → IfSome y P → IfSome (if b then x else y) P
chosen_by true x y P h k = h refl
chosen_by false x y P h k = k

pub map_some : {A : Type 0} (r : Option A) (Q P : A → Type 0) → ((x : A) → Q x → P x) →
    IfSome r Q → IfSome r P
map_some (Some x) Q P f h = f x h
map_some None Q P f h = tt
