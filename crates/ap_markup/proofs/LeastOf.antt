-- The first of some faults is the least of them, by any order of places and numbers.
use Rattle.std.proofs.Common.{◌≡◌, ◌⊎◌, inl, inr, ◌≤◌, ◌<◌, ℕ, Bool, true, false, cond, ◌&&◌, ◌||◌, ◌==◌, nat_lt, refl, sym, ap, ◌∙◌, arith, Option, Some, None, subst}
use Rattle.std.specs.Option.{option_map}
use Rattle.std.proofs.lemmas.Bool.Decides.{nat_tests}
use Rattle.ap_markup.specs.Least.{IsNoLater, IsLeast}
use Rattle.ap_markup.specs.Sooner.{is_before, sooner, when}

-- it is one of the faults, and none is before it
abbrev pub IsLeastBy : {F : Type 0} → (F → ℕ × ℕ) → (F → Type 0) → Option F → Type 0
IsLeastBy {F = F} order Has None = (f : F) → Has f → ⊥
IsLeastBy {F = F} order Has (Some f) = Has f × ((g : F) → Has g → is_before order g f ≡ false)

lex_to : (p q m n : ℕ) → (nat_lt q p || (q == p && nat_lt n m)) ≡ false →
    (p < q) ⊎ ((p ≡ q) × (m ≤ n))
lex_to p q m n h = by (nat_lt p q) refl
  where
    by : (t : Bool) → nat_lt p q ≡ t → (p < q) ⊎ ((p ≡ q) × (m ≤ n))
    by true e = inl (let z : p < q = grind (arith, nat_tests, e) in z)
    by false e = inr (grind (arith, nat_tests, e, h), grind (arith, nat_tests, e, h))

lex_from : (p q m n : ℕ) → (p < q) ⊎ ((p ≡ q) × (m ≤ n)) →
    (nat_lt q p || (q == p && nat_lt n m)) ≡ false
lex_from p q m n (inl lt) = grind (arith, nat_tests, lt)
lex_from p q m n (inr (e, le)) = grind (arith, nat_tests, e, le)

pub least_to : {F : Type 0} (order : F → ℕ × ℕ) (A : F → Type 0) (o : Option F) →
    IsLeastBy order A o → IsLeast order A o
least_to order A None h = h
least_to order A (Some f) h =
    (h.0, λ g k. lex_to (order f).0 (order g).0 (order f).1 (order g).1 (h.1 g k))

pub least_from : {F : Type 0} (order : F → ℕ × ℕ) (A : F → Type 0) (o : Option F) →
    IsLeast order A o → IsLeastBy order A o
least_from order A None h = h
least_from order A (Some f) h =
    (h.0, λ g k. lex_from (order f).0 (order g).0 (order f).1 (order g).1 (h.1 g k))

lex_back : (p q m n : ℕ) → (nat_lt p q || (p == q && nat_lt m n)) ≡ true →
    (nat_lt q p || (q == p && nat_lt n m)) ≡ false
lex_back p q m n h = grind (arith, nat_tests, h)

lex_through : (p q r m n k : ℕ) → (nat_lt q p || (q == p && nat_lt n m)) ≡ false →
    (nat_lt r q || (r == q && nat_lt k n)) ≡ false → (nat_lt r p || (r == p && nat_lt k m)) ≡ false
lex_through p q r m n k h l = grind (arith, nat_tests, h, l)

before_back : {F : Type 0} (order : F → ℕ × ℕ) (f g : F) → is_before order f g ≡ true →
    is_before order g f ≡ false
before_back order f g h = lex_back (order f).0 (order g).0 (order f).1 (order g).1 h

-- f isn't after g, and g not after h
before_through : {F : Type 0} (order : F → ℕ × ℕ) (f g h : F) → is_before order g f ≡ false →
    is_before order h g ≡ false → is_before order h f ≡ false
before_through order f g h a b =
    lex_through (order f).0 (order g).0 (order h).0 (order f).1 (order g).1 (order h).1 a b

itself : (p m : ℕ) → (nat_lt p p || (p == p && nat_lt m m)) ≡ false
itself p m = grind (arith, nat_tests)

itself_not : {F : Type 0} (order : F → ℕ × ℕ) (f : F) → is_before order f f ≡ false
itself_not order f = itself (order f).0 (order f).1

-- the least of two families
pub least_of_two : {F : Type 0} (order : F → ℕ × ℕ) (A B : F → Type 0) (o p : Option F) →
    IsLeastBy order A o → IsLeastBy order B p → IsLeastBy order (λ f. A f ⊎ B f) (sooner order o p)
least_of_two order A B None None a b = λ f h. elim h [
  | inl x ↦ a f x
  | inr y ↦ b f y
]
least_of_two order A B None (Some g) a b = (
  inr b.0,
  λ f h. elim h [
    | inl x ↦ absurd (a f x)
    | inr y ↦ b.1 f y
  ],
)
least_of_two order A B (Some f) None a b = (
  inl a.0,
  λ g h. elim h [
    | inl x ↦ a.1 g x
    | inr y ↦ absurd (b g y)
  ],
)
least_of_two {F = F} order A B (Some f) (Some g) a b = by (is_before order g f) refl
  where
    by : (t : Bool) → is_before order g f ≡ t →
        IsLeastBy order (λ z. A z ⊎ B z) (cond t (Some g) (Some f))
    by true e = (
      inr b.0,
      λ h k. elim k [
        | inl x ↦ before_through order g f h (before_back order g f e) (a.1 h x)
        | inr y ↦ b.1 h y
      ],
    )
    by false e = (
      inl a.0,
      λ h k. elim k [
        | inl x ↦ a.1 h x
        | inr y ↦ before_through order f g h e (b.1 h y)
      ],
    )

-- one fault, where a test holds
pub least_when : {F : Type 0} (order : F → ℕ × ℕ) (b : Bool) (f : F) →
    IsLeastBy order (λ g. (b ≡ true) × (g ≡ f)) (when b f)
least_when order true f =
    ((refl, refl), λ g h. subst (λ z. is_before order z f ≡ false) (sym h.1) (itself_not order f))
least_when order false f = λ g h. let q : ◌≡◌ {A = Bool} false true = h.0 in cc

-- of two families that say the same
pub least_same : {F : Type 0} (order : F → ℕ × ℕ) (A B : F → Type 0) (o : Option F) →
    ((f : F) → A f → B f) → ((f : F) → B f → A f) → IsLeastBy order A o → IsLeastBy order B o
least_same order A B None to from h = λ f b. h f (from f b)
least_same order A B (Some f) to from h = (to f h.0, λ g b. h.1 g (from g b))

-- only one is the least
same_numbers : (p q m n : ℕ) → (nat_lt p q || (p == q && nat_lt m n)) ≡ false →
    (nat_lt q p || (q == p && nat_lt n m)) ≡ false → (p ≡ q) × (m ≡ n)
same_numbers p q m n h k = (grind (arith, nat_tests, h, k), grind (arith, nat_tests, h, k))

one_by : {F : Type 0} (order : F → ℕ × ℕ) (A : F → Type 0) →
    ((f g : F) → A f → A g → (order f).0 ≡ (order g).0 → (order f).1 ≡ (order g).1 → f ≡ g) →
    (o p : Option F) → IsLeastBy order A o → IsLeastBy order A p → o ≡ p
one_by order A one None None a b = refl
one_by order A one None (Some g) a b = absurd (a g b.0)
one_by order A one (Some f) None a b = absurd (b f a.0)
one_by order A one (Some f) (Some g) a b =
    let s = same_numbers (order f).0 (order g).0 (order f).1 (order g).1 (b.1 f a.0) (a.1 g b.0) in
    ap Some (one f g a.0 b.0 s.0 s.1)

-- where a place and a number tell a fault
pub least_one : {F : Type 0} (order : F → ℕ × ℕ) (A : F → Type 0) →
    ((f g : F) → A f → A g → (order f).0 ≡ (order g).0 → (order f).1 ≡ (order g).1 → f ≡ g) →
    (o p : Option F) → IsLeast order A o → IsLeast order A p → o ≡ p
least_one order A one o p a b =
    one_by order A one o p (least_from order A o a) (least_from order A p b)

-- the second where there is no first
abbrev pub or_next : {F : Type 0} → Option F → Option F → Option F
or_next None next = next
or_next (Some f) next = Some f

-- the least of two families of which none of the second is before one of the first
pub least_then : {F : Type 0} (order : F → ℕ × ℕ) (A B : F → Type 0) (o p : Option F) →
    ((f g : F) → A f → B g → IsNoLater (order f) (order g)) → IsLeast order A o →
    IsLeast order B p → IsLeast order (λ f. A f ⊎ B f) (or_next o p)
least_then order A B None None le a b = λ f h. elim h [
  | inl x ↦ a f x
  | inr y ↦ b f y
]
least_then order A B None (Some g) le a b = (
  inr b.0,
  λ f h. elim h [
    | inl x ↦ absurd (a f x)
    | inr y ↦ b.1 f y
  ],
)
least_then order A B (Some f) p le a b = (
  inl a.0,
  λ g h. elim h [
    | inl x ↦ a.1 g x
    | inr y ↦ le f g a.0 y
  ],
)

-- of two families that say the same
pub least_alike : {F : Type 0} (order : F → ℕ × ℕ) (A B : F → Type 0) (o : Option F) →
    ((f : F) → A f → B f) → ((f : F) → B f → A f) → IsLeast order A o → IsLeast order B o
least_alike order A B None to from h = λ f b. h f (from f b)
least_alike order A B (Some f) to from h = (to f h.0, λ g b. h.1 g (from g b))

-- of two families, the least of each
pub least_of_both : {F : Type 0} (order : F → ℕ × ℕ) (A B : F → Type 0) (o p : Option F) →
    IsLeast order A o → IsLeast order B p → IsLeast order (λ f. A f ⊎ B f) (sooner order o p)
least_of_both order A B o p a b =
    least_to order (λ f. A f ⊎ B f) (sooner order o p)
    (least_of_two order A B o p (least_from order A o a) (least_from order B p b))

-- the faults of a family under other names of the same order
pub least_mapped : {F G : Type 0} (order : F → ℕ × ℕ) (other : G → ℕ × ℕ) (to : F → G) (A : F →
    Type 0) (o : Option F) → ((f : F) → other (to f) ≡ order f) → IsLeast order A o →
    IsLeast other (λ g. (f : F) × A f × (g ≡ to f)) (option_map to o)
least_mapped order other to A None same h = λ g k. h k.0 k.1
least_mapped order other to A (Some f) same h = (
  (f, h.0, refl),
  λ g k. subst (λ z. IsNoLater (other (to f)) (other z)) (sym k.2)
      (subst (λ z. IsNoLater z (other (to k.0))) (sym (same f))
      (subst (λ z. IsNoLater (order f) z) (sym (same k.0)) (h.1 k.0 k.1))),
)
