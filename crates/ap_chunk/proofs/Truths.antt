-- Tests on numbers and on the numbers of a list.
use Rattle.std.proofs.Common.{◌≡◌, ℕ, ◌≤◌, ◌==◌, Bool, true, false, ◌&&◌, ◌||◌, cond, nat_lt, List, [], ◌∷◌, ◌++◌, Option, Some, None, refl, ap, sym, ◌∙◌, arith, inl, inr}
use Rattle.std.specs.List.{filter}
use Rattle.std.proofs.lemmas.Bool.{false≢true, eqb-true, eq-eqb, or_cases, or_left, or_right, ltb-true, ltb-false}
use Rattle.ap_chunk.specs.Patterns.{has}
use Rattle.ap_chunk.specs.Live.{IsLeast, lesser, least_from}

pub or_false : (b : Bool) → (b || false) ≡ b
or_false true = refl
or_false false = refl

pub or_assoc : (a b c : Bool) → ((a || b) || c) ≡ (a || (b || c))
or_assoc true b c = refl
or_assoc false b c = refl

pub and_assoc : (a b c : Bool) → (a && (b && c)) ≡ ((a && b) && c)
and_assoc true b c = refl
and_assoc false b c = refl

pub or_and : (a b c : Bool) → ((a && c) || (b && c)) ≡ ((a || b) && c)
or_and true true true = refl
or_and true true false = refl
or_and true false true = refl
or_and true false false = refl
or_and false b c = refl

passes : (e g h f : Bool) → (e ≡ true → f ≡ true) → g ≡ (h && f) → (e || g) ≡ ((e || h) && f)
passes true g h f k s = sym (k refl)
passes false g h f k s = s

left_out : (e g h f : Bool) → (e ≡ true → f ≡ false) → g ≡ (h && f) → g ≡ ((e || h) && f)
left_out true g h true k s = absurd (false≢true (sym (k refl)))
left_out true g true false k s = s
left_out true g false false k s = s
left_out false g h f k s = s

filtered : (b : Bool) (test : ℕ → Bool) (x n : ℕ) (xs : List ℕ) → test x ≡ b →
    has (filter test xs) n ≡ (has xs n && test n) →
    has (cond b (x ∷ filter test xs) (filter test xs)) n ≡ (((x == n) || has xs n) && test n)
filtered true test x n xs e h =
    passes (x == n) (has (filter test xs) n) (has xs n) (test n)
    (λ k. ap test (sym (eqb-true x n k)) ∙ e) h
filtered false test x n xs e h =
    left_out (x == n) (has (filter test xs) n) (has xs n) (test n)
    (λ k. ap test (sym (eqb-true x n k)) ∙ e) h

-- what a filter keeps
pub has_filter : (test : ℕ → Bool) (xs : List ℕ) (n : ℕ) →
    has (filter test xs) n ≡ (has xs n && test n)
has_filter test [] n = refl
has_filter test (x ∷ xs) n = filtered (test x) test x n xs refl (has_filter test xs n)

pub has_append : (xs ys : List ℕ) (n : ℕ) → has (xs ++ ys) n ≡ (has xs n || has ys n)
has_append [] ys n = refl
has_append (x ∷ xs) ys n = ap (λ b. (x == n) || b) (has_append xs ys n)
    ∙ sym (or_assoc (x == n) (has xs n) (has ys n))

-- the least of some numbers
pub least_same : (test same : ℕ → Bool) (least : Option ℕ) → ((n : ℕ) → test n ≡ same n) →
    IsLeast test least → IsLeast same least
least_same test same None e h = λ n. sym (e n) ∙ h n
least_same test same (Some m) e h = (sym (e m) ∙ h.0, λ n k. h.1 n (e n ∙ k))

itself : (n : ℕ) → (n == n) ≡ true
itself n = eq-eqb n n refl

lesser_at : (b : Bool) (test : ℕ → Bool) (m n : ℕ) → nat_lt n m ≡ b → IsLeast test (Some m) →
    IsLeast (λ r. test r || (n == r)) (cond b (Some n) (Some m))
lesser_at true test m n e h = (
  or_right (test n) (n == n) (itself n),
  λ r k. elim (or_cases (test r) (n == r) k) [
    | inl t ↦ let le : m ≤ r = h.1 r t in omega (arith, ltb-true n m e)
    | inr t ↦ omega (arith, eqb-true n r t)
  ],
)
lesser_at false test m n e h = (
  or_left (test m) (n == m) h.0,
  λ r k. elim (or_cases (test r) (n == r) k) [
    | inl t ↦ h.1 r t
    | inr t ↦ omega (arith, eqb-true n r t, ltb-false n m e)
  ],
)

lesser_is : (test : ℕ → Bool) (least : Option ℕ) (n : ℕ) → IsLeast test least →
    IsLeast (λ r. test r || (n == r)) (lesser least n)
lesser_is test None n h = (
  or_right (test n) (n == n) (itself n),
  λ r k. elim (or_cases (test r) (n == r) k) [
    | inl t ↦ absurd (false≢true (sym (h r) ∙ t))
    | inr t ↦ omega (arith, eqb-true n r t)
  ],
)
lesser_is test (Some m) n h = lesser_at (nat_lt n m) test m n refl h

pub least_of : (test : ℕ → Bool) (least : Option ℕ) (ns : List ℕ) → IsLeast test least →
    IsLeast (λ r. test r || has ns r) (least_from least ns)
least_of test least [] h =
    least_same test (λ r. test r || false) least (λ r. sym (or_false (test r))) h
least_of test least (n ∷ ns) h =
    least_same (λ r. (test r || (n == r)) || has ns r) (λ r. test r || ((n == r) || has ns r))
    (least_from (lesser least n) ns) (λ r. or_assoc (test r) (n == r) (has ns r))
    (least_of (λ r. test r || (n == r)) (lesser least n) ns (lesser_is test least n h))
