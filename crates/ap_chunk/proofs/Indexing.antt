-- What is kept beside patterns.
use Rattle.std.proofs.Common.{◌≡◌, ℕ, zero, suc, ◌+◌, ◌<◌, ◌≤◌, ◌==◌, Bool, true, false, ◌&&◌, ◌||◌, cond, List, [], ◌∷◌, ◌++◌, length, get_or, take, set, Vec, Global, Some, None, refl, ap, sym, ◌∙◌, arith, inl, inr}
use Rattle.std.specs.List.{list_any}
use Rattle.std.proofs.lemmas.Bool.{false≢true, eq-eqb, ne_eqb, cases_eq, cases_order, or_cases, or_left, or_right, cases_Bool}
use Rattle.std.proofs.lemmas.List.{take_more}
use Rattle.ap_chunk.specs.Patterns.{lists, list_at, has, begins_with, is_filled, first_empty, IsIndex}
use Rattle.ap_chunk.specs.Live.{ends, goes_on, is_over, is_live, IsLeast, SomeLive}
use Rattle.ap_chunk.proofs.Truths.{or_false, has_append}

-- one more list
pub below : (xs : List (List ℕ)) (p : List ℕ) (n : ℕ) → n < length xs → list_at (xs ++ p ∷ []) n
    ≡ list_at xs n
below [] p n h = absurd (omega (arith, h))
below (x ∷ xs) p zero h = refl
below (x ∷ xs) p (suc n) h = below xs p n (omega (arith, h))

pub here : (xs : List (List ℕ)) (p : List ℕ) → list_at (xs ++ p ∷ []) (length xs) ≡ p
here [] p = refl
here (x ∷ xs) p = here xs p

pub past : (xs : List (List ℕ)) (n : ℕ) → length xs ≤ n → list_at xs n ≡ []
past [] n h = refl
past (x ∷ xs) zero h = absurd (omega (arith, h))
past (x ∷ xs) (suc n) h = past xs n (omega (arith, h))

pub empty_more : (xs : List (List ℕ)) (n : ℕ) → list_at (xs ++ [] ∷ []) n ≡ list_at xs n
empty_more [] zero = refl
empty_more [] (suc n) = refl
empty_more (x ∷ xs) zero = refl
empty_more (x ∷ xs) (suc n) = empty_more xs n

lists_append : (xs : List (Vec ℕ Global)) (v : Vec ℕ Global) → lists (xs ++ v ∷ []) ≡ lists xs
    ++ v.items ∷ []
lists_append [] v = refl
lists_append (x ∷ xs) v = ap (λ l. x.items ∷ l) (lists_append xs v)

-- after an empty vector is appended
pub lengthened : (old new : List (Vec ℕ Global)) (v : Vec ℕ Global) (n : ℕ) → new ≡ old ++ v ∷ [] →
    v.items ≡ [] → list_at (lists new) n ≡ list_at (lists old) n
lengthened old new v n e k = ap (λ l. list_at (lists l) n) e
    ∙ ap (λ l. list_at l n) (lists_append old v) ∙ ap (λ l. list_at (lists old ++ l ∷ []) n) k
    ∙ empty_more (lists old) n

set_here : (xs : List (Vec ℕ Global)) (n : ℕ) (v : Vec ℕ Global) → n < length xs →
    list_at (lists (set xs n v)) n ≡ v.items
set_here [] n v h = absurd (omega (arith, h))
set_here (x ∷ xs) zero v h = refl
set_here (x ∷ xs) (suc n) v h = set_here xs n v (omega (arith, h))

set_other : (xs : List (Vec ℕ Global)) (n m : ℕ) (v : Vec ℕ Global) → (n ≡ m → ⊥) →
    list_at (lists (set xs n v)) m ≡ list_at (lists xs) m
set_other [] n m v h = refl
set_other (x ∷ xs) zero zero v h = absurd (h refl)
set_other (x ∷ xs) zero (suc m) v h = refl
set_other (x ∷ xs) (suc n) zero v h = refl
set_other (x ∷ xs) (suc n) (suc m) v h = set_other xs n m v (λ e. h (ap suc e))

get_list : (xs : List (Vec ℕ Global)) (n : ℕ) (d : Vec ℕ Global) → n < length xs →
    list_at (lists xs) n ≡ (get_or xs n d).items
get_list [] n d h = absurd (omega (arith, h))
get_list (x ∷ xs) zero d h = refl
get_list (x ∷ xs) (suc n) d h = get_list xs n d (omega (arith, h))

or_and_false : (b c d : Bool) → c ≡ false → b ≡ (b || (c && d))
or_and_false b true d e = absurd (false≢true (sym e))
or_and_false b false d e = sym (or_false b)

and_true : (c d : Bool) → c ≡ true → (c && d) ≡ d
and_true true d e = refl
and_true false d e = absurd (false≢true e)

-- after a rule is appended to the list of a category
pub added : (old mid : List (Vec ℕ Global)) (category rule : ℕ) (was now : Vec ℕ Global) →
    ((n : ℕ) → list_at (lists mid) n ≡ list_at (lists old) n) → category < length mid →
    was ≡ get_or mid category was → now.items ≡ was.items ++ rule ∷ []
    → (c r : ℕ) → has (list_at (lists (set mid category now)) c) r
    ≡ (has (list_at (lists old) c) r || ((category == c) && (rule == r)))
added old mid category rule was now same within is e c r = elim (cases_eq category c) [
  | inl k ↦ ap (λ n. has (list_at (lists (set mid category now)) n) r) (sym k)
      ∙ ap (λ l. has l r) (set_here mid category now within ∙ e)
      ∙ has_append was.items (rule ∷ []) r
      ∙ ap (λ v. has (v.items) r || ((rule == r) || false)) is
      ∙ ap (λ l. has l r || ((rule == r) || false)) (sym (get_list mid category was within)
      ∙ same category)
      ∙ ap (λ n. has (list_at (lists old) n) r || ((rule == r) || false)) k
      ∙ ap (λ b. has (list_at (lists old) c) r || b)
      (or_false (rule == r) ∙ sym (and_true (category == c) (rule == r) (eq-eqb category c k)))
  | inr k ↦ ap (λ l. has l r) (set_other mid category c now k ∙ same c)
      ∙ or_and_false (has (list_at (lists old) c) r) (category == c) (rule == r)
      (ne_eqb category c k)
]

or_and_false_right : (b c d : Bool) → d ≡ false → (b || (c && d)) ≡ b
or_and_false_right b c true e = absurd (false≢true (sym e))
or_and_false_right b true false e = or_false b
or_and_false_right b false false e = or_false b

and_true_right : (c d : Bool) → d ≡ true → (c && d) ≡ c
and_true_right true d e = e
and_true_right false d e = refl

-- with one more pattern
one_more : (patterns : List (List ℕ)) (p : List ℕ) (n c r : ℕ) → n ≡ length patterns
    → (begins_with c (list_at patterns r) || (begins_with c p && (n == r)))
    ≡ begins_with c (list_at (patterns ++ p ∷ []) r)
one_more patterns p n c r e = elim (cases_order r n) [
  | inl k ↦ ap (λ b. begins_with c (list_at patterns r) || b)
      (and_true_right (begins_with c p) (n == r) (eq-eqb n r (sym k)))
      ∙ ap (λ l. begins_with c l || begins_with c p) (past patterns r (omega (arith, k, e)))
      ∙ ap (begins_with c) (sym (here patterns p))
      ∙ ap (λ i. begins_with c (list_at (patterns ++ p ∷ []) i)) (sym e ∙ sym k)
  | inr k ↦ or_and_false_right (begins_with c (list_at patterns r)) (begins_with c p) (n == r)
      (ne_eqb n r (λ s. elim k [ inl a ↦ omega (arith, a, s) | inr a ↦ omega (arith, a, s) ]))
      ∙ elim k [
        | inl a ↦ ap (begins_with c) (sym (below patterns p r (omega (arith, a, e))))
        | inr a ↦ ap (begins_with c) (past patterns r (omega (arith, a, e))
            ∙ sym (beyond patterns p r (omega (arith, a, e))))
      ]
]
  where
    beyond : (xs : List (List ℕ)) (p : List ℕ) (n : ℕ) → length xs < n →
        list_at (xs ++ p ∷ []) n ≡ []
    beyond [] p zero h = absurd (omega (arith, h))
    beyond [] p (suc n) h = refl
    beyond (x ∷ xs) p zero h = absurd (omega (arith, h))
    beyond (x ∷ xs) p (suc n) h = beyond xs p n (omega (arith, h))

length_lists : (xs : List (Vec ℕ Global)) → length (lists xs) ≡ length xs
length_lists [] = refl
length_lists (x ∷ xs) = ap suc (length_lists xs)

taken : (n : ℕ) (xs : List (Vec ℕ Global)) → n ≤ length xs → length (take n xs) ≡ n
taken zero xs h = refl
taken (suc n) [] h = absurd (omega (arith, h))
taken (suc n) (x ∷ xs) h = ap suc (taken n xs (omega (arith, h)))

pub index_more : (patterns : List (Vec ℕ Global)) (at : ℕ) (v : Vec ℕ Global)
    (old new : List (List ℕ)) → at < length patterns → v ≡ get_or patterns at v →
    IsIndex (lists (take at patterns)) old
    → ((c r : ℕ) → has (list_at new c) r
    ≡ (has (list_at old c) r || (begins_with c v.items && (at == r)))) →
    IsIndex (lists (take (at + 1) patterns)) new
index_more patterns at v old new h is index on = λ c r.
    on c r ∙ ap (λ b. b || (begins_with c v.items && (at == r))) (index c r)
    ∙ one_more (lists (take at patterns)) v.items at c r
    (sym (length_lists (take at patterns) ∙ taken at patterns (omega (arith, h))))
    ∙ ap (λ l. begins_with c (list_at l r)) (sym (lists_append (take at patterns) v)
    ∙ ap lists (ap (λ w. take at patterns ++ w ∷ []) is ∙ sym (take_more patterns at v h)))

first_at : (p : List ℕ) (patterns : List (List ℕ)) →
    cond (is_filled p) (suc (first_empty patterns)) 0 < suc (length patterns) →
    (first_empty patterns < length patterns → is_over patterns [] (first_empty patterns) ≡ true)
    → is_over (p ∷ patterns) [] (cond (is_filled p) (suc (first_empty patterns)) 0) ≡ true
first_at [] patterns h on = refl
first_at (c ∷ cs) patterns h on = on (omega (arith, h))

first_is_over : (patterns : List (List ℕ)) → first_empty patterns < length patterns →
    is_over patterns [] (first_empty patterns) ≡ true
first_is_over [] h = absurd (omega (arith, h))
first_is_over (p ∷ patterns) h = first_at p patterns h (first_is_over patterns)

least_at : (p : List ℕ) (patterns : List (List ℕ)) (r : ℕ) → is_over patterns [] r ≡ true →
    first_empty patterns ≤ r → cond (is_filled p) (suc (first_empty patterns)) 0 ≤ suc r
least_at [] patterns r h le = omega arith
least_at (c ∷ cs) patterns r h le = omega (arith, le)

zero_at : (p : List ℕ) (n : ℕ) → ends p [] ≡ true → cond (is_filled p) n 0 ≤ 0
zero_at [] n h = omega arith
zero_at (c ∷ cs) n h = absurd (false≢true h)

first_is_least : (patterns : List (List ℕ)) (r : ℕ) → is_over patterns [] r ≡ true →
    first_empty patterns ≤ r
first_is_least [] r h = absurd (false≢true h)
first_is_least (p ∷ patterns) zero h = zero_at p (suc (first_empty patterns)) h
first_is_least (p ∷ patterns) (suc r) h = least_at p patterns r h (first_is_least patterns r h)

over_within : (patterns : List (List ℕ)) (r : ℕ) → is_over patterns [] r ≡ true →
    r < length patterns
over_within [] r h = absurd (false≢true h)
over_within (p ∷ patterns) zero h = omega arith
over_within (p ∷ patterns) (suc r) h = omega (arith, over_within patterns r h)

pub least_empty : (vs : List (Vec ℕ Global)) (empty : ℕ) → empty ≡ first_empty (lists vs) →
    empty < length vs → IsLeast (is_over (lists vs) []) (Some empty)
least_empty vs empty e h = (
  ap (is_over (lists vs) []) e ∙ first_is_over (lists vs) (omega (arith, e, h, length_lists vs)),
  λ r k. omega (arith, e, first_is_least (lists vs) r k),
)

pub no_empty : (vs : List (Vec ℕ Global)) (empty : ℕ) → empty ≡ first_empty (lists vs) →
    length vs ≤ empty → IsLeast (is_over (lists vs) []) None
no_empty vs empty e h = λ r. elim (cases_Bool (is_over (lists vs) [] r)) [
  | inl k ↦ absurd (omega (
    arith,
    e,
    h,
    length_lists vs,
    first_is_least (lists vs) r k,
    over_within (lists vs) r k,
  ))
  | inr k ↦ k
]

-- whether some pattern has an item
filled_goes : (p : List ℕ) → is_filled p ≡ goes_on p []
filled_goes [] = refl
filled_goes (c ∷ cs) = refl

pub some_live : (patterns : List (List ℕ)) → list_any is_filled patterns ≡ true →
    SomeLive patterns []
some_live [] h = absurd (false≢true h)
some_live (p ∷ patterns) h = elim (or_cases (is_filled p) (list_any is_filled patterns) h) [
  | inl e ↦ record { rule = 0; live = sym (filled_goes p) ∙ e }
  | inr e ↦ let more = some_live patterns e in record { rule = suc more.rule; live = more.live }
]

live_some : (patterns : List (List ℕ)) (r : ℕ) → is_live patterns [] r ≡ true →
    list_any is_filled patterns ≡ true
live_some [] r h = absurd (false≢true h)
live_some (p ∷ patterns) zero h =
    or_left (is_filled p) (list_any is_filled patterns) (filled_goes p ∙ h)
live_some (p ∷ patterns) (suc r) h =
    or_right (is_filled p) (list_any is_filled patterns) (live_some patterns r h)

pub from_some_live : (patterns : List (List ℕ)) → SomeLive patterns [] →
    list_any is_filled patterns ≡ true
from_some_live patterns s = live_some patterns s.rule s.live
