-- Alphabets: closed under partners, in order and each letter once.
use Rattle.std.proofs.Common.{◌≡◌, ◌⊎◌, inl, inr, ℕ, ◌+◌, ◌<◌, eqb, Bool, true, false, not, ◌||◌, List, [], ◌∷◌, ◌++◌, length, sym, ◌∙◌, ap, subst, arith, take, get_or, zero, suc, refl}
use Rattle.std.specs.Prelude.{◌↔◌, IsTrue}
use Rattle.std.specs.List.{dedup, AllByRecursion, Contains, list_all}
use Rattle.std.specs.List.Sorted.{IsPermutation, IsSorted, IsStrictlySortedBy}
use Rattle.std.specs.Ordering.{nat_cmp, eq_by_cmp}
use Rattle.std.specs.declared.cmp.Ordering.{Ordering}
use Rattle.std.specs.declared.cmp.Ordering.TheVariants.{Less}
use Rattle.std.proofs.lemmas.Bool.{cases_eq, cases_lt, cases_Bool, cond-true, cond-false, and_parts, and_from}
use Rattle.std.proofs.lemmas.Bool.Decides.{nat_tests}
use Rattle.std.proofs.lemmas.Cmp.{nat_cmp_total}
use Rattle.std.proofs.lemmas.List.{take_more}
use Rattle.std.proofs.lemmas.List.Kept.{IsStrictlySortedBy-dedup, Contains-dedup_nat, Contains-from_dedup}
use Rattle.std.proofs.lemmas.List.Sorted.{Contains-permutation, IsPermutation-sym}
use Rattle.ap_symbol.specs.Alphabet.{has_letter, IsClosure, ClosureIsClosed}
use Rattle.ap_symbol.specs.Case.{partner_lem, is_upper_lem, lower_lem, upper_lem}
use Rattle.ap_symbol.specs.CaseLaws.{PartnerOfPartner, WhiteSpaceStays}
use Rattle.ap_symbol.specs.Lists.{IsIn}
use Rattle.ap_symbol.specs.Words.{is_white}
use Rattle.ap_symbol.proofs.Alphabets.{has_in, in_has}
use Rattle.ap_fst.specs.Lists.{Ascends}
use Rattle.ap_fst.specs.Sections.{IsAlphabet}
use Rattle.ap_compile.specs.Partners.{IsPartnered}
use Rattle.ap_compile.proofs.Choosing.{in_front, in_back, in_either}

in_at : {X : Type 0} (xs : List X) (j : ℕ) (d : X) → j < length xs → IsIn (get_or xs j d) xs
in_at [] j d h = absurd (omega arith)
in_at (y ∷ xs) zero d h = inl refl
in_at (y ∷ xs) (suc j) d h = inr (in_at xs j d (omega arith))

in_contains : {X : Type 0} (x : X) (xs : List X) → IsIn x xs → Contains xs x
in_contains x [] h = elim h [ ]
in_contains x (y ∷ xs) (inl e) = (zero, omega arith, sym e)
in_contains x (y ∷ xs) (inr h) = let (k, l, e) = in_contains x xs h in (suc k, omega arith, e)

contains_in : {X : Type 0} (x : X) (xs : List X) → Contains xs x → IsIn x xs
contains_in {X} x xs (k, l, e) = let P : X → Type 0 = λ z. IsIn z xs in subst P e (in_at xs k x l)

all_in : {X : Type 0} (P : X → Type 0) (xs : List X) → AllByRecursion P xs → (y : X) →
    IsIn y xs → P y
all_in P [] a y i = elim i [ ]
all_in P (x ∷ xs) a y (inl e) = subst P (sym e) a.0
all_in P (x ∷ xs) a y (inr i) = all_in P xs a.1 y i

ascends_from_sorted : {X : Type 0} (cmp : X → X → Ordering) (xs : List X) →
    IsStrictlySortedBy cmp xs → Ascends cmp xs
unfolding IsStrictlySortedBy
ascends_from_sorted cmp [] s = tt
ascends_from_sorted cmp (x ∷ xs) s =
    (all_in (λ y. cmp x y ≡ Less) xs s.0, ascends_from_sorted cmp xs s.1)

same_test : (x y : ℕ) → eqb x y ≡ eq_by_cmp nat_cmp x y
same_test x y = elim (cases_lt x y) [
  | inl h ↦ grind (arith, nat_tests)
  | inr h ↦
      elim (cases_eq x y) [ inl e ↦ grind (arith, nat_tests) | inr d ↦ grind (arith, nat_tests) ]
]

pub ascends_dedup : (xs ys : List ℕ) → IsSorted nat_cmp xs → ys ≡ dedup eqb xs → Ascends nat_cmp ys
ascends_dedup xs ys s e = let P : List ℕ → Type 0 = λ z. Ascends nat_cmp z in
    subst P (sym e) (ascends_from_sorted nat_cmp (dedup eqb xs)
    (IsStrictlySortedBy-dedup nat_cmp_total same_test xs s))

pub members_dedup : (old xs ys : List ℕ) → IsPermutation old xs → ys ≡ dedup eqb xs → (c : ℕ) →
    IsIn c ys ↔ IsIn c old
members_dedup old xs ys p e c = (
  λ i. contains_in c old (Contains-permutation xs old c (IsPermutation-sym old xs p)
      (Contains-from_dedup eqb xs c
      (in_contains c (dedup eqb xs) (subst (λ (z : List ℕ). IsIn c z) e i)))),
  λ i. subst (λ (z : List ℕ). IsIn c z) (sym e)
      (contains_in c (dedup eqb xs)
      (Contains-dedup_nat xs c (Contains-permutation old xs c p (in_contains c old i)))),
)

-- a letter more, and its partner

partnered_last : PartnerOfPartner → (xs old : List ℕ) (c x : ℕ) → (IsIn x old ↔ IsPartnered xs x) →
    IsIn x ((old ++ c ∷ []) ++ partner_lem c ∷ []) ↔ IsPartnered (xs ++ c ∷ []) x
partnered_last twice xs old c x h = (
  λ i. elim (in_either x (old ++ c ∷ []) (partner_lem c ∷ []) i) [
    | inl j ↦ elim (in_either x old (c ∷ []) j) [
      | inl k ↦ elim (h.0 k) [
        | inl a ↦ inl (in_front x xs (c ∷ []) a)
        | inr a ↦
            inr (in_front (partner_lem x) xs (c ∷ []) a)
      ]
      | inr k ↦ inl (in_back x xs (c ∷ []) k)
    ]
    | inr j ↦ elim j [
      | inl e ↦
          inr (in_back (partner_lem x) xs (c ∷ []) (inl (ap partner_lem e ∙ twice c)))
      | inr z ↦ elim z [ ]
    ]
  ],
  λ i. elim i [
    | inl a ↦ elim (in_either x xs (c ∷ []) a) [
      | inl k ↦ in_front x (old ++ c ∷ []) (partner_lem c ∷ [])
          (in_front x old (c ∷ []) (h.1 (inl k)))
      | inr k ↦ in_front x (old ++ c ∷ []) (partner_lem c ∷ []) (in_back x old (c ∷ []) k)
    ]
    | inr a ↦ elim (in_either (partner_lem x) xs (c ∷ []) a) [
      | inl k ↦ in_front x (old ++ c ∷ []) (partner_lem c ∷ [])
          (in_front x old (c ∷ []) (h.1 (inr k)))
      | inr k ↦ elim k [
        | inl e ↦
            in_back x (old ++ c ∷ []) (partner_lem c ∷ []) (inl (sym (twice x) ∙ ap partner_lem e))
        | inr z ↦ elim z [ ]
      ]
    ]
  ],
)

pub partners_more : PartnerOfPartner → (alphabet old mid new : List ℕ) (c p d i : ℕ) →
    i < length alphabet → c ≡ get_or alphabet i d → p ≡ partner_lem c → mid ≡ old ++ c ∷ [] →
    new ≡ mid ++ p ∷ [] → ((x : ℕ) → IsIn x old ↔ IsPartnered (take i alphabet) x)
    → (x : ℕ) → IsIn x new ↔ IsPartnered (take (i + 1) alphabet) x
partners_more twice alphabet old mid new c p d i lt is ip im ie h x =
    let e : take (i + 1) alphabet ≡ take i alphabet ++ c ∷ [] = take_more alphabet i d lt
    ∙ ap (λ z. take i alphabet ++ z ∷ []) (sym is) in
    let f : new ≡ (old ++ c ∷ []) ++ partner_lem c ∷ [] = ie ∙ ap (λ (z : List ℕ). z ++ p ∷ []) im
    ∙ ap (λ (z : ℕ). (old ++ c ∷ []) ++ z ∷ []) ip in
    subst (λ (z : List ℕ). IsIn x new ↔ IsPartnered z x) (sym e)
    (subst (λ (z : List ℕ). IsIn x z ↔ IsPartnered (take i alphabet ++ c ∷ []) x) (sym f)
    (partnered_last twice (take i alphabet) old c x (h x)))

-- the closure

or_cases : (a b : Bool) → (a || b) ≡ true → (a ≡ true) ⊎ (b ≡ true)
or_cases true b h = inl refl
or_cases false b h = inr h

or_left : (a b : Bool) → a ≡ true → (a || b) ≡ true
or_left true b h = refl
or_left false b h = cc

or_right : (a b : Bool) → b ≡ true → (a || b) ≡ true
or_right true b h = refl
or_right false b h = h

same_bool : (a b : Bool) → (a ≡ true → b ≡ true) → (b ≡ true → a ≡ true) → a ≡ b
same_bool true b f g = sym (f refl)
same_bool false true f g = g refl
same_bool false false f g = refl

pub closure_from : (alphabet closed : List ℕ) → ((c : ℕ) → IsIn c closed ↔ IsPartnered alphabet c) →
    IsClosure alphabet closed
closure_from alphabet closed h c =
    same_bool (has_letter closed c) (has_letter alphabet c || has_letter alphabet (partner_lem c))
    (λ t. elim ((h c).0 (has_in closed c t)) [
      | inl a ↦
          or_left (has_letter alphabet c) (has_letter alphabet (partner_lem c))
          (in_has alphabet c a)
      | inr a ↦ or_right (has_letter alphabet c) (has_letter alphabet (partner_lem c))
          (in_has alphabet (partner_lem c) a)
    ])
    (λ t. in_has closed c ((h c).1
    (elim (or_cases (has_letter alphabet c) (has_letter alphabet (partner_lem c)) t) [
      | inl a ↦
          inl (has_in alphabet c a)
      | inr a ↦ inr (has_in alphabet (partner_lem c) a)
    ])))

test_in : (p : ℕ → Bool) (xs : List ℕ) (c : ℕ) → IsTrue (list_all p xs) → IsIn c xs → IsTrue (p c)
test_in p [] c all h = elim h [ ]
test_in p (x ∷ xs) c all (inl e) = ap p e ∙ (and_parts (p x) (list_all p xs) all).0
test_in p (x ∷ xs) c all (inr h) = test_in p xs c ((and_parts (p x) (list_all p xs) all).1) h

all_from : (p : ℕ → Bool) (xs : List ℕ) → ((c : ℕ) → IsIn c xs → IsTrue (p c)) →
    IsTrue (list_all p xs)
all_from p [] h = refl
all_from p (x ∷ xs) h = and_from (p x) (list_all p xs) (h x (inl refl))
    (all_from p xs (λ c i. h c (inr i)))

partner_white : WhiteSpaceStays → (c : ℕ) → is_white (partner_lem c) ≡ is_white c
partner_white stays c = elim (cases_Bool (is_upper_lem c)) [
  | inl u ↦ ap is_white (cond-true (is_upper_lem c) (lower_lem c) (upper_lem c) u) ∙ (stays c).0
  | inr u ↦ ap is_white (cond-false (is_upper_lem c) (lower_lem c) (upper_lem c) u) ∙ (stays c).1
]

pub alphabet_from : ClosureIsClosed → WhiteSpaceStays → (alphabet closed : List ℕ) →
    IsTrue (list_all (λ c. not (is_white c)) alphabet) → Ascends nat_cmp closed →
    ((c : ℕ) → IsIn c closed ↔ IsPartnered alphabet c) → IsAlphabet closed
alphabet_from closes stays alphabet closed plain ascend h = record {
  ascend = ascend;
  closed = closes alphabet closed (closure_from alphabet closed h);
  no_white = all_from (λ c. not (is_white c)) closed (λ c i. elim ((h c).0 i) [
    | inl a ↦ test_in (λ x. not (is_white x)) alphabet c plain a
    | inr a ↦ subst (λ (b : Bool). IsTrue (not b)) (partner_white stays c)
        (test_in (λ x. not (is_white x)) alphabet (partner_lem c) plain a)
  ]);
}

pub members_through : (alphabet given made closed : List ℕ) → given ≡ alphabet →
    ((c : ℕ) → IsIn c made ↔ IsPartnered given c) → ((c : ℕ) → IsIn c closed ↔ IsIn c made) →
    (c : ℕ) → IsIn c closed ↔ IsPartnered alphabet c
members_through alphabet given made closed e h k c =
    subst (λ (xs : List ℕ). IsIn c closed ↔ IsPartnered xs c) e (
      (λ i. (h c).0 ((k c).0 i)),
      (λ i. (k c).1 ((h c).1 i)),
    )
