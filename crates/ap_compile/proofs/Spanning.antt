-- The characters of classes.
use Rattle.std.proofs.Common.{◌≡◌, ◌⊎◌, inl, inr, ℕ, ◌+◌, ◌<◌, ◌≤◌, Bool, true, false, not, ◌||◌, List, [], ◌∷◌, ◌++◌, refl, sym, ◌∙◌, ap, subst, arith, length, take, get_or, suc, zero, max}
use Rattle.std.specs.Prelude.{IsTrue, ◌↔◌, nat_le}
use Rattle.std.specs.Char.{IsScalar}
use Rattle.std.specs.List.{list_any, Contains}
use Rattle.std.specs.List.Sorted.{IsNonDecreasingBy, IsPermutation}
use Rattle.std.proofs.lemmas.Bool.{and_parts, and_from, or_cases, leb-true, le-leb, cases_lt}
use Rattle.std.proofs.lemmas.List.{take_more, take_all}
use Rattle.std.proofs.lemmas.List.Sorted.{Contains-permutation, IsPermutation-sym}
use Rattle.ap_symbol.specs.Words.{is_white}
use Rattle.ap_symbol.specs.declared.symbol.Symbol.{Symbol}
use Rattle.ap_symbol.specs.declared.symbol.Symbol.TheVariants.{Letter}
use Rattle.ap_dix.specs.Derivation.{Label as EntryLabel}
use Rattle.ap_dix.specs.Language.{IsOfClass, spans}
use Rattle.ap_dix.specs.declared.expr.Range.{Range}
use Rattle.ap_fst.specs.Sketches.{Sketch}
use Rattle.ap_fst.specs.Paths.{Accepts}
use Rattle.ap_fst.specs.declared.label.Label.{Label}
use Rattle.ap_compile.specs.Drafts.{IsDraftOf, IsMoreBy}
use Rattle.ap_compile.specs.Forming.{OfStrings, IsCode, IsOfSpan, IsCovered, range_first}
use Rattle.ap_compile.proofs.Drafting.{no_draft, no_more, same_more}
use Rattle.ap_compile.proofs.Forming.{same_strings, strings_draft, either_drafted}

-- more, and then more

pub more_then : (Q R : List EntryLabel → Type 0) (a b c : Sketch) → IsMoreBy Q a b →
    IsMoreBy R b c → IsMoreBy (λ w. Q w ⊎ R w) a c
more_then Q R a b c h k = record {
  exact = λ w. (
    (λ x. elim ((k.exact w).0 x) [
      | inl y ↦
          elim ((h.exact w).0 y) [ inl z ↦ inl z | inr q ↦ inr (inl q) ]
      | inr r ↦ inr (inr r)
    ]),
    (λ x. (k.exact w).1 (elim x [
      | inl z ↦ inl ((h.exact w).1 (inl z))
      | inr y ↦
          elim y [ inl q ↦ inl ((h.exact w).1 (inr q)) | inr r ↦ inr r ]
    ])),
  );
  plain = λ old. k.plain (h.plain old);
}

pub no_code : (code : ℕ) (a : Sketch) → ((s : List Symbol) → IsCode code s → ⊥) →
    IsMoreBy (OfStrings (IsCode code)) a a
no_code code a none = no_more (OfStrings (IsCode code)) a (λ w o. none o.string o.held)

pub code_strings : (code : ℕ) → IsScalar code → IsTrue (not (is_white code)) → (s : List Symbol) →
    (s ≡ Letter code ∷ []) ↔ IsCode code s
code_strings code scalar dark s =
    ((λ e. record { is = e; scalar = scalar; dark = dark }), (λ c. c.is))

pub more_strings : (P Q : List Symbol → Type 0) (a made : Sketch) → IsMoreBy (OfStrings P) a made →
    ((s : List Symbol) → P s ↔ Q s) → IsMoreBy (OfStrings Q) a made
more_strings P Q a made h same =
    same_more (OfStrings P) (OfStrings Q) a made h (same_strings P Q same)

pub span_none : (first : ℕ) (a : Sketch) → IsMoreBy (OfStrings (IsOfSpan first first)) a a
span_none first a = no_more (OfStrings (IsOfSpan first first)) a
    (λ w o. let k : IsOfSpan first first o.string = o.held in let low : first ≤ k.code = k.low in
    let high : k.code < first = k.high in omega arith)

either_strings : (P Q : List Symbol → Type 0) (w : List EntryLabel) →
    (OfStrings P w ⊎ OfStrings Q w) ↔ OfStrings (λ s. P s ⊎ Q s) w
either_strings P Q w = (
  (λ x. elim x [
    | inl o ↦ record { string = o.string; held = inl o.held; is = o.is }
    | inr o ↦
        record { string = o.string; held = inr o.held; is = o.is }
  ]),
  (λ o. elim o.held [
    | inl p ↦ inl (record { string = o.string; held = p; is = o.is })
    | inr q ↦
        inr (record { string = o.string; held = q; is = o.is })
  ]),
)

span_step : (first end : ℕ) → first ≤ end → (s : List Symbol) →
    (IsOfSpan first end s ⊎ IsCode end s) ↔ IsOfSpan first (end + 1) s
span_step first end le s = (
  (λ x. elim x [
    | inl h ↦ let high : h.code < end = h.high in
        record { code = h.code; low = h.low; high = omega arith; is_code = h.is_code }
    | inr c ↦ record { code = end; low = le; high = omega arith; is_code = c }
  ]),
  (λ h. let high : h.code < end + 1 = h.high in elim (cases_lt h.code end) [
    | inl lt ↦ inl (record { code = h.code; low = h.low; high = lt; is_code = h.is_code })
    | inr ge ↦ let same : h.code ≡ end = omega arith in inr (subst (λ z. IsCode z s) same h.is_code)
  ]),
)

pub span_more : (first end : ℕ) (a b c : Sketch) → first ≤ end →
    IsMoreBy (OfStrings (IsOfSpan first end)) a b → IsMoreBy (OfStrings (IsCode end)) b c →
    IsMoreBy (OfStrings (IsOfSpan first (end + 1))) a c
span_more first end a b c le h k =
    more_strings (λ s. IsOfSpan first end s ⊎ IsCode end s) (IsOfSpan first (end + 1)) a c
    (same_more (λ w. OfStrings (IsOfSpan first end) w ⊎ OfStrings (IsCode end) w)
    (OfStrings (λ s. IsOfSpan first end s ⊎ IsCode end s)) a c
    (more_then (OfStrings (IsOfSpan first end)) (OfStrings (IsCode end)) a b c h k)
    (either_strings (IsOfSpan first end) (IsCode end)))
    (span_step first end le)

or_right : (a b : Bool) → b ≡ true → (a || b) ≡ true
or_right true b h = refl
or_right false b h = h

pub span_over : (first end code : ℕ) (a b : Sketch) → end ≤ code → (code ≡ first) ⊎ (code ≤ end) →
    IsMoreBy (OfStrings (IsOfSpan first code)) a b → IsMoreBy (OfStrings (IsOfSpan first end)) a b
span_over first end code a b le (inl e) h =
    more_strings (IsOfSpan first code) (IsOfSpan first end) a b h (λ s. (
      (λ k. let low : first ≤ k.code = k.low in let high : k.code < code = k.high in
          absurd (omega arith)),
      (λ k. let low : first ≤ k.code = k.low in let high : k.code < end = k.high in
          absurd (omega arith)),
    ))
span_over first end code a b le (inr ge) h = let same : code ≡ end = omega arith in
    subst (λ (z : ℕ). IsMoreBy (OfStrings (IsOfSpan first z)) a b) same h

-- ranges in order

abbrev at : List Range → ℕ → Range
at ranges k = get_or ranges k (record { first = 0; last = 0 })

any_below : (p : Range → Bool) (xs : List Range) (i k : ℕ) → k < i → i ≤ length xs →
    p (at xs k) ≡ true → list_any p (take i xs) ≡ true
any_below p [] i k lt le h = absurd (omega arith)
any_below p (x ∷ xs) zero k lt le h = absurd (omega arith)
any_below p (x ∷ xs) (suc i) zero lt le h = ap (λ b. b || list_any p (take i xs)) h
any_below p (x ∷ xs) (suc i) (suc k) lt le h =
    let rest : list_any p (take i xs) ≡ true = any_below p xs i k (omega arith) (omega arith) h in
    or_right (p x) (list_any p (take i xs)) rest

any_snoc : (p : Range → Bool) (xs : List Range) (x : Range) → (list_any p (xs ++ x ∷ []) ≡ true) →
    (list_any p xs ≡ true) ⊎ (p x ≡ true)
any_snoc p [] x h = elim (or_cases (p x) false h) [
  | inl a ↦ inr a
  | inr b ↦ let no : ⊥ = cc
      in absurd no
]
any_snoc p (y ∷ xs) x h = elim (or_cases (p y) (list_any p (xs ++ x ∷ [])) h) [
  | inl a ↦ inl (ap (λ b. b || list_any p xs) a)
  | inr b ↦ elim (any_snoc p xs x b) [
    | inl c ↦ inl (or_right (p y) (list_any p xs) c)
    | inr d ↦ inr d
  ]
]

snoc_any : (p : Range → Bool) (xs : List Range) (x : Range) → (list_any p xs ≡ true) ⊎ (p x ≡ true)
    → list_any p (xs ++ x ∷ []) ≡ true
snoc_any p [] x (inl h) = let no : ⊥ = cc in absurd no
snoc_any p [] x (inr h) = ap (λ b. b || false) h
snoc_any p (y ∷ xs) x (inl h) = elim (or_cases (p y) (list_any p xs) h) [
  | inl a ↦ ap (λ b. b || list_any p (xs ++ x ∷ [])) a
  | inr b ↦ or_right (p y) (list_any p (xs ++ x ∷ [])) (snoc_any p xs x (inl b))
]
snoc_any p (y ∷ xs) x (inr h) = or_right (p y) (list_any p (xs ++ x ∷ [])) (snoc_any p xs x (inr h))

take_next : (xs : List Range) (i : ℕ) → i < length xs → take (i + 1) xs ≡ take i xs ++ at xs i ∷ []
take_next xs i lt = take_more xs i (record { first = 0; last = 0 }) lt

spans_from : (c : ℕ) (r : Range) → r.first ≤ c → c ≤ r.last → spans c r ≡ true
spans_from c r a b = and_from (nat_le r.first c) (nat_le c r.last) (le-leb r.first c a)
    (le-leb c r.last b)

-- a code of range `i` that is passed over lies in a range below it
passed : (ranges : List Range) (i next c : ℕ) → IsNonDecreasingBy range_first ranges →
    i < length ranges → IsCovered ranges i next → (at ranges i).first ≤ c → c < next →
    list_any (spans c) (take i ranges) ≡ true
passed ranges i next c sorted lt (inl z) low below = absurd (omega arith)
passed ranges i next c sorted lt (inr (k, k_lt, is)) low below =
    let order : (at ranges k).first ≤ (at ranges i).first =
    sorted k i (record { first = 0; last = 0 }) (omega arith) lt in
    any_below (spans c) ranges i k k_lt (omega arith)
    (spans_from c (at ranges k) (omega arith) (omega arith))

held_code : (ranges : List Range) (s : List Symbol) (h : IsOfClass ranges s) → IsCode h.code s
held_code ranges s h = record { is = h.is; scalar = h.held.scalar; dark = h.held.dark }

of_code : (ranges : List Range) (s : List Symbol) (code : ℕ) → IsCode code s →
    list_any (spans code) ranges ≡ true → IsOfClass ranges s
of_code ranges s code c h =
    record {
      code = code;
      is = c.is;
      held =
          record { scalar = c.scalar; spanned = h; dark = c.dark };
    }

class_step : (ranges : List Range) (i next first : ℕ) → IsNonDecreasingBy range_first ranges →
    i < length ranges → IsCovered ranges i next → first ≡ max next (at ranges i).first →
    (s : List Symbol)
    → (IsOfClass (take i ranges) s ⊎ IsOfSpan first ((at ranges i).last + 1) s)
    ↔ IsOfClass (take (i + 1) ranges) s
class_step ranges i next first sorted lt covered is s =
    let e : take (i + 1) ranges ≡ take i ranges ++ at ranges i ∷ [] = take_next ranges i lt in (
      (λ x. subst (λ (z : List Range). IsOfClass z s) (sym e) (elim x [
        | inl h ↦ of_code (take i ranges ++ at ranges i ∷ []) s h.code
            (held_code (take i ranges) s h)
            (snoc_any (spans h.code) (take i ranges) (at ranges i) (inl h.held.spanned))
        | inr h ↦ let low : first ≤ h.code = h.low in
            let high : h.code < (at ranges i).last + 1 = h.high in
            of_code (take i ranges ++ at ranges i ∷ []) s h.code h.is_code
            (snoc_any (spans h.code) (take i ranges) (at ranges i)
            (inr (spans_from h.code (at ranges i) (omega arith) (omega arith))))
      ])),
      (λ y. let h : IsOfClass (take i ranges ++ at ranges i ∷ []) s =
          subst (λ (z : List Range). IsOfClass z s) e y in
          let c : IsCode h.code s = held_code (take i ranges ++ at ranges i ∷ []) s h in
          elim (any_snoc (spans h.code) (take i ranges) (at ranges i) h.held.spanned) [
            | inl a ↦ inl (of_code (take i ranges) s h.code c a)
            | inr b ↦
                let parts = and_parts (nat_le (at ranges i).first h.code)
                (nat_le h.code (at ranges i).last) b in
                let low : (at ranges i).first ≤ h.code =
                leb-true (at ranges i).first h.code parts.0 in
                let high : h.code ≤ (at ranges i).last =
                leb-true h.code (at ranges i).last parts.1 in
                elim (cases_lt h.code next) [
                  | inl below ↦ inl (of_code (take i ranges) s h.code c
                      (passed ranges i next h.code sorted lt covered low below))
                  | inr above ↦ inr (record {
                    code = h.code;
                    low = omega arith;
                    high =
                        omega arith;
                    is_code = c;
                  })
                ]
          ]),
    )

pub class_more : (ranges : List Range) (i next first : ℕ) (a made : Sketch) →
    IsNonDecreasingBy range_first ranges → i < length ranges → IsCovered ranges i next →
    first ≡ max next (at ranges i).first → IsDraftOf (OfStrings (IsOfClass (take i ranges))) a
    → IsMoreBy (OfStrings (IsOfSpan first ((at ranges i).last + 1))) a made →
    IsDraftOf (OfStrings (IsOfClass (take (i + 1) ranges))) made
class_more ranges i next first a made sorted lt covered is h k =
    strings_draft (λ s. IsOfClass (take i ranges) s ⊎ IsOfSpan first ((at ranges i).last + 1) s)
    (IsOfClass (take (i + 1) ranges)) made
    (either_drafted (IsOfClass (take i ranges))
    (IsOfSpan first ((at ranges i).last + 1)) a made h k)
    (class_step ranges i next first sorted lt covered is)

pub covered_more : (ranges : List Range) (i next after : ℕ) → IsCovered ranges i next →
    after ≡ max next ((at ranges i).last + 1) → IsCovered ranges (i + 1) after
covered_more ranges i next after covered is =
    elim (cases_lt next ((at ranges i).last + 1)) [
      | inl lt ↦ inr (i, omega arith, omega arith)
      | inr ge ↦ let same : after ≡ next = omega arith in elim covered [
        | inl z ↦ inl (same ∙ z)
        | inr (k, k_lt, e) ↦ inr (k, omega arith, same ∙ e)
      ]
    ]

pub class_none : (ranges : List Range) (made : Sketch) → ((w : List Label) → Accepts made w → ⊥) →
    IsDraftOf (OfStrings (IsOfClass (take 0 ranges))) made
class_none ranges made h =
    no_draft (OfStrings (IsOfClass [])) made h (λ w o. let k : IsOfClass [] o.string = o.held in
    let no : ⊥ = (let f : false ≡ true = k.held.spanned in cc) in no)

pub class_all : (ranges : List Range) (i : ℕ) (made : Sketch) → length ranges ≤ i →
    IsDraftOf (OfStrings (IsOfClass (take i ranges))) made →
    IsDraftOf (OfStrings (IsOfClass ranges)) made
class_all ranges i made le h =
    subst (λ (z : List Range). IsDraftOf (OfStrings (IsOfClass z)) made) (take_all i ranges le) h

pub class_same : (a b : List Range) (made : Sketch) →
    ((c : ℕ) → IsTrue (list_any (spans c) a) ↔ IsTrue (list_any (spans c) b)) →
    IsDraftOf (OfStrings (IsOfClass a)) made → IsDraftOf (OfStrings (IsOfClass b)) made
class_same a b made same h = strings_draft (IsOfClass a) (IsOfClass b) made h (λ s. (
  (λ k. of_code b s k.code (held_code a s k) ((same k.code).0 k.held.spanned)),
  (λ k. of_code a s k.code (held_code b s k) ((same k.code).1 k.held.spanned)),
))

-- in another order

any_contains : (p : Range → Bool) (xs : List Range) → list_any p xs ≡ true →
    (x : Range) × Contains xs x × (p x ≡ true)
any_contains p [] h = let no : ⊥ = cc in absurd no
any_contains p (y ∷ xs) h = elim (or_cases (p y) (list_any p xs) h) [
  | inl a ↦ (y, (zero, omega arith, refl), a)
  | inr b ↦ let (x, (k, l, e), t) = any_contains p xs b in (x, (suc k, omega arith, e), t)
]

contains_any : (p : Range → Bool) (xs : List Range) (k : ℕ) (d x : Range) → k < length xs →
    get_or xs k d ≡ x → p x ≡ true → list_any p xs ≡ true
contains_any p [] k d x lt e t = absurd (omega arith)
contains_any p (y ∷ xs) zero d x lt e t = ap (λ b. b || list_any p xs) (ap p e ∙ t)
contains_any p (y ∷ xs) (suc k) d x lt e t =
    or_right (p y) (list_any p xs) (contains_any p xs k d x (omega arith) e t)

any_through : (p : Range → Bool) (xs ys : List Range) → IsPermutation xs ys → list_any p xs ≡ true →
    list_any p ys ≡ true
any_through p xs ys perm h =
    let (x, c, t) = any_contains p xs h in
    let (k, lt, e) = Contains-permutation xs ys x perm c in
    contains_any p ys k x x lt e t

pub spans_through : (old new : List Range) → IsPermutation old new → (c : ℕ) →
    IsTrue (list_any (spans c) new) ↔ IsTrue (list_any (spans c) old)
spans_through old new perm c = (
  any_through (spans c) new old (IsPermutation-sym old new perm),
  any_through (spans c) old new perm,
)
