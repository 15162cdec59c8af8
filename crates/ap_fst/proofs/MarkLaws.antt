-- States that are known by their marks, or among the further ones.
use Rattle.std.proofs.Common.{◌≡◌, ◌⊎◌, inl, inr, ℕ, ◌+◌, ◌-◌, ◌<◌, ◌≤◌, Bool, true, false, ltb, leb, eqb, List, [], ◌∷◌, ◌++◌, length, get_or, refl, sym, ◌∙◌, ap, subst, arith}
use Rattle.std.specs.Prelude.{◌↔◌, ◌≢◌, IsTrue, slice_get, slice_set}
use Rattle.std.specs.Option.{unwrap_or}
use Rattle.std.specs.List.{list_any, AllWithin}
use Rattle.std.specs.List.Sorted.{IsNonDecreasingBy}
use Rattle.std.proofs.lemmas.Bool.{cases_eq, cases_lt, cases_Bool, true≢false}
use Rattle.std.proofs.lemmas.Bool.Decides.{nat_tests}
use Rattle.std.proofs.lemmas.List.{get_or-set_same, get_or-set_other, length-set}
use Rattle.std.proofs.lemmas.Option.{slice_get_past, slice_get-get_or, unwrap_or-slice_get, same_Some}
use Rattle.ap_fst.specs.Lists.{IsIn}
use Rattle.ap_fst.specs.Graphs.{with_state, Grows}
use Rattle.ap_fst.specs.Marks.{is_known, AreKnown}
use Rattle.ap_fst.proofs.Listing.{in_front, in_back, in_either}
use Rattle.ap_fst.proofs.Growing.{in_from_any, any_from_in, grows_one, grows_keeps, grows_only}

-- ---- what is known

by_mark : (marks : List Bool) (further : List ℕ) (s : ℕ) (d : Bool) → s < length marks →
    is_known marks further s ≡ get_or marks s d
by_mark marks further s d lt =
    ap (λ o. unwrap_or o (list_any (λ y. eqb s y) further)) (slice_get-get_or marks s d lt)

by_list : (marks : List Bool) (further : List ℕ) (s : ℕ) → length marks ≤ s →
    is_known marks further s ≡ list_any (λ y. eqb s y) further
by_list marks further s le =
    ap (λ o. unwrap_or o (list_any (λ y. eqb s y) further)) (slice_get_past marks s le)

-- where a test answers as the marks and the further states do
pub known_as : (marks : List Bool) (further states now : List ℕ) (s : ℕ) (answer : Bool) →
    AreKnown marks further states → states ≡ now → answer ≡ is_known marks further s →
    IsTrue answer ↔ IsIn s now
known_as marks further states now s answer k e a =
    let P : List ℕ → Type 0 = λ z. IsIn s z in
    (λ t. subst P e ((k s).0 (sym a ∙ t)), λ i. a ∙ (k s).1 (subst P (sym e) i))

pub marked_as : (marks : List Bool) (further states now : List ℕ) (s : ℕ) (answer : Bool) →
    AreKnown marks further states → states ≡ now → s < length marks → answer ≡ get_or marks s answer
    → IsTrue answer ↔ IsIn s now
marked_as marks further states now s answer k e lt a =
    known_as marks further states now s answer k e (a ∙ sym (by_mark marks further s answer lt))

pub listed_as : (marks : List Bool) (further states now : List ℕ) (s : ℕ) (answer : Bool) →
    AreKnown marks further states → states ≡ now → length marks ≤ s →
    answer ≡ list_any (λ y. eqb s y) further → IsTrue answer ↔ IsIn s now
listed_as marks further states now s answer k e le a =
    known_as marks further states now s answer k e (a ∙ sym (by_list marks further s le))

-- without further states each has a mark
pub known_below : (marks : List Bool) (further states now : List ℕ) → AreKnown marks further states
    → states ≡ now → length further ≡ 0 → (s : ℕ) → IsIn s now → s < length marks
known_below marks [] states now k e none s i =
    let P : List ℕ → Type 0 = λ z. IsIn s z in
    elim (cases_lt s (length marks)) [
      | inl lt ↦ lt
      | inr le ↦ absurd (true≢false (sym ((k s).1 (subst P (sym e) i)) ∙ by_list marks [] s le))
    ]
known_below marks (x ∷ further) states now k e none s i = absurd (omega arith)

-- ---- one state more

pushed : (x s : ℕ) (old new : List ℕ) → new ≡ old ++ s ∷ [] → IsIn x new → IsIn x old ⊎ (x ≡ s)
pushed x s old new e i =
    let P : List ℕ → Type 0 = λ z. IsIn x z in
    elim (in_either x old (s ∷ []) (subst P e i)) [
      | inl k ↦ inl k
      | inr k ↦
          elim k [ inl f ↦ inr f | inr n ↦ elim n [ ] ]
    ]

pushed_old : (x s : ℕ) (old new : List ℕ) → new ≡ old ++ s ∷ [] → IsIn x old → IsIn x new
pushed_old x s old new e i = let P : List ℕ → Type 0 = λ z. IsIn x z in
    subst P (sym e) (in_front x old (s ∷ []) i)

pushed_new : (x s : ℕ) (old new : List ℕ) → new ≡ old ++ s ∷ [] → x ≡ s → IsIn x new
pushed_new x s old new e f = let P : List ℕ → Type 0 = λ z. IsIn x z in
    subst P (sym e) (in_back x old (s ∷ []) (inl f))

-- where the others are known as before, and the new one is known too
known_more : (marks marked : List Bool) (further others states new : List ℕ) (s : ℕ) →
    AreKnown marks further states → new ≡ states ++ s ∷ []
    → ((x : ℕ) → x ≢ s → is_known marked others x ≡ is_known marks further x) →
    is_known marked others s ≡ true → AreKnown marked others new
known_more marks marked further others states new s k e same here x =
    elim (cases_eq x s) [
      | inl f ↦ (λ t. pushed_new x s states new e f, λ i. ap (is_known marked others) f ∙ here)
      | inr d ↦ (
        λ t. pushed_old x s states new e ((k x).0 (sym (same x d) ∙ t)),
        λ i. elim (pushed x s states new e i) [
          | inl o ↦ same x d ∙ (k x).1 o
          | inr f ↦
              absurd (d f)
        ],
      )
    ]

pub known_marked : (marks : List Bool) (further states new : List ℕ) (s : ℕ) →
    AreKnown marks further states → s < length marks → new ≡ states ++ s ∷ [] →
    AreKnown (slice_set marks s true) further new
known_marked marks further states new s k lt e =
    let long : length (slice_set marks s true) ≡ length marks = length-set marks s true in
    known_more marks (slice_set marks s true) further further states new s k e
    (λ x d.
    let rest : ℕ → Bool = λ z. list_any (λ y. eqb z y) further in
    unwrap_or-slice_get (slice_set marks s true) x (rest x)
    ∙ get_or-set_other marks s x true (rest x) d ∙ sym (unwrap_or-slice_get marks x (rest x)))
    (by_mark (slice_set marks s true) further s true (omega arith)
    ∙ get_or-set_same marks s true true lt)

any_other : (x s : ℕ) (old new : List ℕ) → x ≢ s → new ≡ with_state old s →
    list_any (λ y. eqb x y) new ≡ list_any (λ y. eqb x y) old
any_other x s old new d e =
    let g : Grows old (s ∷ []) new = grows_one old s new e in
    elim (cases_Bool (list_any (λ y. eqb x y) old)) [
      | inl t ↦ any_from_in x new (grows_keeps old (s ∷ []) new x g (in_from_any x old t)) ∙ sym t
      | inr f ↦ elim (cases_Bool (list_any (λ y. eqb x y) new)) [
        | inl t ↦ elim (grows_only old (s ∷ []) new x g (in_from_any x new t)) [
          | inl i ↦ absurd (true≢false (sym (any_from_in x old i) ∙ f))
          | inr i ↦ elim i [ inl h ↦ absurd (d h) | inr n ↦ elim n [ ] ]
        ]
        | inr n ↦ n ∙ sym f
      ]
    ]

pub known_further : (marks : List Bool) (further others states new : List ℕ) (s : ℕ) →
    AreKnown marks further states → length marks ≤ s → others ≡ with_state further s →
    new ≡ states ++ s ∷ [] → AreKnown marks others new
known_further marks further others states new s k le e f =
    let g : Grows further (s ∷ []) others = grows_one further s others e in
    known_more marks marks further others states new s k f
    (λ x d. ap (unwrap_or (slice_get marks x)) (any_other x s further others d e))
    (by_list marks others s le ∙ any_from_in s others (g.there s (inl refl)))

pub grows_push : (old states new : List ℕ) (s : ℕ) → states ≡ old → new ≡ states ++ s ∷ [] →
    Grows old (s ∷ []) new
grows_push old states new s e f = record {
  more = s ∷ [];
  grown = f ∙ ap (λ z. z ++ s ∷ []) e;
  there = λ x i. elim i [ inl h ↦ pushed_new x s states new f h | inr n ↦ elim n [ ] ];
  only = λ x i. i;
}

-- ---- places in a list whose keys do not fall

same_default : {X : Type 0} (xs : List X) (k : ℕ) (d e : X) → k < length xs →
    get_or xs k d ≡ get_or xs k e
same_default xs k d e lt =
    same_Some (get_or xs k d) (get_or xs k e) (sym (slice_get-get_or xs k d lt)
    ∙ slice_get-get_or xs k e lt)

pub all_below : {X : Type 0} (key : X → ℕ) (s : ℕ) (xs : List X) (end : ℕ) (d : X) →
    IsNonDecreasingBy key xs → end ≤ length xs → 0 < end → key (get_or xs (end - 1) d) < s →
    AllWithin (λ x. ltb (key x) s ≡ true) xs 0 end
all_below key s xs end d up le pos last k e from lt =
    let m : key (get_or xs k d) ≤ key (get_or xs (end - 1) d) =
    up k (end - 1) d (omega arith) (omega arith) in
    let f : key (get_or xs k e) ≡ key (get_or xs k d) =
    ap key (same_default xs k e d (omega arith)) in
    let l : key (get_or xs k e) < s = omega arith in
    grind (arith, nat_tests)

pub none_below : {X : Type 0} (key : X → ℕ) (s : ℕ) (xs : List X) (begin : ℕ) (d : X) →
    IsNonDecreasingBy key xs → s ≤ key (get_or xs begin d) →
    AllWithin (λ x. ltb (key x) s ≡ false) xs begin (length xs)
none_below key s xs begin d up first k e from lt =
    let m : key (get_or xs begin d) ≤ key (get_or xs k d) = up begin k d from lt in
    let f : key (get_or xs k e) ≡ key (get_or xs k d) = ap key (same_default xs k e d lt) in
    let l : s ≤ key (get_or xs k e) = omega arith in
    grind (arith, nat_tests)

-- up to the next number and below it
pub below_next : {X : Type 0} (key : X → ℕ) (s next : ℕ) (xs : List X) (high : ℕ) → next ≡ s + 1 →
    AllWithin (λ x. ltb (key x) next ≡ true) xs 0 high
    × AllWithin (λ x. ltb (key x) next ≡ false) xs high (length xs)
    → AllWithin (λ x. leb (key x) s ≡ true) xs 0 high
    × AllWithin (λ x. leb (key x) s ≡ false) xs high (length xs)
below_next key s next xs high e p = (
  λ k d from lt. let t : ltb (key (get_or xs k d)) next ≡ true = p.0 k d from lt in
      grind (arith, nat_tests),
  λ k d from lt. let t : ltb (key (get_or xs k d)) next ≡ false = p.1 k d from lt in
      grind (arith, nat_tests),
)
