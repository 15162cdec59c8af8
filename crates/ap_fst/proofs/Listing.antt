-- Lists: what they hold, where it stands, and lists in ascending order.
use Rattle.std.proofs.Common.{◌≡◌, ◌⊎◌, inl, inr, ℕ, ◌+◌, ◌-◌, ◌<◌, ◌≤◌, zero, suc, Bool, true, false, eqb, ltb, leb, List, [], ◌∷◌, ◌++◌, map, length, get_or, take, drop, refl, sym, ◌∙◌, ap, subst, arith, Some}
use Rattle.std.specs.Prelude.{slice_get}
use Rattle.std.specs.List.{filter, Contains}
use Rattle.std.specs.List.Sorted.{IsPermutation, IsNonDecreasingBy, IsPartitionPoint}
use Rattle.std.proofs.lemmas.Bool.{cases_lt, cases_Bool, cond-true, cond-false}
use Rattle.std.proofs.lemmas.List.{take_all, get_or-drop, get_or-take, length-drop, length-take-le}
use Rattle.std.proofs.lemmas.Bool.Decides.{nat_tests}
use Rattle.std.proofs.lemmas.List.Sorted.{Contains-permutation, IsPermutation-sym, IsNonDecreasingBy-drop}
use Rattle.std.proofs.lemmas.Option.{same_Some, none-some, slice_get_within, get_or_from_slice_get}
use Rattle.std.specs.declared.cmp.Ordering.{Ordering}
use Rattle.std.specs.declared.cmp.Ordering.TheVariants.{Less}
use Rattle.ap_fst.specs.Lists.{IsIn, Ascends, IsKeyRange, IsLow}

pub in_front : {X : Type 0} (x : X) (xs ys : List X) → IsIn x xs → IsIn x (xs ++ ys)
in_front x [] ys h = elim h [ ]
in_front x (y ∷ xs) ys (inl e) = inl e
in_front x (y ∷ xs) ys (inr h) = inr (in_front x xs ys h)

pub in_back : {X : Type 0} (x : X) (xs ys : List X) → IsIn x ys → IsIn x (xs ++ ys)
in_back x [] ys h = h
in_back x (y ∷ xs) ys h = inr (in_back x xs ys h)

pub in_either : {X : Type 0} (x : X) (xs ys : List X) → IsIn x (xs ++ ys) → IsIn x xs ⊎ IsIn x ys
in_either x [] ys h = inr h
in_either x (y ∷ xs) ys (inl e) = inl (inl e)
in_either x (y ∷ xs) ys (inr h) = elim (in_either x xs ys h) [ inl k ↦ inl (inr k) | inr k ↦ inr k ]

pub in_map : {X Y : Type 0} (f : X → Y) (x : X) (xs : List X) → IsIn x xs → IsIn (f x) (map f xs)
in_map f x [] h = elim h [ ]
in_map f x (y ∷ xs) (inl e) = inl (ap f e)
in_map f x (y ∷ xs) (inr h) = inr (in_map f x xs h)

-- what a mapped list holds comes from the list
pub record IsImage {X Y : Type 0} (f : X → Y) (y : Y) (xs : List X) : Type 0 where
  pub source : X
  pub listed : IsIn source xs
  pub image : y ≡ f source

pub in_mapped : {X Y : Type 0} (f : X → Y) (y : Y) (xs : List X) → IsIn y (map f xs) →
    IsImage f y xs
in_mapped f y [] h = elim h [ ]
in_mapped f y (x ∷ xs) (inl e) = record { source = x; listed = inl refl; image = e }
in_mapped f y (x ∷ xs) (inr h) = let k : IsImage f y xs = in_mapped f y xs h in
    record { source = k.source; listed = inr k.listed; image = k.image }

-- ---- places

pub record IsPlaced {X : Type 0} (x : X) (xs : List X) : Type 0 where
  pub place : ℕ
  pub at : slice_get xs place ≡ Some x

pub placed_in : {X : Type 0} (x : X) (xs : List X) → IsIn x xs → IsPlaced x xs
placed_in x [] h = elim h [ ]
placed_in x (y ∷ xs) (inl e) = record { place = zero; at = ap Some (sym e) }
placed_in x (y ∷ xs) (inr h) = let p : IsPlaced x xs = placed_in x xs h in
    record { place = suc p.place; at = p.at }

pub in_from_place : {X : Type 0} (xs : List X) (j : ℕ) (x : X) → slice_get xs j ≡ Some x → IsIn x xs
in_from_place [] j x h = absurd (none-some x h)
in_from_place (y ∷ xs) zero x h = inl (sym (same_Some y x h))
in_from_place (y ∷ xs) (suc j) x h = inr (in_from_place xs j x h)

pub in_at : {X : Type 0} (xs : List X) (j : ℕ) (d : X) → j < length xs → IsIn (get_or xs j d) xs
in_at [] j d h = absurd (omega arith)
in_at (y ∷ xs) zero d h = inl refl
in_at (y ∷ xs) (suc j) d h = inr (in_at xs j d (omega arith))

-- a place stays where a list grows at its end
pub place_front : {X : Type 0} (xs ys : List X) (j : ℕ) (x : X) → slice_get xs j ≡ Some x →
    slice_get (xs ++ ys) j ≡ Some x
place_front [] ys j x h = absurd (none-some x h)
place_front (y ∷ xs) ys zero x h = h
place_front (y ∷ xs) ys (suc j) x h = place_front xs ys j x h

-- the next item of what is left
pub yielded_in : {X : Type 0} (x : X) (all ys rest tail : List X) → all ≡ ys ++ rest →
    rest ≡ x ∷ tail → IsIn x all
yielded_in {X} x all ys rest tail e f =
    let P : List X → Type 0 = λ z. IsIn x z in
    subst P (sym (e ∙ ap (λ z. ys ++ z) f)) (in_back x ys (x ∷ tail) (inl refl))

-- ---- filters and permutations

pub in_filter : {X : Type 0} (p : X → Bool) (x : X) (xs : List X) → IsIn x xs → p x ≡ true →
    IsIn x (filter p xs)
in_filter p x [] h t = elim h [ ]
in_filter {X} p x (y ∷ xs) (inl e) t =
    let P : List X → Type 0 = λ z. IsIn x z in
    subst P (sym (cond-true (p y) (y ∷ filter p xs) (filter p xs) (ap p (sym e) ∙ t))) (inl e)
in_filter {X} p x (y ∷ xs) (inr h) t =
    let P : List X → Type 0 = λ z. IsIn x z in
    elim (cases_Bool (p y)) [
      | inl b ↦ subst P (sym (cond-true (p y) (y ∷ filter p xs) (filter p xs) b))
          (inr (in_filter p x xs h t))
      | inr b ↦ subst P (sym (cond-false (p y) (y ∷ filter p xs) (filter p xs) b))
          (in_filter p x xs h t)
    ]

pub record IsKept {X : Type 0} (p : X → Bool) (x : X) (xs : List X) : Type 0 where
  pub listed : IsIn x xs
  pub passes : p x ≡ true

kept_more : {X : Type 0} (p : X → Bool) (x y : X) (xs : List X) → IsKept p x xs →
    IsKept p x (y ∷ xs)
kept_more p x y xs k = record { listed = inr k.listed; passes = k.passes }

pub filter_in : {X : Type 0} (p : X → Bool) (x : X) (xs : List X) → IsIn x (filter p xs) →
    IsKept p x xs
filter_in p x [] h = elim h [ ]
filter_in {X} p x (y ∷ xs) h =
    let P : List X → Type 0 = λ z. IsIn x z in
    elim (cases_Bool (p y)) [
      | inl b ↦ elim (subst P (cond-true (p y) (y ∷ filter p xs) (filter p xs) b) h) [
        | inl e ↦ record { listed = inl e; passes = ap p e ∙ b }
        | inr k ↦ kept_more p x y xs (filter_in p x xs k)
      ]
      | inr b ↦ kept_more p x y xs
          (filter_in p x xs (subst P (cond-false (p y) (y ∷ filter p xs) (filter p xs) b) h))
    ]

pub in_contains : {X : Type 0} (x : X) (xs : List X) → IsIn x xs → Contains xs x
in_contains x [] h = elim h [ ]
in_contains x (y ∷ xs) (inl e) = (zero, omega arith, sym e)
in_contains x (y ∷ xs) (inr h) = let (k, l, e) = in_contains x xs h in (suc k, omega arith, e)

pub contains_in : {X : Type 0} (x : X) (xs : List X) → Contains xs x → IsIn x xs
contains_in {X} x xs (k, l, e) = let P : X → Type 0 = λ z. IsIn z xs in subst P e (in_at xs k x l)

pub in_permutation : {X : Type 0} (x : X) (xs ys : List X) → IsPermutation xs ys →
    IsIn x xs → IsIn x ys
in_permutation x xs ys p h = contains_in x ys (Contains-permutation xs ys x p (in_contains x xs h))

pub from_permutation : {X : Type 0} (x : X) (xs ys : List X) → IsPermutation xs ys →
    IsIn x ys → IsIn x xs
from_permutation x xs ys p h = in_permutation x ys xs (IsPermutation-sym xs ys p) h

-- ---- the part with one key

pub take_nil : {X : Type 0} (n low : ℕ) → take n (drop low (let e : List X = [] in e))
    ≡ (let e : List X = [] in e)
take_nil zero zero = refl
take_nil zero (suc low) = refl
take_nil (suc n) zero = refl
take_nil (suc n) (suc low) = refl

-- where smaller keys stand before low, this key in the next n places, and larger keys after these
pub same_key : {X : Type 0} (key : X → ℕ) (s : ℕ) (xs : List X) (low n : ℕ)
    → ((k : ℕ) (d : X) → k < low → key (get_or xs k d) < s)
    → ((k : ℕ) (d : X) → low ≤ k → k < low + n → key (get_or xs k d) ≡ s)
    → ((k : ℕ) (d : X) → low + n ≤ k → k < length xs → s < key (get_or xs k d))
    → take n (drop low xs) ≡ filter (λ x. eqb (key x) s) xs
same_key key s [] low n before mid after = take_nil n low
same_key key s (x ∷ xs) (suc low) n before mid after =
    let small : key x < s = before 0 x (omega arith) in
    let rest : take n (drop low xs) ≡ filter (λ y. eqb (key y) s) xs =
    same_key key s xs low n (λ k d h. before (suc k) d (omega arith))
    (λ k d h g. mid (suc k) d (omega arith) (omega arith))
    (λ k d h g. after (suc k) d (omega arith) (omega arith)) in
    rest ∙ sym (cond-false (eqb (key x) s) (x ∷ filter (λ y. eqb (key y) s) xs)
    (filter (λ y. eqb (key y) s) xs) (grind (arith, nat_tests)))
same_key key s (x ∷ xs) zero (suc n) before mid after =
    let here : key x ≡ s = mid 0 x (omega arith) (omega arith) in
    let rest : take n (drop 0 xs) ≡ filter (λ y. eqb (key y) s) xs =
    same_key key s xs zero n (λ k d h. absurd (omega arith))
    (λ k d h g. mid (suc k) d (omega arith) (omega arith))
    (λ k d h g. after (suc k) d (omega arith) (omega arith)) in
    ap (λ z. x ∷ z) rest ∙ sym
    (cond-true (eqb (key x) s) (x ∷ filter (λ y. eqb (key y) s) xs)
    (filter (λ y. eqb (key y) s) xs) (grind (arith, nat_tests)))
same_key key s (x ∷ xs) zero zero before mid after =
    let large : s < key x = after 0 x (omega arith) (omega arith) in
    let rest : take 0 (drop 0 xs) ≡ filter (λ y. eqb (key y) s) xs =
    same_key key s xs zero zero (λ k d h. absurd (omega arith))
    (λ k d h g. absurd (omega arith))
    (λ k d h g. after (suc k) d (omega arith) (omega arith)) in
    rest ∙ sym (cond-false (eqb (key x) s) (x ∷ filter (λ y. eqb (key y) s) xs)
    (filter (λ y. eqb (key y) s) xs) (grind (arith, nat_tests)))

-- the same from two points of halving
points_rise : {X : Type 0} (key : X → ℕ) (s : ℕ) (xs : List X) (low high : ℕ) → low ≤ length xs
    → ((k : ℕ) (d : X) → k < low → key (get_or xs k d) < s)
    → ((k : ℕ) (d : X) → high ≤ k → k < length xs → s < key (get_or xs k d)) → low ≤ high
points_rise key s [] low high end before after = omega arith
points_rise key s (x ∷ xs) low high end before after =
    elim (cases_lt high low) [
      | inl lt ↦ let a : key (get_or (x ∷ xs) high x) < s = before high x lt in
          let b : s < key (get_or (x ∷ xs) high x) = after high x (omega arith) (omega arith) in
          absurd (omega arith)
      | inr le ↦ le
    ]

pub key_range : {X : Type 0} (key : X → ℕ) (s : ℕ) (xs : List X) (low high : ℕ)
    → IsPartitionPoint (λ x. ltb (key x) s ≡ true) (λ x. ltb (key x) s ≡ false) xs low →
    low ≤ length xs
    → IsPartitionPoint (λ x. leb (key x) s ≡ true) (λ x. leb (key x) s ≡ false) xs high →
    high ≤ length xs → IsKeyRange key s xs low high
key_range {X} key s xs low high l lend h hend =
    let before : (k : ℕ) (d : X) → k < low → key (get_or xs k d) < s =
    λ k d lt. let t : ltb (key (get_or xs k d)) s ≡ true = l.0 k d (omega arith) lt in
    grind (arith, nat_tests) in
    let after : (k : ℕ) (d : X) → high ≤ k → k < length xs → s < key (get_or xs k d) =
    λ k d le lt. let t : leb (key (get_or xs k d)) s ≡ false = h.1 k d le lt in
    grind (arith, nat_tests) in
    let mid : (k : ℕ) (d : X) → low ≤ k → k < high → key (get_or xs k d) ≡ s = λ k d le lt.
    let t : leb (key (get_or xs k d)) s ≡ true = h.0 k d (omega arith) lt in
    let u : ltb (key (get_or xs k d)) s ≡ false = l.1 k d le (omega arith) in
    grind (arith, nat_tests) in
    let rises : low ≤ high = points_rise key s xs low high lend before after in
    record {
      rises = rises;
      end = hend;
      part = same_key key s xs low (high - low) before (λ k d le lt. mid k d le (omega arith))
          (λ k d le lt. after k d (omega arith) lt);
      inside = mid;
      below = before;
      above = after;
    }

-- what a list holds from a place on
abbrev pub rest_from : {X : Type 0} → ℕ → List X → List X
rest_from low xs = take (length xs - low) (drop low xs)

pub rest_is : {X : Type 0} (low : ℕ) (xs : List X) → rest_from low xs ≡ drop low xs
rest_is low xs = let long : length (drop low xs) ≡ length xs - low = length-drop low xs in
    take_all (length xs - low) (drop low xs) (omega arith)

rest_at : {X : Type 0} (low : ℕ) (xs : List X) (k : ℕ) (d : X) → low ≤ k →
    get_or (rest_from low xs) (k - low) d ≡ get_or xs k d
rest_at low xs k d le = ap (λ z. get_or z (k - low) d) (rest_is low xs)
    ∙ get_or-drop low xs (k - low) d
    ∙ ap (λ i. get_or xs i d) (let e : low + (k - low) ≡ k = omega arith in e)

pub rest_length : {X : Type 0} (low : ℕ) (xs : List X) → length (rest_from low xs) ≡ length xs - low
rest_length low xs = ap length (rest_is low xs) ∙ length-drop low xs

pub rest_sorted : {X : Type 0} (key : X → ℕ) (low : ℕ) (xs : List X) → IsNonDecreasingBy key xs →
    IsNonDecreasingBy key (rest_from low xs)
rest_sorted {X} key low xs up = let P : List X → Type 0 = λ z. IsNonDecreasingBy key z in
    subst P (sym (rest_is low xs)) (IsNonDecreasingBy-drop key low xs up)

-- up to this place the keys are at most s, and from there on above
abbrev pub IsEnd : {X : Type 0} → (X → ℕ) → ℕ → List X → ℕ → Type 0
IsEnd key s xs high = IsPartitionPoint (λ x. leb (key x) s ≡ true)
    (λ x. leb (key x) s ≡ false) xs high

-- found in the rest of a list, where all before are within
end_behind : {X : Type 0} (key : X → ℕ) (s : ℕ) (xs : List X) (low more : ℕ) →
    ((k : ℕ) (d : X) → k < low → key (get_or xs k d) ≤ s) → IsEnd key s (rest_from low xs) more →
    IsEnd key s xs (low + more)
end_behind key s xs low more before p = (
  λ k d from lt. elim (cases_lt k low) [
    | inl below ↦ let h : key (get_or xs k d) ≤ s = before k d below in grind (arith, nat_tests)
    | inr le ↦ ap (λ x. leb (key x) s) (sym (rest_at low xs k d le))
        ∙ p.0 (k - low) d (omega arith) (omega arith)
  ],
  λ k d from lt.
      let long : length (rest_from low xs) ≡ length xs - low = rest_length low xs in
      ap (λ x. leb (key x) s) (sym (rest_at low xs k d (omega arith)))
      ∙ p.1 (k - low) d (omega arith) (omega arith),
)

-- where keys do not fall: found among the first items
pub end_near : {X : Type 0} (key : X → ℕ) (s : ℕ) (xs : List X) (near high : ℕ) →
    IsNonDecreasingBy key xs → near ≤ length xs → high < near → IsEnd key s (take near xs) high →
    IsEnd key s xs high
end_near key s xs near high up end lt p = (
  λ k d from below. ap (λ x. leb (key x) s) (sym (get_or-take near xs k d (omega arith)))
      ∙ p.0 k d from below,
  λ k d from within.
      let long : length (take near xs) ≡ near = length-take-le near xs end in
      let t : leb (key (get_or (take near xs) high d)) s ≡ false =
      p.1 high d (omega arith) (omega arith) in
      let u : leb (key (get_or xs high d)) s ≡ false =
      ap (λ x. leb (key x) s) (sym (get_or-take near xs high d lt)) ∙ t in
      let more : key (get_or xs high d) ≤ key (get_or xs k d) = up high k d from within in
      grind (arith, nat_tests),
)

-- not found among the first items, but in the rest
pub end_far : {X : Type 0} (key : X → ℕ) (s : ℕ) (xs : List X) (near high more : ℕ) → near ≤ high →
    IsEnd key s (take near xs) high → IsEnd key s (rest_from near xs) more →
    IsEnd key s xs (near + more)
end_far key s xs near high more le p q = end_behind key s xs near more (λ k d lt.
    let t : leb (key (get_or (take near xs) k d)) s ≡ true = p.0 k d (omega arith) (omega arith) in
    let u : leb (key (get_or xs k d)) s ≡ true =
    ap (λ x. leb (key x) s) (sym (get_or-take near xs k d lt)) ∙ t in
    grind (arith, nat_tests)) q

-- the part with one key, from its beginning and from where it ends in the rest
pub key_range_on : {X : Type 0} (key : X → ℕ) (s : ℕ) (xs : List X) (low more : ℕ) →
    IsPartitionPoint (λ x. ltb (key x) s ≡ true) (λ x. ltb (key x) s ≡ false) xs low →
    low ≤ length xs
    → IsEnd key s (rest_from low xs) more → more ≤ length (rest_from low xs) →
    IsKeyRange key s xs low (low + more)
key_range_on key s xs low more l lend h hend =
    let long : length (rest_from low xs) ≡ length xs - low = rest_length low xs in
    key_range key s xs low (low + more) l lend
    (end_behind key s xs low more (λ k d lt. let t : ltb (key (get_or xs k d)) s ≡ true =
    l.0 k d (omega arith) lt in grind (arith, nat_tests)) h)
    (omega arith)

-- a place that was tested
pub low_from : {X : Type 0} (key : X → ℕ) (s : ℕ) (xs : List X) (at : ℕ) → IsNonDecreasingBy key xs
    → at ≤ length xs → ((d : X) → 0 < at → key (get_or xs (at - 1) d) < s) →
    ((d : X) → at < length xs → s ≤ key (get_or xs at d)) → IsLow key s xs at
low_from key s xs at up end before behind = record {
  end = end;
  below = λ k d lt. let h : key (get_or xs k d) ≤ key (get_or xs (at - 1) d) =
      up k (at - 1) d (omega arith) (omega arith) in let g : key (get_or xs (at - 1) d) < s =
      before d (omega arith) in omega arith;
  above = λ k d le lt. let h : key (get_or xs at d) ≤ key (get_or xs k d) = up at k d le lt in
      let g : s ≤ key (get_or xs at d) = behind d (omega arith) in omega arith;
}

pub low_point : {X : Type 0} (key : X → ℕ) (s : ℕ) (xs : List X) (at : ℕ) → IsLow key s xs at →
    IsPartitionPoint (λ x. ltb (key x) s ≡ true) (λ x. ltb (key x) s ≡ false) xs at
low_point key s xs at low = (
  λ k d from lt. let h : key (get_or xs k d) < s = low.below k d lt in grind (arith, nat_tests),
  λ k d from lt. let h : s ≤ key (get_or xs k d) = low.above k d from lt in
      grind (arith, nat_tests),
)

-- ---- ascending lists

-- what the order raises does not fall
pub ascends_by : {X : Type 0} (cmp : X → X → Ordering) (key : X → ℕ) →
    ((x y : X) → cmp x y ≡ Less → key x ≤ key y) → (xs : List X) → Ascends cmp xs →
    IsNonDecreasingBy key xs
ascends_by cmp key up [] a i j d le lt = absurd (omega arith)
ascends_by cmp key up (x ∷ xs) a zero zero d le lt = omega arith
ascends_by cmp key up (x ∷ xs) a zero (suc j) d le lt =
    up x (get_or xs j d) (a.0 (get_or xs j d) (in_at xs j d (omega arith)))
ascends_by cmp key up (x ∷ xs) a (suc i) zero d le lt = absurd (omega arith)
ascends_by cmp key up (x ∷ xs) a (suc i) (suc j) d le lt =
    ascends_by cmp key up xs a.1 i j d (omega arith) (omega arith)

-- one item more, above all
pub ascends_push : {X : Type 0} (cmp : X → X → Ordering) (xs : List X) (y : X) → Ascends cmp xs →
    ((x : X) → IsIn x xs → cmp x y ≡ Less) → Ascends cmp (xs ++ y ∷ [])
ascends_push cmp [] y a h = ((λ z i. elim i [ ]), tt)
ascends_push cmp (x ∷ xs) y a h = (
  (λ z i. elim (in_either z xs (y ∷ []) i) [
    | inl k ↦ a.0 z k
    | inr k ↦
        elim k [
          | inl e ↦ subst (λ w. cmp x w ≡ Less) (sym e) (h x (inl refl))
          | inr n ↦
              elim n [ ]
        ]
  ]),
  ascends_push cmp xs y a.1 (λ z i. h z (inr i)),
)

-- the places with one key, named by what stands there
pub range_inside : {X : Type 0} (key : X → ℕ) (s : ℕ) (xs : List X) (low high : ℕ) →
    IsKeyRange key s xs low high → (j : ℕ) (x : X) → slice_get xs j ≡ Some x → low ≤ j →
    j < high → key x ≡ s
range_inside key s xs low high r j x at le lt = sym (ap key (get_or_from_slice_get xs j x x at))
    ∙ r.inside j x le lt

pub range_outside : {X : Type 0} (key : X → ℕ) (s : ℕ) (xs : List X) (low high : ℕ) →
    IsKeyRange key s xs low high → (j : ℕ) (x : X) → slice_get xs j ≡ Some x → key x ≡ s →
    (low ≤ j) × (j < high)
range_outside key s xs low high r j x at is =
    let e : key (get_or xs j x) ≡ s = ap key (get_or_from_slice_get xs j x x at) ∙ is in
    let within : j < length xs = slice_get_within xs j x at in (
      elim (cases_lt j low) [
        | inl lt ↦ let b : key (get_or xs j x) < s = r.below j x lt in
            absurd (omega arith)
        | inr le ↦ le
      ],
      elim (cases_lt j high) [
        | inl lt ↦ lt
        | inr le ↦ let b : s < key (get_or xs j x) =
            r.above j x le within in absurd (omega arith)
      ],
    )
