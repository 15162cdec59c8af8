-- The splits of a surface, place by place: how few parts there are, and what is listed.
use Rattle.std.proofs.Common.{◌≡◌, ◌⊎◌, inl, inr, ℕ, ◌+◌, ◌-◌, ◌<◌, ◌≤◌, zero, suc, Bool, true, false, List, [], ◌∷◌, ◌++◌, length, take, drop, Option, Some, None, refl, sym, ap, subst, ◌∙◌, arith}
use Rattle.std.specs.Prelude.{◌↔◌, slice_get}
use Rattle.std.proofs.lemmas.List.{drop-drop, drop_at, take_at, length-drop, length-take-le, take-append-drop}
use Rattle.std.proofs.lemmas.Option.{none-some, same_Some}
use Rattle.ap_symbol.specs.Lists.{IsIn}
use Rattle.ap_symbol.specs.declared.symbol.Symbol.{Symbol}
use Rattle.ap_live.specs.Found.{has_words}
use Rattle.ap_live.specs.Lexicon.{Lexicon}
use Rattle.ap_compound.specs.Places.{words_at, IsLeast, through, one_more_if, arriving, Arrives, Completes, IsExplored}
use Rattle.ap_compound.specs.Splits.{left_parts, right_parts}
use Rattle.ap_compound.specs.declared.place.Place.{Place}
use Rattle.ap_compound.proofs.Least.{IsNoMore}
use Rattle.ap_compound.proofs.Splitting.{IsSplit, ends, goes, some_split}

-- ---- small facts

pub some_word : (words : List (List Symbol)) → has_words words ≡ true → (w : List Symbol) × IsIn w words
some_word [] h = cc
some_word (w ∷ words) h = (w, inl refl)

word_some : (w : List Symbol) (words : List (List Symbol)) → IsIn w words → has_words words ≡ true
word_some w [] i = absurd i
word_some w (v ∷ words) i = refl

pub place_there : {X : Type 0} (xs : List X) (i : ℕ) → i < length xs → (x : X) × (slice_get xs i ≡ Some x)
place_there [] i lt = absurd (omega (arith, lt))
place_there (x ∷ xs) zero lt = (x, refl)
place_there (x ∷ xs) (suc i) lt = place_there xs i (omega arith)

pub place_within : {X : Type 0} (xs : List X) (i : ℕ) (x : X) → slice_get xs i ≡ Some x → i < length xs
place_within [] i x e = absurd (none-some x e)
place_within (y ∷ xs) zero x e = omega arith
place_within (y ∷ xs) (suc i) x e = let r : i < length xs = place_within xs i x e in omega arith

pub one_place : {X : Type 0} (xs : List X) (i : ℕ) (x y : X) → slice_get xs i ≡ Some x →
    slice_get xs i ≡ Some y → x ≡ y
one_place xs i x y e f = same_Some x y (sym e ∙ f)

-- of so many parts and one more, where one is there, the parts before it
record IsThrough (b : Bool) (o : Option ℕ) (m : ℕ) : Type 0 where
  pub count : ℕ
  pub reached : o ≡ Some count
  pub more : m ≡ suc count
  pub there : b ≡ true

one_more_is : (b : Bool) (count m : ℕ) → one_more_if b count ≡ Some m → IsThrough b (Some count) m
one_more_is true count m e = record {
  count = count;
  reached = refl;
  more = sym (same_Some (suc count) m e);
  there = refl;
}
one_more_is false count m e = absurd (none-some m e)

through_is : (b : Bool) (o : Option ℕ) (m : ℕ) → through b o ≡ Some m → IsThrough b o m
through_is b None m e = absurd (none-some m e)
through_is b (Some count) m e = one_more_is b count m e

through_of : (b : Bool) (o : Option ℕ) (count : ℕ) → o ≡ Some count → b ≡ true →
    through b o ≡ Some (suc count)
through_of b o count e t =
    ap (through b) e ∙ ap (λ (z : Bool). through z (Some count)) t

module _ (lexicon : Lexicon) (surface : List Symbol) where
  abbrev pub IsLeft : ℕ → ℕ → List Symbol → Type 0
  IsLeft i k w = IsIn w (left_parts lexicon (take (suc k) (drop i surface)))

  abbrev pub IsRight : ℕ → List Symbol → Type 0
  IsRight i w = IsIn w (right_parts lexicon (drop i surface))

  -- What stands from a place on: a right part, where the place isn't the first, or a left part and
  -- what stands behind it. These are the words of the parts.
  pub data IsRest : ℕ → List (List Symbol) → Type 0 where
    last : {i : ℕ} {words : List (List Symbol)} (w : List Symbol) → 0 < i → i < length surface →
        IsRight i w → words ≡ w ∷ [] → IsRest i words
    more : {i : ℕ} {words : List (List Symbol)} (k : ℕ) (w : List Symbol)
        (others : List (List Symbol)) → i + suc k < length surface → IsLeft i k w →
        IsRest (i + suc k) others → words ≡ w ∷ others → IsRest i words

  pub split_of_rest : (i : ℕ) (words : List (List Symbol)) → IsRest i words →
      IsSplit lexicon (drop i surface) words
  split_of_rest i words (last w behind within right e) =
      let some : 0 < length (drop i surface) = omega (arith, length-drop i surface, within) in
      ends w some right e
  split_of_rest i words (more k w others within left rest e) =
      let long : suc k ≤ length (drop i surface) = omega (arith, length-drop i surface, within) in
      let size : length (take (suc k) (drop i surface)) ≡ suc k =
      length-take-le (suc k) (drop i surface) long in
      let some : 0 < length (take (suc k) (drop i surface)) = omega (arith, size) in
      goes (take (suc k) (drop i surface)) (drop (suc k) (drop i surface)) w others
      (sym (take-append-drop (suc k) (drop i surface))) some left
      (subst (λ (z : List Symbol). IsSplit lexicon z others) (sym (drop-drop (suc k) i surface))
      (split_of_rest (i + suc k) others rest)) e

  left_at : (i : ℕ) (symbols front back word : List Symbol) (others : List (List Symbol))
      (words : List (List Symbol)) → symbols ≡ drop i surface → symbols ≡ front ++ back →
      0 < length front → 0 < length back → i < length surface →
      IsIn word (left_parts lexicon front) → ((j : ℕ) → j ≡ i + length front → 0 < j →
      j < length surface → back ≡ drop j surface → IsRest j others) → words ≡ word ∷ others →
      IsRest i words
  left_at i symbols [] back word others words at is some full within left go e =
      absurd (omega arith)
  left_at i symbols (x ∷ front) back word others words at is some full within left go e =
      let k : ℕ = length front in
      let whole : drop i surface ≡ (x ∷ front) ++ back = sym at ∙ is in
      let here : take (suc (length front)) (drop i surface) ≡ x ∷ front =
      ap (take (suc (length front))) whole ∙ take_at (x ∷ front) back (suc (length front)) refl in
      let after : drop (i + suc (length front)) surface ≡ back =
      sym (drop-drop (suc (length front)) i surface) ∙ ap (drop (suc (length front))) whole
      ∙ drop_at (x ∷ front) back (suc (length front)) refl in
      let size : length (drop (i + suc (length front)) surface) ≡ length back = ap length after in
      let far : i + suc (length front) < length surface =
      omega (arith, length-drop (i + suc (length front)) surface, size, full) in
      let pos : 0 < i + suc (length front) = omega arith in
      more (length front) word others far
      (subst (λ (z : List Symbol). IsIn word (left_parts lexicon z)) (sym here) left)
      (go (i + suc (length front)) refl pos far (sym after)) e

  pub rest_of_split : (i : ℕ) (symbols : List Symbol) (words : List (List Symbol)) →
      IsSplit lexicon symbols words → symbols ≡ drop i surface → i < length surface →
      (0 < i) ⊎ (1 < length words) → IsRest i words
  rest_of_split i symbols words (ends w some right e) at within behind = elim behind [
    | inl b ↦ last w b within (subst (λ (z : List Symbol). IsIn w (right_parts lexicon z)) at right)
        e
    | inr b ↦ absurd (omega (arith, b, ap length e))
  ]
  rest_of_split i symbols words (goes front back w others is some left s e) at within behind =
      left_at i symbols front back w others words at is some (some_split lexicon back others s)
      within left (λ j from pos far after. rest_of_split j back others s after far (inl pos)) e

  pub rest_some : (i : ℕ) (words : List (List Symbol)) → IsRest i words → 0 < length words
  rest_some i words (last w behind within right e) = omega (arith, ap length e)
  rest_some i words (more k w others within left rest e) = omega (arith, ap length e)

  pub rest_within : (i : ℕ) (words : List (List Symbol)) → IsRest i words → i < length surface
  rest_within i words (last w behind within right e) = within
  rest_within i words (more k w others within left rest e) = omega arith

  -- at the first place there are two parts or more
  pub two_parts : (words : List (List Symbol)) → IsRest 0 words → 1 < length words
  two_parts words (last w behind within right e) = absurd (omega (arith, behind))
  two_parts words (more k w others within left rest e) =
      omega (arith, ap length e, rest_some (0 + suc k) others rest)

  module _ (places : List Place) (explored : IsExplored lexicon surface places) where
    pub at_place : (i : ℕ) → i < length surface → (p : Place) × (slice_get places i ≡ Some p)
    at_place i lt = place_there places i (omega (arith, lt, explored.whole))

    -- a left part that is known is one
    pub left_is : (i k m : ℕ) (p : Place) → slice_get places i ≡ Some p → p.fewest ≡ Some m →
        i + suc k < length surface → (w : List Symbol) →
        IsIn w (words_at p.lefts.items k) ↔ IsLeft i k w
    left_is i k m p at reached within w =
        let size : k < length (drop i surface) = omega (arith, length-drop i surface, within) in
        let e : words_at p.lefts.items k ≡ left_parts lexicon (take (suc k) (drop i surface)) =
        ((explored.each i p at).row m reached).lefts_are k size in (
          λ h. subst (λ (z : List (List Symbol)). IsIn w z) e h,
          λ h. subst (λ (z : List (List Symbol)). IsIn w z) (sym e) h,
        )

    pub right_is : (i m : ℕ) (p : Place) → slice_get places i ≡ Some p → p.fewest ≡ Some m →
        (w : List Symbol) → IsIn w p.rights ↔ IsRight i w
    right_is i m p at reached w =
        let e : p.rights ≡ right_parts lexicon (drop i surface) =
        ((explored.each i p at).row m reached).rights_are in (
          λ h. subst (λ (z : List (List Symbol)). IsIn w z) e h,
          λ h. subst (λ (z : List (List Symbol)). IsIn w z) (sym e) h,
        )

    -- what stands from a place on, and as many left parts as are the fewest before it
    record IsWhole (m : ℕ) (words : List (List Symbol)) : Type 0 where
      pub all : List (List Symbol)
      pub rest : IsRest 0 all
      pub size : length all ≡ m + length words

    whole_below : (bound i m : ℕ) (p : Place) (words : List (List Symbol)) → i < bound →
        slice_get places i ≡ Some p → p.fewest ≡ Some m → IsRest i words → IsWhole m words
    whole_below zero i m p words lt at reached rest = absurd (omega (arith, lt))
    whole_below (suc bound) zero m p words lt at reached rest =
        let none : 0 ≡ m =
        same_Some 0 m (sym ((explored.each 0 p at).begins refl) ∙ reached) in
        record { all = words; rest = rest; size = omega (arith, none) }
    whole_below (suc bound) (suc i) m p words lt at reached rest =
        let found : IsLeast (Arrives places (suc i)) (suc i) p.fewest =
        (explored.each (suc i) p at).fewest (omega arith) in
        let a = found.attained m reached in
        let j : ℕ = a.0 in
        let below : a.0 < suc i = a.1.0 in
        let by : Arrives places (suc i) a.0 m = a.1.1 in
        let k : ℕ = suc i - a.0 - 1 in
        let t : IsThrough (has_words (words_at by.place.lefts.items (suc i - a.0 - 1)))
        by.place.fewest m =
        through_is (has_words (words_at by.place.lefts.items (suc i - a.0 - 1))) by.place.fewest m
        by.is in
        let w = some_word (words_at by.place.lefts.items (suc i - a.0 - 1)) t.there in
        let to : a.0 + suc (suc i - a.0 - 1) ≡ suc i = omega (arith, below) in
        let within : a.0 + suc (suc i - a.0 - 1) < length surface =
        omega (arith, rest_within (suc i) words rest, to) in
        let left : IsLeft a.0 (suc i - a.0 - 1) w.0 =
        (left_is a.0 (suc i - a.0 - 1) t.count by.place by.at t.reached within w.0).0 w.1 in
        let before : IsRest a.0 (w.0 ∷ words) = more (suc i - a.0 - 1) w.0 words within left
        (subst (λ (z : ℕ). IsRest z words) (sym to) rest) refl in
        let r : IsWhole t.count (w.0 ∷ words) =
        whole_below bound a.0 t.count by.place (w.0 ∷ words) (omega (arith, below, lt)) by.at
        t.reached before in
        record { all = r.all; rest = r.rest; size = omega (arith, r.size, t.more) }

    whole_of : (i m : ℕ) (p : Place) (words : List (List Symbol)) → slice_get places i ≡ Some p →
        p.fewest ≡ Some m → IsRest i words → IsWhole m words
    whole_of i m p words at reached rest =
        whole_below (suc i) i m p words (omega arith) at reached rest

    -- one left part more leads at most that far
    pub steps_to : (i k m : ℕ) (p q : Place) (w : List Symbol) → slice_get places i ≡ Some p →
        p.fewest ≡ Some m → i + suc k < length surface → IsLeft i k w →
        slice_get places (i + suc k) ≡ Some q → IsNoMore q.fewest (suc m)
    steps_to i k m p q w at reached within left there =
        let found : IsLeast (Arrives places (i + suc k)) (i + suc k) q.fewest =
        (explored.each (i + suc k) q there).fewest (omega arith) in
        let back : i + suc k - i - 1 ≡ k = omega arith in
        let some : has_words (words_at p.lefts.items k) ≡ true =
        word_some w (words_at p.lefts.items k) ((left_is i k m p at reached within w).1 left) in
        let step : arriving p (i + suc k - i - 1) ≡ Some (suc m) =
        ap (arriving p) back
        ∙ through_of (has_words (words_at p.lefts.items k)) p.fewest m reached some in
        found.least i (suc m) (omega arith) (record { place = p; at = at; is = step })

    module _ (found : Option ℕ) (least : IsLeast (Completes places) (length places) found) where
      -- no way to the end has fewer parts
      pub no_fewer : (i m : ℕ) (p : Place) (words : List (List Symbol)) →
          slice_get places i ≡ Some p → p.fewest ≡ Some m → IsRest i words →
          IsNoMore found (m + length words)
      no_fewer i m p words at reached (last w behind within right e) =
          let some : has_words p.rights ≡ true =
          word_some w p.rights ((right_is i m p at reached w).1 right) in
          let r : IsNoMore found (suc m) = least.least i (suc m) (place_within places i p at)
          (record {
            place = p;
            behind = behind;
            at = at;
            is = through_of (has_words p.rights) p.fewest m reached some;
          }) in
          let le : r.0 ≤ suc m = r.1.1 in
          (r.0, (r.1.0, omega (arith, le, ap length e)))
      no_fewer i m p words at reached (more k w others within left rest e) =
          let q = at_place (i + suc k) within in
          let s : IsNoMore q.0.fewest (suc m) =
          steps_to i k m p q.0 w at reached within left q.1 in
          let low : s.0 ≤ suc m = s.1.1 in
          let r : IsNoMore found (s.0 + length others) =
          no_fewer (i + suc k) s.0 q.0 others q.1 s.1.0 rest in
          let le : r.0 ≤ s.0 + length others = r.1.1 in
          (r.0, (r.1.0, omega (arith, le, low, ap length e)))

      -- and one has as many
      pub attained : (total : ℕ) → found ≡ Some total →
          (words : List (List Symbol)) × (IsRest 0 words × (length words ≡ total))
      attained total is =
          let a = least.attained total is in
          let by : Completes places a.0 total = a.1.1 in
          let t : IsThrough (has_words by.place.rights) by.place.fewest total =
          through_is (has_words by.place.rights) by.place.fewest total by.is in
          let w = some_word by.place.rights t.there in
          let below : a.0 < length places = a.1.0 in
          let within : a.0 < length surface = omega (arith, below, explored.whole) in
          let rest : IsRest a.0 (w.0 ∷ []) = last w.0 by.behind within
          ((right_is a.0 t.count by.place by.at t.reached w.0).0 w.1) refl in
          let r : IsWhole t.count (w.0 ∷ []) =
          whole_of a.0 t.count by.place (w.0 ∷ []) by.at t.reached rest in
          (r.all, (r.rest, omega (arith, r.size, t.more)))
