-- The splits of symbols as a relation, and that all of them are listed.
use Rattle.std.proofs.Common.{◌≡◌, inl, inr, ◌<◌, List, [], ◌∷◌, ◌++◌, length, refl, sym, ap, subst, ◌∙◌, append_assoc, arith}
use Rattle.std.specs.List.{flat_map}
use Rattle.std.proofs.lemmas.List.{append-nil, length-append}
use Rattle.ap_symbol.specs.Lists.{IsIn}
use Rattle.ap_symbol.specs.declared.symbol.Symbol.{Symbol}
use Rattle.ap_fst.proofs.Listing.{in_front, in_back, in_either, in_map, in_mapped, IsImage}
use Rattle.ap_live.specs.Lexicon.{Lexicon}
use Rattle.ap_compound.specs.Splits.{left_parts, right_parts, one_part, behind_part, splits}

-- what a flattened list holds comes from one of the list
pub record IsFlat {X Y : Type 0} (f : X → List Y) (y : Y) (xs : List X) : Type 0 where
  pub source : X
  pub listed : IsIn source xs
  pub there : IsIn y (f source)

pub in_flat : {X Y : Type 0} (f : X → List Y) (x : X) (y : Y) (xs : List X) → IsIn x xs →
    IsIn y (f x) → IsIn y (flat_map f xs)
in_flat f x y [] i h = absurd i
in_flat {X} {Y} f x y (z ∷ xs) (inl e) h = in_front y (f z) (flat_map f xs)
    (subst (λ (w : X). IsIn y (f w)) e h)
in_flat f x y (z ∷ xs) (inr i) h = in_back y (f z) (flat_map f xs) (in_flat f x y xs i h)

pub flat_in : {X Y : Type 0} (f : X → List Y) (y : Y) (xs : List X) → IsIn y (flat_map f xs) →
    IsFlat f y xs
flat_in f y [] i = absurd i
flat_in f y (z ∷ xs) i = elim (in_either y (f z) (flat_map f xs) i) [
  | inl h ↦ record { source = z; listed = inl refl; there = h }
  | inr h ↦ let r = flat_in f y xs h in
      record { source = r.source; listed = inr r.listed; there = r.there }
]

-- The symbols are a right part, or a left part and a split of the symbols behind it. These are the
-- words of the parts.
pub data IsSplit (lexicon : Lexicon) : List Symbol → List (List Symbol) → Type 0 where
  ends : {symbols : List Symbol} {words : List (List Symbol)} (word : List Symbol) →
      0 < length symbols → IsIn word (right_parts lexicon symbols) → words ≡ word ∷ [] →
      IsSplit lexicon symbols words
  goes : {symbols : List Symbol} {words : List (List Symbol)} (front back : List Symbol)
      (word : List Symbol) (more : List (List Symbol)) → symbols ≡ front ++ back →
      0 < length front → IsIn word (left_parts lexicon front) → IsSplit lexicon back more →
      words ≡ word ∷ more → IsSplit lexicon symbols words

module _ (lexicon : Lexicon) where
  -- each that is listed is one
  pub listed_is : (begun rest : List Symbol) (words : List (List Symbol)) → 0 < length begun →
      IsIn words (splits lexicon begun rest) → IsSplit lexicon (begun ++ rest) words
  unfolding splits
  listed_is begun [] words some i =
      let m : IsImage one_part words (right_parts lexicon begun) =
      in_mapped one_part words (right_parts lexicon begun) i in
      subst (λ (z : List Symbol). IsSplit lexicon z words) (sym (append-nil begun))
      (ends m.source some m.listed m.image)
  listed_is begun (x ∷ rest) words some i =
      elim (in_either words (splits lexicon (begun ++ x ∷ []) rest)
      (flat_map (behind_part (splits lexicon (x ∷ []) rest)) (left_parts lexicon begun)) i) [
        | inl h ↦
            let longer : 0 < length (begun ++ x ∷ []) =
            omega (arith, length-append begun (x ∷ []), some) in
            subst (λ (z : List Symbol). IsSplit lexicon z words)
            (append_assoc begun (x ∷ []) rest)
            (listed_is (begun ++ x ∷ []) rest words longer h)
        | inr h ↦
            let f : IsFlat (behind_part (splits lexicon (x ∷ []) rest)) words
            (left_parts lexicon begun) =
            flat_in (behind_part (splits lexicon (x ∷ []) rest)) words (left_parts lexicon begun) h
            in
            let m : IsImage (λ words. f.source ∷ words) words (splits lexicon (x ∷ []) rest) =
            in_mapped (λ words. f.source ∷ words) words (splits lexicon (x ∷ []) rest) f.there in
            let one : 0 < length (x ∷ []) = omega arith in
            goes begun (x ∷ rest) f.source m.source refl some f.listed
            (listed_is (x ∷ []) rest m.source one m.listed) m.image
      ]

  -- a right part
  last_listed : (begun rest word : List Symbol) → IsIn word (right_parts lexicon (begun ++ rest)) →
      IsIn (word ∷ []) (splits lexicon begun rest)
  unfolding splits
  last_listed begun [] word i =
      in_map one_part word (right_parts lexicon begun)
      (subst (λ (z : List Symbol). IsIn word (right_parts lexicon z)) (append-nil begun) i)
  last_listed begun (x ∷ rest) word i =
      in_front (word ∷ []) (splits lexicon (begun ++ x ∷ []) rest)
      (flat_map (behind_part (splits lexicon (x ∷ []) rest)) (left_parts lexicon begun))
      (last_listed (begun ++ x ∷ []) rest word
      (subst (λ (z : List Symbol). IsIn word (right_parts lexicon z))
      (sym (append_assoc begun (x ∷ []) rest)) i))

  -- a left part, and others behind it
  more_listed : (begun middle : List Symbol) (y : Symbol) (tail word : List Symbol)
      (more : List (List Symbol)) → IsIn word (left_parts lexicon (begun ++ middle)) →
      IsIn more (splits lexicon (y ∷ []) tail) →
      IsIn (word ∷ more) (splits lexicon begun (middle ++ y ∷ tail))
  unfolding splits
  more_listed begun [] y tail word more i h =
      in_back (word ∷ more) (splits lexicon (begun ++ y ∷ []) tail)
      (flat_map (behind_part (splits lexicon (y ∷ []) tail)) (left_parts lexicon begun))
      (in_flat (behind_part (splits lexicon (y ∷ []) tail)) word (word ∷ more)
      (left_parts lexicon begun)
      (subst (λ (z : List Symbol). IsIn word (left_parts lexicon z)) (append-nil begun) i)
      (in_map (λ words. word ∷ words) more (splits lexicon (y ∷ []) tail) h))
  more_listed begun (x ∷ middle) y tail word more i h =
      in_front (word ∷ more) (splits lexicon (begun ++ x ∷ []) (middle ++ y ∷ tail))
      (flat_map (behind_part (splits lexicon (x ∷ []) (middle ++ y ∷ tail)))
      (left_parts lexicon begun))
      (more_listed (begun ++ x ∷ []) middle y tail word more
      (subst (λ (z : List Symbol). IsIn word (left_parts lexicon z))
      (sym (append_assoc begun (x ∷ []) middle)) i) h)

  -- what is split isn't empty
  pub some_split : (symbols : List Symbol) (words : List (List Symbol)) →
      IsSplit lexicon symbols words → 0 < length symbols
  some_split symbols words (ends word some i e) = some
  some_split symbols words (goes front back word more is some i s e) =
      omega (arith, some, ap length is, length-append front back)

  at_front : (x : Symbol) (rest front back : List Symbol) (word : List Symbol)
      (more : List (List Symbol)) → x ∷ rest ≡ front ++ back → 0 < length front →
      IsIn word (left_parts lexicon front) → 0 < length back →
      ((y : Symbol) (tail : List Symbol) → back ≡ y ∷ tail →
      IsIn more (splits lexicon (y ∷ []) tail)) →
      IsIn (word ∷ more) (splits lexicon (x ∷ []) rest)
  at_front x rest [] back word more is some i full go = absurd (omega arith)
  at_front x rest (z ∷ front) [] word more is some i full go = absurd (omega arith)
  at_front x rest (z ∷ front) (y ∷ tail) word more is some i full go =
      let first : x ≡ z = cc in
      let others : rest ≡ front ++ y ∷ tail = cc in
      subst (λ (r : List Symbol). IsIn (word ∷ more) (splits lexicon (x ∷ []) r)) (sym others)
      (more_listed (x ∷ []) front y tail word more
      (subst (λ (w : Symbol). IsIn word (left_parts lexicon (w ∷ front))) (sym first) i)
      (go y tail refl))

  -- each is listed
  pub split_listed : (symbols : List Symbol) (words : List (List Symbol)) →
      IsSplit lexicon symbols words → (x : Symbol) (rest : List Symbol) → symbols ≡ x ∷ rest →
      IsIn words (splits lexicon (x ∷ []) rest)
  split_listed symbols words (ends word some i e) x rest is =
      subst (λ (z : List (List Symbol)). IsIn z (splits lexicon (x ∷ []) rest)) (sym e)
      (last_listed (x ∷ []) rest word
      (subst (λ (z : List Symbol). IsIn word (right_parts lexicon z)) is i))
  split_listed symbols words (goes front back word more whole some i s e) x rest is =
      subst (λ (z : List (List Symbol)). IsIn z (splits lexicon (x ∷ []) rest)) (sym e)
      (at_front x rest front back word more (sym is ∙ whole) some i (some_split back more s)
      (λ y tail f. split_listed back more s y tail f))
