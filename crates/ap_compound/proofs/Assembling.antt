-- The words that are listed of the first place are those of the splits with the fewest parts.
use Rattle.std.proofs.Common.{◌≡◌, inl, inr, ℕ, ◌+◌, ◌<◌, ◌≤◌, Bool, true, false, List, [], ◌∷◌, map, length, Option, Some, None, refl, sym, ap, subst, ◌∙◌, arith}
use Rattle.std.specs.Prelude.{◌↔◌, nat_lt, nat_le, ◌&&◌, if◌then◌else◌}
use Rattle.std.specs.List.{list_all}
use Rattle.std.proofs.lemmas.Bool.Decides.{nat_tests}
use Rattle.std.proofs.lemmas.Map.Lookups.{exact_bytes}
use Rattle.std.proofs.lemmas.Option.{none-some, same_Some}
use Rattle.ap_symbol.specs.Lists.{IsIn}
use Rattle.ap_symbol.specs.Rendering.{rendering}
use Rattle.ap_symbol.specs.Words.{AreProper}
use Rattle.ap_symbol.specs.declared.symbol.Symbol.{Symbol}
use Rattle.ap_fst.proofs.Listing.{in_map, in_mapped, IsImage, in_filter, filter_in, IsKept}
use Rattle.ap_live.specs.Found.{in_order}
use Rattle.ap_live.specs.Lexicon.{Lexicon}
use Rattle.ap_live.specs.Readings.{carried}
use Rattle.ap_live.proofs.WordOrder.{AreExact, in_order_sound, in_order_there, in_order_sorted, sorted_same}
use Rattle.ap_compound.specs.Places.{IsLeast, Completes, IsExplored, AreListed, first_words, IsListing}
use Rattle.ap_compound.specs.Splits.{splits, are_several, compounds, fewest, joined_word, may_split, compound_readings}
use Rattle.ap_compound.specs.declared.listing.Listed.{Listed}
use Rattle.ap_compound.specs.declared.place.Place.{Place}
use Rattle.ap_compound.proofs.Least.{IsNoMore}
use Rattle.ap_compound.proofs.Splitting.{listed_is, split_listed}
use Rattle.ap_compound.proofs.Walking.{IsRest, split_of_rest, rest_of_split, rest_within, two_parts, at_place, no_fewer, attained}
use Rattle.ap_compound.proofs.ListedWords.{IsRested, first_rests}

and_first : (a b : Bool) → (a && b) ≡ true → a ≡ true
and_first true b e = refl
and_first false b e = cc

and_second : (a b : Bool) → (a && b) ≡ true → b ≡ true
and_second true b e = e
and_second false b e = cc

and_both : (a b : Bool) → a ≡ true → b ≡ true → (a && b) ≡ true
and_both true b e f = f
and_both false b e f = cc

all_pass : {X : Type 0} (p : X → Bool) (x : X) (xs : List X) → list_all p xs ≡ true → IsIn x xs →
    p x ≡ true
all_pass p x [] h i = absurd i
all_pass p x (y ∷ xs) h (inl e) = ap p e ∙ and_first (p y) (list_all p xs) h
all_pass p x (y ∷ xs) h (inr i) = all_pass p x xs (and_second (p y) (list_all p xs) h) i

pass_all : {X : Type 0} (p : X → Bool) (xs : List X) → ((x : X) → IsIn x xs → p x ≡ true) →
    list_all p xs ≡ true
pass_all p [] h = refl
pass_all p (y ∷ xs) h = and_both (p y) (list_all p xs) (h y (inl refl))
    (pass_all p xs (λ x i. h x (inr i)))

no_more_true : (m n : ℕ) → m ≤ n → nat_le m n ≡ true
no_more_true m n h = grind (arith, nat_tests)

true_no_more : (m n : ℕ) → nat_le m n ≡ true → m ≤ n
true_no_more m n h = grind (arith, nat_tests)

several_true : (n : ℕ) → 1 < n → nat_lt 1 n ≡ true
several_true n h = grind (arith, nat_tests)

true_several : (n : ℕ) → nat_lt 1 n ≡ true → 1 < n
true_several n h = grind (arith, nat_tests)

module _ (lexicon : Lexicon) where
  compound_is : (surface : List Symbol) (words : List (List Symbol)) →
      IsIn words (compounds lexicon surface) → IsRest lexicon surface 0 words
  compound_is [] words i = absurd i
  compound_is (x ∷ rest) words i =
      let k : IsKept are_several words (splits lexicon (x ∷ []) rest) =
      filter_in are_several words (splits lexicon (x ∷ []) rest) i in
      let one : 0 < length (x ∷ []) = omega arith in
      let some : 0 < length (x ∷ rest) = omega arith in
      rest_of_split lexicon (x ∷ rest) 0 (x ∷ rest) words
      (listed_is lexicon (x ∷ []) rest words one k.listed) refl some
      (inr (true_several (length words) k.passes))

  compound_of : (surface : List Symbol) (words : List (List Symbol)) →
      IsRest lexicon surface 0 words → IsIn words (compounds lexicon surface)
  compound_of [] words r =
      let none : List Symbol = [] in
      let within : 0 < length none = rest_within lexicon [] 0 words r in
      absurd (omega arith)
  compound_of (x ∷ rest) words r =
      in_filter are_several words (splits lexicon (x ∷ []) rest)
      (split_listed lexicon (x ∷ rest) words (split_of_rest lexicon (x ∷ rest) 0 words r) x rest refl)
      (several_true (length words) (two_parts lexicon (x ∷ rest) words r))

  -- a split with the fewest parts
  pub record IsFewest (surface : List Symbol) (words : List (List Symbol)) : Type 0 where
    pub rest : IsRest lexicon surface 0 words
    pub least : (others : List (List Symbol)) → IsRest lexicon surface 0 others →
        length words ≤ length others

  pub fewest_is : (surface : List Symbol) (words : List (List Symbol)) →
      IsIn words (fewest (compounds lexicon surface)) → IsFewest surface words
  fewest_is surface words i =
      let all : List (List (List Symbol)) = compounds lexicon surface in
      let k : IsKept (λ words. list_all (λ other. nat_le (length words) (length other)) (compounds lexicon surface)) words (compounds lexicon surface) =
      filter_in (λ words. list_all (λ other. nat_le (length words) (length other)) (compounds lexicon surface)) words (compounds lexicon surface) i in
      record {
        rest = compound_is surface words k.listed;
        least = λ others r. true_no_more (length words) (length others)
            (all_pass (λ other. nat_le (length words) (length other)) others
            (compounds lexicon surface) k.passes (compound_of surface others r));
      }

  pub fewest_of : (surface : List Symbol) (words : List (List Symbol)) → IsFewest surface words →
      IsIn words (fewest (compounds lexicon surface))
  fewest_of surface words f =
      in_filter (λ words. list_all (λ other. nat_le (length words) (length other)) (compounds lexicon surface)) words (compounds lexicon surface)
      (compound_of surface words f.rest)
      (pass_all (λ other. nat_le (length words) (length other)) (compounds lexicon surface)
      (λ other i. no_more_true (length words) (length other)
      (f.least other (compound_is surface other i))))

  module _ (surface : List Symbol) (places : List Place)
      (explored : IsExplored lexicon surface places) where
    first_place : (words : List (List Symbol)) → IsRest lexicon surface 0 words →
        (found : Option ℕ) → IsLeast (Completes places) (length places) found →
        IsNoMore found (length words)
    first_place words r found least =
        let p = at_place lexicon surface places explored 0
        (rest_within lexicon surface 0 words r) in
        let n : IsNoMore found (0 + length words) =
        no_fewer lexicon surface places explored found least 0 0 p.0 words p.1
        ((explored.each 0 p.0 p.1).begins refl) r in
        let le : n.0 ≤ 0 + length words = n.1.1 in
        (n.0, (n.1.0, omega arith))

    rested_fewest : (found : Option ℕ) (least : IsLeast (Completes places) (length places) found)
        (total : ℕ) (is : found ≡ Some total) (w : List Symbol) →
        IsRested lexicon surface places explored found least total is 0 (Some 0) w →
        IsIn w (map joined_word (fewest (compounds lexicon surface)))
    rested_fewest found least total is w r =
        let none : 0 ≡ r.count = same_Some 0 r.count r.reached in
        let size : length r.words ≡ total = omega (arith, none, r.size) in
        subst (λ (z : List Symbol). IsIn z (map joined_word (fewest (compounds lexicon surface))))
        (sym r.word)
        (in_map joined_word r.words (fewest (compounds lexicon surface))
        (fewest_of surface r.words (record {
          rest = r.rest;
          least = λ others o.
              let n : IsNoMore found (length others) = first_place others o found least in
              let le : n.0 ≤ length others = n.1.1 in
              let same : n.0 ≡ total = same_Some n.0 total (sym n.1.0 ∙ is) in
              omega (arith, le, same, size);
        })))

    fewest_rested : (found : Option ℕ) (least : IsLeast (Completes places) (length places) found)
        (total : ℕ) (is : found ≡ Some total) (w : List Symbol) →
        IsIn w (map joined_word (fewest (compounds lexicon surface))) →
        IsRested lexicon surface places explored found least total is 0 (Some 0) w
    fewest_rested found least total is w i =
        let m : IsImage joined_word w (fewest (compounds lexicon surface)) =
        in_mapped joined_word w (fewest (compounds lexicon surface)) i in
        let f : IsFewest surface m.source = fewest_is surface m.source m.listed in
        let n : IsNoMore found (length m.source) = first_place m.source f.rest found least in
        let le : n.0 ≤ length m.source = n.1.1 in
        let same : n.0 ≡ total = same_Some n.0 total (sym n.1.0 ∙ is) in
        let a = attained lexicon surface places explored found least total is in
        let low : length m.source ≤ length a.0 = f.least a.0 a.1.0 in
        let exact : length a.0 ≡ total = a.1.1 in
        record {
          count = 0;
          words = m.source;
          reached = refl;
          rest = f.rest;
          size = omega (arith, le, same, low, exact);
          word = m.image;
        }

    words_by : (found : Option ℕ) (words : List (List Symbol))
        (least : IsLeast (Completes places) (length places) found) → (found ≡ None → words ≡ [])
        → ((total : ℕ) → found ≡ Some total → (lists : List Listed)
        × (AreListed total 0 places lists × (words ≡ first_words lists))) → (w : List Symbol) →
        IsIn w words ↔ IsIn w (map joined_word (fewest (compounds lexicon surface)))
    words_by None words least none some w = (
      λ i. absurd (subst (λ (z : List (List Symbol)). IsIn w z) (none refl) i),
      λ i.
          let m : IsImage joined_word w (fewest (compounds lexicon surface)) =
          in_mapped joined_word w (fewest (compounds lexicon surface)) i in
          let f : IsFewest surface m.source = fewest_is surface m.source m.listed in
          let n : IsNoMore None (length m.source) = first_place m.source f.rest None least in
          absurd (none-some n.0 n.1.0),
    )
    words_by (Some total) words least none some w =
        let a = attained lexicon surface places explored (Some total) least total refl in
        let full : 0 < length surface = rest_within lexicon surface 0 a.0 a.1.0 in
        let l = some total refl in
        let r = first_rests lexicon surface places explored (Some total) least total refl l.0 l.1.0
        full w in (
          λ i. rested_fewest (Some total) least total refl w
              (r.0 (subst (λ (z : List (List Symbol)). IsIn w z) l.1.1 i)),
          λ i. subst (λ (z : List (List Symbol)). IsIn w z) (sym l.1.1)
              (r.1 (fewest_rested (Some total) least total refl w i)),
        )

    pub listing_is : (words : List (List Symbol)) → IsListing places words → (w : List Symbol) →
        IsIn w words ↔ IsIn w (map joined_word (fewest (compounds lexicon surface)))
    listing_is words l w = words_by l.found words l.least l.none l.some w

-- words with the same members stand in the same order
in_order_same : (xs ys : List (List Symbol)) → AreExact xs →
    ((w : List Symbol) → IsIn w xs → IsIn w ys) → ((w : List Symbol) → IsIn w ys → IsIn w xs) →
    in_order xs ≡ in_order ys
in_order_same xs ys exact to from =
    sorted_same (in_order xs) (in_order ys) (in_order_sorted xs) (in_order_sorted ys)
    (λ w i. in_order_there ys w (λ u v a b e. exact u v (from u a) (from v b) e)
    (to w (in_order_sound xs w i)))
    (λ w i. in_order_there xs w exact (from w (in_order_sound ys w i)))

mapped_in : (f : List Symbol → List Symbol) (xs ys : List (List Symbol)) →
    ((w : List Symbol) → IsIn w xs → IsIn w ys) → (w : List Symbol) → IsIn w (map f xs) →
    IsIn w (map f ys)
mapped_in f xs ys to w i =
    let m : IsImage f w xs = in_mapped f w xs i in
    subst (λ (z : List Symbol). IsIn z (map f ys)) (sym m.image)
    (in_map f m.source ys (to m.source m.listed))

pub readings_are : (lexicon : Lexicon) (sensitive : Bool) (surface : List Symbol)
    (places : List Place) (words made : List (List Symbol)) → IsExplored lexicon surface places →
    IsListing places words → ((a b : List Symbol) → AreProper a → AreProper b →
    rendering a ≡ rendering b → a ≡ b) →
    ((w : List Symbol) → IsIn w (map (carried sensitive surface) words) → AreProper w) →
    made ≡ in_order (map (carried sensitive surface) words) → may_split surface ≡ true →
    made ≡ compound_readings lexicon sensitive surface
unfolding compound_readings
readings_are lexicon sensitive surface places words made explored listing law proper is may =
    let f : List Symbol → List Symbol = carried sensitive surface in
    let others : List (List Symbol) = map joined_word (fewest (compounds lexicon surface)) in
    let same = listing_is lexicon surface places explored words listing in
    is
    ∙ in_order_same (map (carried sensitive surface) words)
    (map (carried sensitive surface) (map joined_word (fewest (compounds lexicon surface))))
    (λ v w i j e. law v w (proper v i) (proper w j) (exact_bytes _ _ e))
    (mapped_in (carried sensitive surface) words
    (map joined_word (fewest (compounds lexicon surface))) (λ w i. (same w).0 i))
    (mapped_in (carried sensitive surface) (map joined_word (fewest (compounds lexicon surface)))
    words (λ w i. (same w).1 i))
    ∙ ap (λ (b : Bool). if b then in_order (map (carried sensitive surface)
    (map joined_word (fewest (compounds lexicon surface)))) else []) (sym may)

-- the same for lists that are read of what is held
pub readings_of : (lexicon : Lexicon) (sensitive : Bool) (surface : List Symbol)
    (held places : List Place) (listed words made : List (List Symbol)) →
    IsExplored lexicon surface held → places ≡ held → IsListing places listed → words ≡ listed →
    ((a b : List Symbol) → AreProper a → AreProper b → rendering a ≡ rendering b → a ≡ b) →
    ((w : List Symbol) → IsIn w (map (carried sensitive surface) words) → AreProper w) →
    made ≡ in_order (map (carried sensitive surface) words) → may_split surface ≡ true →
    made ≡ compound_readings lexicon sensitive surface
readings_of lexicon sensitive surface held places listed words made explored p listing l law proper
    is may =
    readings_are lexicon sensitive surface places words made
    (subst (IsExplored lexicon surface) (sym p) explored)
    (subst (IsListing places) (sym l) listing) law proper is may

pub no_readings : (lexicon : Lexicon) (sensitive : Bool) (surface : List Symbol) →
    may_split surface ≡ false → [] ≡ compound_readings lexicon sensitive surface
unfolding compound_readings
no_readings lexicon sensitive surface may =
    ap (λ (b : Bool). if b then in_order (map (carried sensitive surface)
    (map joined_word (fewest (compounds lexicon surface)))) else []) (sym may)
