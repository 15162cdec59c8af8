-- The first of the right words of any kind is the first of some that hold the least of each kind.
use Rattle.std.proofs.Common.{◌≡◌, ◌≢◌, ◌⊎◌, inl, inr, List, [], ◌∷◌, ◌++◌, Some, refl, sym, ◌∙◌, ap, subst, map, slice_get}
use Rattle.std.specs.List.Sorted.{IsStrictlySortedBy}
use Rattle.std.specs.Ordering.{ordering_reverse}
use Rattle.std.specs.declared.cmp.Ordering.TheVariants.{Less, Greater}
use Rattle.ap_symbol.specs.Recasing.{carry_lem}
use Rattle.ap_symbol.specs.Rendering.{word_cmp}
use Rattle.ap_symbol.specs.Words.{AreProper}
use Rattle.ap_symbol.specs.declared.recasing.Case.{Case}
use Rattle.ap_symbol.specs.declared.symbol.Symbol.{Symbol}
use Rattle.ap_fst.specs.Lists.{IsIn}
use Rattle.ap_fst.specs.Machines.{Machine}
use Rattle.ap_fst.specs.Sections.{Parts, IsCompiled, section_of}
use Rattle.ap_fst.specs.declared.compiled.Kind2.{Kind2}
use Rattle.ap_fst.proofs.Listing.{IsImage, in_back, in_either, in_front, in_map, in_mapped}
use Rattle.ap_live.specs.Fitting.{Input}
use Rattle.ap_live.specs.Found.{in_order, outputs}
use Rattle.ap_live.specs.Least.{AddsLeast, HoldLeast, HoldsFirst, HoldsLeast, IsAtOrBefore, IsMet}
use Rattle.ap_live.specs.SectionLives.{IsSectionLive}
use Rattle.ap_live.specs.declared.section_live.SectionLive.{SectionLive}
use Rattle.ap_live.proofs.Coherence.{section_is, sections_proper}
use Rattle.ap_live.proofs.Fewer.{in_order_of}
use Rattle.ap_live.proofs.Finding.{OneRendering, found_is_output, outputs_found}
use Rattle.ap_live.proofs.LeastOrder.{no_later_trans}
use Rattle.ap_live.proofs.WordLaws.{word_total}
use Rattle.ap_live.proofs.WordOrder.{all_in, in_order_sorted, in_order_sound}

-- of a section of a compiled dictionary
pub least_found : (p : Parts) (kind : Kind2) (fst : Machine) → fst ≡ section_of p kind →
    IsCompiled p → OneRendering → (case : Case) (seen : List Input) (live : SectionLive)
    (words : List (List Symbol)) → IsSectionLive (section_of p kind) seen live
    → ((seen : List Input) → IsSectionLive fst seen live → HoldLeast fst case seen words) →
    HoldsLeast case (outputs (section_of p kind) seen) words
least_found p kind fst e compiled law case seen live words is found =
    let m : Machine = section_of p kind in
    let section = section_is p kind compiled in
    let holds : HoldLeast m case seen words =
    subst (λ (z : Machine). HoldLeast z case seen words) e
    (found seen (subst (λ (z : Machine). IsSectionLive z seen live) (sym e) is)) in
    record {
      sound = λ w i. (outputs_found law m seen w section.sound section.cycles
          (sections_proper p compiled kind)).1 (holds.sound w i);
      least = λ w i. holds.least w (found_is_output m seen w i);
    }

-- ---- of the four kinds

-- words with the case, in these words with the case
in_words : (case : Case) (words all some : List (List Symbol)) → HoldsLeast case words some →
    ((v : List Symbol) → IsIn v words → IsIn v all) → (w : List Symbol) →
    IsIn w (map (carry_lem case) some) → IsIn w (map (carry_lem case) all)
in_words case words all some h within w i =
    let m : IsImage (carry_lem case) w some = in_mapped (carry_lem case) w some i in
    subst (λ (z : List Symbol). IsIn z (map (carry_lem case) all)) (sym m.image)
    (in_map (carry_lem case) m.source all (within m.source (h.sound m.source m.listed)))

-- one of the added words stands before each of these, or is it
met_words : (case : Case) (words some whole : List (List Symbol)) (w : List Symbol) →
    HoldsLeast case words some → ((v : List Symbol) → IsIn v (map (carry_lem case) some) →
    IsIn v whole) → IsIn w words → IsAtOrBefore whole (carry_lem case w)
met_words case words some whole w h within i =
    let m : IsMet case some w = h.least w i in
    record {
      word = carry_lem case m.word;
      listed = within (carry_lem case m.word) (in_map (carry_lem case) m.word some m.listed);
      order = m.earlier.order;
    }

-- what is added is there, and what was there stays
added_in : (case : Case) (words old new : List (List Symbol)) → (h : AddsLeast case words old new) →
    (v : List Symbol) → IsIn v (map (carry_lem case) h.some) → IsIn v new
added_in case words old new h v i = subst (λ (z : List (List Symbol)). IsIn v z) (sym h.added)
    (in_back v old (map (carry_lem case) h.some) i)

old_in : (case : Case) (words old new : List (List Symbol)) → AddsLeast case words old new →
    (v : List Symbol) → IsIn v old → IsIn v new
old_in case words old new h v i = subst (λ (z : List (List Symbol)). IsIn v z) (sym h.added)
    (in_front v old (map (carry_lem case) h.some) i)

from_new : (case : Case) (words old new : List (List Symbol)) → (h : AddsLeast case words old new) →
    (v : List Symbol) → IsIn v new → IsIn v old ⊎ IsIn v (map (carry_lem case) h.some)
from_new case words old new h v i = in_either v old (map (carry_lem case) h.some)
    (subst (λ (z : List (List Symbol)). IsIn v z) h.added i)

pub first_four : (case : Case) (a b c d : List (List Symbol))
    (none one two three four : List (List Symbol)) → none ≡ [] → AddsLeast case a none one →
    AddsLeast case b one two → AddsLeast case c two three → AddsLeast case d three four →
    HoldsFirst (map (carry_lem case) (a ++ (b ++ (c ++ d)))) four
first_four case a b c d none one two three four n o t h e =
    let whole : List (List Symbol) = a ++ (b ++ (c ++ d)) in
    let b_in : (v : List Symbol) → IsIn v b → IsIn v whole =
    λ v i. in_back v a (b ++ (c ++ d)) (in_front v b (c ++ d) i) in
    let c_in : (v : List Symbol) → IsIn v c → IsIn v whole =
    λ v i. in_back v a (b ++ (c ++ d)) (in_back v b (c ++ d) (in_front v c d i)) in
    let d_in : (v : List Symbol) → IsIn v d → IsIn v whole =
    λ v i. in_back v a (b ++ (c ++ d)) (in_back v b (c ++ d) (in_back v c d i)) in
    let from_three : (v : List Symbol) → IsIn v three → IsIn v four = old_in case d three four e in
    let from_two : (v : List Symbol) → IsIn v two → IsIn v four =
    λ v i. from_three v (old_in case c two three h v i) in
    let from_one : (v : List Symbol) → IsIn v one → IsIn v four =
    λ v i. from_two v (old_in case b one two t v i) in
    record {
      sound = λ w i. elim (from_new case d three four e w i) [
        | inr k ↦ in_words case d whole e.some e.holds d_in w k
        | inl k ↦ elim (from_new case c two three h w k) [
          | inr j ↦ in_words case c whole h.some h.holds c_in w j
          | inl j ↦ elim (from_new case b one two t w j) [
            | inr q ↦ in_words case b whole t.some t.holds b_in w q
            | inl q ↦ elim (from_new case a none one o w q) [
              | inr p ↦ in_words case a whole o.some o.holds
                  (λ v u. in_front v a (b ++ (c ++ d)) u) w p
              | inl p ↦ elim (subst (λ z. IsIn w z) n p) [ ]
            ]
          ]
        ]
      ];
      first = λ w i.
          let m : IsImage (carry_lem case) w whole = in_mapped (carry_lem case) w whole i in
          subst (λ (z : List Symbol). IsAtOrBefore four z) (sym m.image)
          (elim (in_either m.source a (b ++ (c ++ d)) m.listed) [
            | inl k ↦ met_words case a o.some four m.source o.holds
                (λ v u. from_one v (added_in case a none one o v u)) k
            | inr k ↦ elim (in_either m.source b (c ++ d) k) [
              | inl j ↦ met_words case b t.some four m.source t.holds
                  (λ v u. from_two v (added_in case b one two t v u)) j
              | inr j ↦ elim (in_either m.source c d j) [
                | inl q ↦ met_words case c h.some four m.source h.holds
                    (λ v u. from_three v (added_in case c two three h v u)) q
                | inr q ↦ met_words case d e.some four m.source e.holds
                    (added_in case d three four e) q
              ]
            ]
          ]);
    }

-- ---- the first in order

less_back : (a b : List Symbol) → word_cmp a b ≡ Less → word_cmp b a ≡ Greater
less_back a b l = word_total.antisymm b a ∙ ap ordering_reverse l

same_first : (x y : List Symbol) (xs ys : List (List Symbol)) → IsStrictlySortedBy word_cmp (x ∷ xs)
    → IsStrictlySortedBy word_cmp (y ∷ ys) → IsIn x (y ∷ ys) → (u : List Symbol) →
    IsIn u (x ∷ xs) → word_cmp u y ≢ Greater → x ≡ y
unfolding IsStrictlySortedBy
same_first x y xs ys s t (inl e) u k order = e
same_first x y xs ys s t (inr i) u (inl e) order =
    let l : word_cmp y x ≡ Less = all_in (λ v. word_cmp y v ≡ Less) ys x t.0 i in
    absurd (order (ap (λ (z : List Symbol). word_cmp z y) e ∙ less_back y x l))
same_first x y xs ys s t (inr i) u (inr j) order =
    let l : word_cmp y x ≡ Less = all_in (λ v. word_cmp y v ≡ Less) ys x t.0 i in
    let m : word_cmp x u ≡ Less = all_in (λ v. word_cmp x v ≡ Less) xs u s.0 j in
    let below : word_cmp x u ≢ Greater = λ g. absurd (cc) in
    absurd (no_later_trans x u y below order (less_back y x l))

first_by : (xs ys : List (List Symbol)) → IsStrictlySortedBy word_cmp xs →
    IsStrictlySortedBy word_cmp ys → ((w : List Symbol) → IsIn w xs → IsIn w ys) →
    ((w : List Symbol) → IsIn w ys → IsAtOrBefore xs w) → slice_get xs 0 ≡ slice_get ys 0
first_by [] [] s t f g = refl
first_by [] (y ∷ ys) s t f g = let a : IsAtOrBefore [] y = g y (inl refl) in absurd a.listed
first_by (x ∷ xs) [] s t f g = absurd (f x (inl refl))
first_by (x ∷ xs) (y ∷ ys) s t f g =
    let a : IsAtOrBefore (x ∷ xs) y = g y (inl refl) in
    let e : x ≡ y = same_first x y xs ys s t (f x (inl refl)) a.word a.listed a.order in
    ap (λ (z : List Symbol). Some z) e

-- in order, the first of some words that hold the first is the first of all
pub first_in_order : OneRendering → (words some : List (List Symbol)) →
    ((v : List Symbol) → IsIn v words → AreProper v) → HoldsFirst words some →
    slice_get (in_order some) 0 ≡ slice_get (in_order words) 0
first_in_order law words some proper h =
    let some_proper : (v : List Symbol) → IsIn v some → AreProper v =
    λ v i. proper v (h.sound v i) in
    first_by (in_order some) (in_order words) (in_order_sorted some) (in_order_sorted words)
    (λ w i. in_order_of law words proper w (h.sound w (in_order_sound some w i)))
    (λ w i.
    let a : IsAtOrBefore some w = h.first w (in_order_sound words w i) in
    record {
      word = a.word;
      listed = in_order_of law some some_proper a.word a.listed;
      order = a.order;
    })
