-- Words put into order, each once.
use Rattle.std.proofs.Common.{◌≡◌, inl, inr, ℕ, true, List, [], ◌∷◌, ◌++◌, map, append-nil, length, ◌<◌, arith, refl, sym, ◌∙◌, ap, subst}
use Rattle.std.specs.Prelude.{◌↔◌, reverse}
use Rattle.std.specs.List.{dedup}
use Rattle.std.specs.List.Sorted.{IsPermutation, IsSorted, IsStrictlySortedBy}
use Rattle.std.specs.Cmp.{IsTotalOrder}
use Rattle.std.specs.Cmp.Lexicographic.{slice_cmp}
use Rattle.std.specs.Ordering.{nat_cmp, is_eq, eq_by_cmp, ordering_then}
use Rattle.std.specs.declared.cmp.Ordering.{Ordering}
use Rattle.std.specs.declared.cmp.Ordering.TheVariants.{Less, Equal, Greater}
use Rattle.std.proofs.lemmas.List.{map-append}
use Rattle.std.proofs.lemmas.Cmp.{nat_list_cmp_total, on_total, eq_by_cmp_equiv}
use Rattle.std.proofs.lemmas.List.Kept.{IsStrictlySortedBy-dedup, Any-dedup, Contains-from_dedup}
use Rattle.ap_symbol.specs.declared.symbol.Symbol.{Symbol}
use Rattle.ap_symbol.specs.Rendering.{rendering, word_cmp}
use Rattle.ap_symbol.specs.Words.{AreProper}
use Rattle.ap_fst.specs.Lists.{IsIn}
use Rattle.ap_fst.proofs.Listing.{in_contains, contains_in, in_permutation, from_permutation}
use Rattle.ap_fst.proofs.WalkLaws.{equal_from_cmp}
use Rattle.ap_live.proofs.Spreading.{in_either, in_back}

pub word_total : IsTotalOrder word_cmp
word_total = on_total rendering nat_list_cmp_total

then_equal : (a b : Ordering) → ordering_then a b ≡ Equal → (a ≡ Equal) × (b ≡ Equal)
then_equal Less b h = cc
then_equal Equal b h = (refl, h)
then_equal Greater b h = cc

numbers_equal : (xs ys : List ℕ) → slice_cmp nat_cmp xs ys ≡ Equal → xs ≡ ys
numbers_equal [] [] h = refl
numbers_equal [] (y ∷ ys) h = cc
numbers_equal (x ∷ xs) [] h = cc
numbers_equal (x ∷ xs) (y ∷ ys) h =
    let p : (nat_cmp x y ≡ Equal) × (slice_cmp nat_cmp xs ys ≡ Equal) =
    then_equal (nat_cmp x y) (slice_cmp nat_cmp xs ys) h in
    ap (λ z. z ∷ xs) (equal_from_cmp x y p.0) ∙ ap (λ z. y ∷ z) (numbers_equal xs ys p.1)

is_equal : (o : Ordering) → is_eq o ≡ true → o ≡ Equal
is_equal Less h = cc
is_equal Equal h = refl
is_equal Greater h = cc

-- sorted, with neighbours that render alike dropped
pub sorted_words : (xs ys : List (List Symbol)) → IsSorted word_cmp xs →
    ys ≡ dedup (eq_by_cmp word_cmp) xs → IsStrictlySortedBy word_cmp ys
sorted_words xs ys s e =
    let P : List (List Symbol) → Type 0 = λ z. IsStrictlySortedBy word_cmp z in
    subst P (sym e) (IsStrictlySortedBy-dedup word_total (λ x y. refl) xs s)

pub few_sorted : (xs : List (List Symbol)) → length xs < 2 → IsStrictlySortedBy word_cmp xs
unfolding IsStrictlySortedBy
few_sorted [] h = tt
few_sorted (x ∷ []) h = (tt, tt)
few_sorted (x ∷ y ∷ xs) h = absurd (omega arith)

from_dropped : (xs : List (List Symbol)) (w : List Symbol) →
    IsIn w (dedup (eq_by_cmp word_cmp) xs) → IsIn w xs
from_dropped xs w i = contains_in w xs
    (Contains-from_dedup (eq_by_cmp word_cmp) xs w
    (in_contains w (dedup (eq_by_cmp word_cmp) xs) i))

dropped_in : ((a b : List Symbol) → AreProper a → AreProper b → rendering a ≡ rendering b → a ≡ b) →
    (xs : List (List Symbol)) (w : List Symbol) → ((v : List Symbol) → IsIn v xs → AreProper v)
    → IsIn w xs → IsIn w (dedup (eq_by_cmp word_cmp) xs)
dropped_in law xs w proper i =
    let a = Any-dedup (eq_by_cmp_equiv word_total) xs w (in_contains w xs i) in
    let there : IsIn a.1 (dedup (eq_by_cmp word_cmp) xs) =
    contains_in a.1 (dedup (eq_by_cmp word_cmp) xs) (a.0, a.2, a.3) in
    let alike : rendering w ≡ rendering a.1 =
    numbers_equal (rendering w) (rendering a.1) (is_equal (word_cmp w a.1) a.4) in
    let same : w ≡ a.1 = law w a.1 (proper w i) (proper a.1 (from_dropped xs a.1 there)) alike in
    subst (λ (z : List Symbol). IsIn z (dedup (eq_by_cmp word_cmp) xs)) (sym same) there

pub word_members : ((a b : List Symbol) → AreProper a → AreProper b → rendering a ≡ rendering b →
    a ≡ b) → (old xs ys : List (List Symbol)) → ((v : List Symbol) → IsIn v old → AreProper v)
    → IsPermutation old xs → ys ≡ dedup (eq_by_cmp word_cmp) xs → (w : List Symbol) →
    IsIn w ys ↔ IsIn w old
word_members law old xs ys proper p e w =
    let P : List (List Symbol) → Type 0 = λ z. IsIn w z in (
      (λ i. from_permutation w old xs p (from_dropped xs w (subst P e i))),
      (λ i. subst P (sym e) (dropped_in law xs w (λ v k. proper v (from_permutation v old xs p k))
          (in_permutation w old xs p i))),
    )

pub reversed_more : (yielded : List (List Symbol)) (b w : List Symbol)
    (old new : List (List Symbol)) → w ≡ reverse b → new ≡ old ++ w ∷ [] → old ≡ map reverse yielded
    → new ≡ map reverse (yielded ++ b ∷ [])
reversed_more yielded b w old new r e o =
    e ∙ ap (λ (z : List (List Symbol)). z ++ w ∷ []) o
    ∙ ap (λ (z : List Symbol). map reverse yielded ++ z ∷ []) r
    ∙ sym (map-append reverse yielded (b ∷ []))

pub reversed_all : (backs yielded rest words : List (List Symbol)) → backs ≡ yielded ++ rest →
    rest ≡ [] → words ≡ map reverse yielded → words ≡ map reverse backs
reversed_all backs yielded rest words e none h =
    h ∙ ap (map reverse) (sym (e ∙ ap (λ (z : List (List Symbol)). yielded ++ z) none
    ∙ append-nil yielded))

pub yielded_in : (backs yielded rest later : List (List Symbol)) (b : List Symbol) →
    backs ≡ yielded ++ rest → rest ≡ b ∷ later → IsIn b backs
yielded_in backs yielded rest later b e next =
    subst (λ (z : List (List Symbol)). IsIn b z)
    (sym (e ∙ ap (λ (z : List (List Symbol)). yielded ++ z) next))
    (in_back b yielded (b ∷ later) (inl refl))

pub proper_more : (old new : List (List Symbol)) (w : List Symbol) → new ≡ old ++ w ∷ [] →
    AreProper w → ((v : List Symbol) → IsIn v old → AreProper v) → (v : List Symbol) →
    IsIn v new → AreProper v
proper_more old new w e proper all v i =
    elim (in_either v old (w ∷ []) (subst (λ (z : List (List Symbol)). IsIn v z) e i)) [
      | inl k ↦ all v k
      | inr k ↦ elim k [
        | inl q ↦ subst (λ (z : List Symbol). AreProper z) (sym q) proper
        | inr n ↦ elim n [ ]
      ]
    ]
