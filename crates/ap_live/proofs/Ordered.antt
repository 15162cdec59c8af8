-- Words that are sorted, with neighbours that render alike dropped, are these words in order, each
-- once.
use Rattle.std.specs.Prelude.{◌≡◌, ◌<◌, ℕ, List, [], ◌∷◌, ◌++◌, map, length, refl}
use Rattle.std.specs.List.{dedup}
use Rattle.std.specs.List.Sorted.{IsPermutation, IsSorted}
use Rattle.std.specs.Ordering.{eq_by_cmp}
use Rattle.std.specs.declared.cmp.Ordering.TheVariants.{Equal}
use Rattle.std.proofs.Common.{arith, ap, sym, ◌∙◌, append_assoc, append-nil}
use Rattle.std.proofs.lemmas.List.{map-append, map-id}
use Rattle.std.proofs.lemmas.Map.Lookups.{exact_bytes}
use Rattle.ap_symbol.specs.Lists.{IsIn}
use Rattle.ap_symbol.specs.Rendering.{rendering, word_cmp}
use Rattle.ap_symbol.specs.Words.{AreProper}
use Rattle.ap_symbol.specs.declared.symbol.Symbol.{Symbol}
use Rattle.ap_live.specs.Found.{in_order}
use Rattle.ap_live.proofs.WordLaws.{sorted_words, word_members}
use Rattle.ap_live.proofs.WordOrder.{in_order_sound, in_order_there, in_order_sorted, sorted_same}

pub ordered : ((a b : List Symbol) → AreProper a → AreProper b → rendering a ≡ rendering b → a ≡ b)
    → (old xs ys : List (List Symbol)) → ((v : List Symbol) → IsIn v old → AreProper v)
    → IsPermutation old xs → IsSorted word_cmp xs → ys ≡ dedup (eq_by_cmp word_cmp) xs →
    ys ≡ in_order old
ordered law old xs ys proper p s e =
    let m = word_members law old xs ys proper p e in
    let exact = λ (v w : List Symbol) (i : IsIn v old) (j : IsIn w old) (h : word_cmp v w ≡ Equal).
    law v w (proper v i) (proper w j) (exact_bytes _ _ h) in
    sorted_same ys (in_order old) (sorted_words xs ys s e) (in_order_sorted old)
    (λ v i. in_order_there old v exact ((m v).0 i)) (λ v i. (m v).1 (in_order_sound old v i))

-- fewer than two words are in order
pub few_ordered : (xs : List (List Symbol)) → length xs < 2 → xs ≡ in_order xs
few_ordered [] few = refl
few_ordered (x ∷ []) few = refl
few_ordered (x ∷ y ∷ xs) few = absurd (omega (arith, few))

-- words that stay as they are, where there were none before
pub mapped_none : (f : List Symbol → List Symbol) (old words : List (List Symbol)) →
    length old ≡ 0 → ((word : List Symbol) → f word ≡ word) → words ≡ old ++ map f words
mapped_none f [] words none same =
    sym (map-id words) ∙ ap (λ (h : List Symbol → List Symbol). map h words)
    (λ i word. sym (same word) i)
mapped_none f (word ∷ old) words none same = absurd (omega (arith, none))

-- one word more
pub mapped_more : (f : List Symbol → List Symbol) (word made : List Symbol)
    (words old before new : List (List Symbol)) → made ≡ f word → new ≡ before ++ made ∷ [] →
    before ≡ old ++ map f words → new ≡ old ++ map f (words ++ word ∷ [])
mapped_more f word made words old before new m e b =
    let all : map f (words ++ word ∷ []) ≡ map f words ++ made ∷ [] = map-append f words (word ∷ [])
    ∙ ap (λ (z : List Symbol). map f words ++ z ∷ []) (sym m) in
    e ∙ ap (λ (z : List (List Symbol)). z ++ made ∷ []) b
    ∙ append_assoc old (map f words) (made ∷ [])
    ∙ ap (λ (z : List (List Symbol)). old ++ z) (sym all)

nothing_left : (xs : List (List Symbol)) (n : ℕ) → n ≡ length xs → n ≡ 0 → xs ≡ []
nothing_left [] n e z = refl
nothing_left (x ∷ xs) n e z = absurd (omega arith)

-- where no word is left
pub mapped_all : (f : List Symbol → List Symbol) (words done left old new : List (List Symbol))
    (n : ℕ) → words ≡ done ++ left → n ≡ length left → n ≡ 0 → new ≡ old ++ map f done →
    new ≡ old ++ map f words
mapped_all f words done left old new n e count none is =
    is ∙ ap (λ (z : List (List Symbol)). old ++ map f z)
    (sym (e ∙ ap (λ (z : List (List Symbol)). done ++ z) (nothing_left left n count none)
    ∙ append-nil done))

-- the words of the four kinds, one behind the other
pub mapped_four : (f g : List Symbol → List Symbol) → ((word : List Symbol) → f word ≡ g word) →
    (a b c d none one two three four : List (List Symbol)) → none ≡ [] → one ≡ none ++ map f a →
    two ≡ one ++ map f b → three ≡ two ++ map f c → four ≡ three ++ map f d
    → four ≡ map g (a ++ (b ++ (c ++ d)))
mapped_four f g same a b c d none one two three four n o t h e =
    let first : one ≡ map f a = o ∙ ap (λ (z : List (List Symbol)). z ++ map f a) n in
    let second : two ≡ map f a ++ map f b =
    t ∙ ap (λ (z : List (List Symbol)). z ++ map f b) first in
    let third : three ≡ (map f a ++ map f b) ++ map f c =
    h ∙ ap (λ (z : List (List Symbol)). z ++ map f c) second in
    let fourth : four ≡ ((map f a ++ map f b) ++ map f c) ++ map f d =
    e ∙ ap (λ (z : List (List Symbol)). z ++ map f d) third in
    let whole : map f (a ++ (b ++ (c ++ d))) ≡ map f a ++ (map f b ++ (map f c ++ map f d)) =
    map-append f a (b ++ (c ++ d))
    ∙ ap (λ (z : List (List Symbol)). map f a ++ z) (map-append f b (c ++ d)
    ∙ ap (λ (z : List (List Symbol)). map f b ++ z) (map-append f c d)) in
    fourth ∙ append_assoc (map f a ++ map f b) (map f c) (map f d)
    ∙ append_assoc (map f a) (map f b) (map f c ++ map f d) ∙ sym whole
    ∙ ap (λ (h : List Symbol → List Symbol). map h (a ++ (b ++ (c ++ d)))) (λ i word. same word i)

-- two functions that make the same of each word
pub mapped_same : (f g : List Symbol → List Symbol) (words : List (List Symbol)) →
    ((word : List Symbol) → f word ≡ g word) → map f words ≡ map g words
mapped_same f g words same =
    ap (λ (h : List Symbol → List Symbol). map h words) (λ i word. same word i)
