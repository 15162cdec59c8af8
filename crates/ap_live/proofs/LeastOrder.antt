-- The order of words under a common front, also with a case carried.
use Rattle.std.proofs.Common.{◌≡◌, ◌≢◌, ◌⊎◌, inl, inr, ℕ, List, [], ◌∷◌, ◌++◌, refl, sym, ◌∙◌, ap, append_assoc}
use Rattle.std.specs.Prelude.{reverse}
use Rattle.std.specs.Cmp.Lexicographic.{slice_cmp}
use Rattle.std.specs.Ordering.{nat_cmp, ordering_then, ordering_reverse}
use Rattle.std.specs.declared.cmp.Ordering.{Ordering}
use Rattle.std.specs.declared.cmp.Ordering.TheVariants.{Less, Equal, Greater}
use Rattle.std.proofs.lemmas.Cmp.{nat_cmp_total}
use Rattle.std.proofs.lemmas.Grind.{flat_map-append}
use Rattle.std.proofs.lemmas.List.{map-append, reverse-append}
use Rattle.std.proofs.lemmas.Map.Lookups.{exact_bytes}
use Rattle.ap_symbol.specs.Case.{upper_lem}
use Rattle.ap_symbol.specs.Recasing.{carry_lem, change_letter, each_letter, first_letter}
use Rattle.ap_symbol.specs.Rendering.{rendering, symbol_bytes, word_cmp}
use Rattle.ap_symbol.specs.declared.recasing.Case.{Case}
use Rattle.ap_symbol.specs.declared.recasing.Case.TheVariants as cases
use Rattle.ap_symbol.specs.declared.symbol.Symbol.{Symbol}
use Rattle.ap_symbol.specs.declared.symbol.Symbol.TheVariants.{Letter, Tag, Blank, Join, Queue, Alarm, Star, At}
use Rattle.ap_live.specs.Least.{IsNoLater, EndsNoLater}
use Rattle.ap_live.proofs.WordLaws.{word_total}

self_equal : (o : Ordering) → o ≡ ordering_reverse o → o ≡ Equal
self_equal Less h = cc
self_equal Equal h = refl
self_equal Greater h = cc

number_same : (x : ℕ) → nat_cmp x x ≡ Equal
number_same x = self_equal (nat_cmp x x) (nat_cmp_total.antisymm x x)

bytes_front : (p a b : List ℕ) →
    slice_cmp nat_cmp (p ++ a) (p ++ b) ≡ slice_cmp nat_cmp a b
bytes_front [] a b = refl
bytes_front (x ∷ p) a b =
    ap (λ (o : Ordering). ordering_then o (slice_cmp nat_cmp (p ++ a) (p ++ b))) (number_same x)
    ∙ bytes_front p a b

-- what stands before both words says nothing of their order
word_front : (p a b : List Symbol) → word_cmp (p ++ a) (p ++ b) ≡ word_cmp a b
word_front p a b =
    ap (λ (z : List ℕ). slice_cmp nat_cmp z (rendering (p ++ b))) (flat_map-append symbol_bytes p a)
    ∙ ap (λ (z : List ℕ). slice_cmp nat_cmp (rendering p ++ rendering a) z)
    (flat_map-append symbol_bytes p b)
    ∙ bytes_front (rendering p) (rendering a) (rendering b)

-- ---- not behind

not_behind : (o : Ordering) → o ≢ Greater → (o ≡ Less) ⊎ (o ≡ Equal)
not_behind Less h = inl refl
not_behind Equal h = inr refl
not_behind Greater h = absurd (h refl)

word_same : (w : List Symbol) → word_cmp w w ≡ Equal
word_same w = self_equal (word_cmp w w) (word_total.antisymm w w)

pub no_later_self : (w : List Symbol) → word_cmp w w ≢ Greater
no_later_self w = λ g. let e : word_cmp w w ≡ Equal = word_same w in absurd (cc)

pub no_later_trans : (a b c : List Symbol) → word_cmp a b ≢ Greater → word_cmp b c ≢ Greater →
    word_cmp a c ≢ Greater
no_later_trans a b c h k = λ g. elim (not_behind (word_cmp a b) h) [
  | inl l ↦ elim (not_behind (word_cmp b c) k) [
    | inl m ↦ let t : word_cmp a c ≡ Less = word_total.trans a b c l m in absurd (cc)
    | inr e ↦
        let s : word_cmp a b ≡ word_cmp a c =
        ap (λ (z : List ℕ). slice_cmp nat_cmp (rendering a) z) (exact_bytes _ _ e) in
        absurd (h (s ∙ g))
  ]
  | inr e ↦
      let s : word_cmp a c ≡ word_cmp b c =
      ap (λ (z : List ℕ). slice_cmp nat_cmp z (rendering c)) (exact_bytes _ _ e) in
      absurd (k (sym s ∙ g))
]

-- ---- a case carried to a word in two parts

-- the first letter stands in the front, or behind it
FirstIs : (ℕ → ℕ) → List Symbol → Type 0
FirstIs f p = ((w : List Symbol) → first_letter f (p ++ w) ≡ first_letter f p ++ w)
    ⊎ ((w : List Symbol) → first_letter f (p ++ w) ≡ p ++ first_letter f w)

first_more : (f : ℕ → ℕ) (x : Symbol) (p : List Symbol) →
    ((w : List Symbol) → first_letter f (x ∷ w) ≡ x ∷ first_letter f w) → FirstIs f p →
    FirstIs f (x ∷ p)
unfolding FirstIs
first_more f x p skips (inl h) =
    inl (λ w. skips (p ++ w) ∙ ap (λ (z : List Symbol). x ∷ z) (h w)
    ∙ ap (λ (z : List Symbol). z ++ w) (sym (skips p)))
first_more f x p skips (inr h) =
    inr (λ w. skips (p ++ w) ∙ ap (λ (z : List Symbol). x ∷ z) (h w))

first_is : (f : ℕ → ℕ) (p : List Symbol) → FirstIs f p
unfolding FirstIs
first_is f [] = inr (λ w. refl)
first_is f (Letter c ∷ p) = inl (λ w. refl)
first_is f (Tag name ∷ p) = first_more f (Tag name) p (λ w. refl) (first_is f p)
first_is f (Blank ∷ p) = first_more f Blank p (λ w. refl) (first_is f p)
first_is f (Join ∷ p) = first_more f Join p (λ w. refl) (first_is f p)
first_is f (Queue ∷ p) = first_more f Queue p (λ w. refl) (first_is f p)
first_is f (Alarm ∷ p) = first_more f Alarm p (λ w. refl) (first_is f p)
first_is f (Star ∷ p) = first_more f Star p (λ w. refl) (first_is f p)
first_is f (At ∷ p) = first_more f At p (λ w. refl) (first_is f p)

-- both with one front, which the case changes alike
with_front : (carry : List Symbol → List Symbol) (p q a b c d : List Symbol) → carry (p ++ a) ≡ q
    ++ c → carry (p ++ b) ≡ q ++ d → word_cmp c d ≢ Greater → word_cmp (carry (p ++ a))
    (carry (p ++ b)) ≢ Greater
with_front carry p q a b c d e f h = λ g. h (sym (word_front q c d)
    ∙ ap (λ (z : List Symbol). word_cmp z (q ++ d)) (sym e)
    ∙ ap (λ (z : List Symbol). word_cmp (carry (p ++ a)) z) (sym f) ∙ g)

pub ends_low : (a b : List Symbol) → word_cmp (reverse a) (reverse b) ≢ Greater →
    EndsNoLater cases.Low a b
ends_low a b h = record {
  order = λ front. with_front (λ w. w) front front (reverse a) (reverse b) (reverse a) (reverse b)
      refl refl h;
}

pub ends_all : (a b : List Symbol) →
    word_cmp (carry_lem cases.All (reverse a)) (carry_lem cases.All (reverse b)) ≢ Greater →
    EndsNoLater cases.All a b
ends_all a b h = record {
  order = λ front. with_front (each_letter upper_lem) front (each_letter upper_lem front)
      (reverse a) (reverse b) (each_letter upper_lem (reverse a)) (each_letter upper_lem (reverse b))
      (map-append (change_letter upper_lem) front (reverse a))
      (map-append (change_letter upper_lem) front (reverse b)) h;
}

by_first : (f : ℕ → ℕ) (a b front : List Symbol) → FirstIs f front → word_cmp a b ≢ Greater →
    word_cmp (first_letter f a) (first_letter f b) ≢ Greater →
    word_cmp (first_letter f (front ++ a)) (first_letter f (front ++ b)) ≢ Greater
unfolding FirstIs
by_first f a b front (inl e) h k =
    with_front (first_letter f) front (first_letter f front) a b a b (e a) (e b) h
by_first f a b front (inr e) h k =
    with_front (first_letter f) front front a b (first_letter f a) (first_letter f b) (e a) (e b) k

pub ends_first : (a b : List Symbol) → word_cmp (reverse a) (reverse b) ≢ Greater →
    word_cmp (carry_lem cases.First (reverse a)) (carry_lem cases.First (reverse b)) ≢ Greater →
    EndsNoLater cases.First a b
ends_first a b h k = record {
  order = λ front. by_first upper_lem (reverse a) (reverse b) front (first_is upper_lem front) h k;
}

-- ---- ends

pub ends_self : (case : Case) (a : List Symbol) → EndsNoLater case a a
ends_self case a = record {
  order = λ front. no_later_self (carry_lem case (front ++ reverse a));
}

pub ends_trans : (case : Case) (a b c : List Symbol) → EndsNoLater case a b →
    EndsNoLater case b c → EndsNoLater case a c
ends_trans case a b c h k = record {
  order = λ front. no_later_trans (carry_lem case (front ++ reverse a))
      (carry_lem case (front ++ reverse b)) (carry_lem case (front ++ reverse c)) (h.order front)
      (k.order front);
}

-- before both ends the same is added
end_more : (front a o : List Symbol) →
    front ++ reverse (a ++ o) ≡ (front ++ reverse o) ++ reverse a
end_more front a o = ap (λ (z : List Symbol). front ++ z) (reverse-append a o)
    ∙ sym (append_assoc front (reverse o) (reverse a))

pub ends_more : (case : Case) (a b o : List Symbol) → EndsNoLater case a b →
    EndsNoLater case (a ++ o) (b ++ o)
ends_more case a b o h = record {
  order = λ front g. h.order (front ++ reverse o)
      (ap (λ (z : List Symbol). word_cmp (carry_lem case z)
      (carry_lem case ((front ++ reverse o) ++ reverse b))) (sym (end_more front a o))
      ∙ ap (λ (z : List Symbol). word_cmp (carry_lem case (front ++ reverse (a ++ o)))
      (carry_lem case z)) (sym (end_more front b o)) ∙ g);
}

-- as whole words
pub whole_no_later : (case : Case) (a b : List Symbol) → EndsNoLater case a b →
    IsNoLater case (reverse a) (reverse b)
whole_no_later case a b h = record { order = h.order [] }

-- The order of two words is that of what they are.
pub ends_by : (carry : List Symbol → List Symbol) (a b c d : List Symbol) → a ≡ c → b ≡ d →
    word_cmp (carry a) (carry b) ≢ Greater → word_cmp (carry c) (carry d) ≢ Greater
ends_by carry a b c d e f h = λ g. h (ap (λ (z : List Symbol). word_cmp (carry z) (carry b)) e
    ∙ ap (λ (z : List Symbol). word_cmp (carry c) (carry z)) f ∙ g)

pub whole_self : (case : Case) (w : List Symbol) → IsNoLater case w w
whole_self case w = record { order = no_later_self (carry_lem case w) }
