-- The lemma of a word that goes on.
use Rattle.std.proofs.Common.{◌≡◌, inl, inr, ℕ, ◌+◌, ◌≤◌, zero, suc, Bool, true, false, List, [], ◌∷◌, ◌++◌, length, take, refl, sym, ◌∙◌, ap, arith}
use Rattle.std.specs.Prelude.{◌||◌}
use Rattle.std.specs.List.{list_any}
use Rattle.std.proofs.lemmas.Bool.{cases_Bool, cond-true, cond-false, or_parts}
use Rattle.ap_symbol.specs.Kinds.{is_tag}
use Rattle.ap_symbol.specs.declared.symbol.Symbol.{Symbol}
use Rattle.ap_lookup.specs.Translation.{lemma_length}
use Rattle.ap_trim.specs.Watching.{has_tag}

or_left : (a b : Bool) → a ≡ true → (a || b) ≡ true
or_left true b h = refl
or_left false b h = cc

or_right : (a b : Bool) → b ≡ true → (a || b) ≡ true
or_right true b h = refl
or_right false b h = h

or_none : (a b : Bool) → a ≡ false → b ≡ false → (a || b) ≡ false
or_none true b h k = cc
or_none false b h k = k

pub any_front : {X : Type 0} (p : X → Bool) (xs ys : List X) → list_any p xs ≡ true →
    list_any p (xs ++ ys) ≡ true
any_front p [] ys h = cc
any_front p (x ∷ xs) ys h = elim (cases_Bool (p x)) [
  | inl t ↦ or_left (p x) (list_any p (xs ++ ys)) t
  | inr f ↦ or_right (p x) (list_any p (xs ++ ys)) (any_front p xs ys
      (ap (λ b. b || list_any p xs) (sym f) ∙ h))
]

pub any_back : {X : Type 0} (p : X → Bool) (xs ys : List X) → list_any p ys ≡ true →
    list_any p (xs ++ ys) ≡ true
any_back p [] ys h = h
any_back p (x ∷ xs) ys h = or_right (p x) (list_any p (xs ++ ys)) (any_back p xs ys h)

pub any_neither : {X : Type 0} (p : X → Bool) (xs ys : List X) → list_any p xs ≡ false →
    list_any p ys ≡ false → list_any p (xs ++ ys) ≡ false
any_neither p [] ys h k = k
any_neither p (x ∷ xs) ys h k = let q = or_parts (p x) (list_any p xs) h in
    or_none (p x) (list_any p (xs ++ ys)) q.0 (any_neither p xs ys q.1 k)

pub any_one : {X : Type 0} (p : X → Bool) (x : X) (b : Bool) → p x ≡ b → list_any p (x ∷ []) ≡ b
any_one p x true h = or_left (p x) false h
any_one p x false h = or_none (p x) false h refl

-- before the first tag all is lemma
pub lemma_untagged : (word more : List Symbol) → has_tag word ≡ false →
    lemma_length (word ++ more) ≡ length word + lemma_length more
lemma_untagged [] more h = omega arith
lemma_untagged (x ∷ word) more h =
    let p = or_parts (is_tag x) (has_tag word) h in
    let r : lemma_length (word ++ more) ≡ length word + lemma_length more =
    lemma_untagged word more p.1 in
    cond-false (is_tag x) 0 (suc (lemma_length (word ++ more))) p.0 ∙ omega (arith, r)

pub lemma_at_tag : (x : Symbol) (more : List Symbol) → is_tag x ≡ true → lemma_length (x ∷ more) ≡ 0
lemma_at_tag x more t = cond-true (is_tag x) 0 (suc (lemma_length more)) t

-- behind it nothing is
pub lemma_tagged : (word more : List Symbol) → has_tag word ≡ true →
    lemma_length (word ++ more) ≡ lemma_length word
lemma_tagged [] more h = cc
lemma_tagged (x ∷ word) more h = elim (cases_Bool (is_tag x)) [
  | inl t ↦ lemma_at_tag x (word ++ more) t ∙ sym (lemma_at_tag x word t)
  | inr f ↦ cond-false (is_tag x) 0 (suc (lemma_length (word ++ more))) f
      ∙ ap suc (lemma_tagged word more (ap (λ b. b || has_tag word) (sym f) ∙ h))
      ∙ sym (cond-false (is_tag x) 0 (suc (lemma_length word)) f)
]

pub lemma_within : (word : List Symbol) → lemma_length word ≤ length word
lemma_within [] = omega arith
lemma_within (x ∷ word) =
    let r : lemma_length word ≤ length word = lemma_within word in
    elim (cases_Bool (is_tag x)) [
      | inl t ↦ let e : lemma_length (x ∷ word) ≡ 0 = lemma_at_tag x word t in omega (arith, e)
      | inr f ↦ let e : lemma_length (x ∷ word) ≡ suc (lemma_length word) =
          cond-false (is_tag x) 0 (suc (lemma_length word)) f in omega (arith, e, r)
    ]

pub take_front : {X : Type 0} (n : ℕ) (word more : List X) → n ≤ length word →
    take n (word ++ more) ≡ take n word
take_front zero word more le = refl
take_front (suc n) [] more le = absurd (omega arith)
take_front (suc n) (x ∷ word) more le = ap (λ z. x ∷ z) (take_front n word more (omega arith))
