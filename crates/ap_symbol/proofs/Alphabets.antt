use Rattle.std.proofs.Common.{◌≡◌, ℕ, eqb, inl, inr, Bool, true, false, ◌||◌, List, [], ◌∷◌, refl, sym, ap, ◌∙◌}
use Rattle.std.specs.List.{list_all}
use Rattle.std.proofs.lemmas.Bool.{eqb-true, or_cases}
use Rattle.ap_symbol.specs.Case.{partner_lem}
use Rattle.ap_symbol.specs.Alphabet.{has_letter, IsClosure, ClosureIsClosed}
use Rattle.ap_symbol.specs.Lists.{IsIn}
use Rattle.ap_symbol.proofs.Partners.{partner_twice, or_left, or_right, and_both, eqb_eq}

or_swap : (a b : Bool) → (a || b) ≡ (b || a)
or_swap true true = refl
or_swap true false = refl
or_swap false true = refl
or_swap false false = refl

-- the closure holds the partner of a character exactly where it holds the character
partner_in : (alphabet closed : List ℕ) → IsClosure alphabet closed → (c : ℕ) →
    has_letter closed (partner_lem c) ≡ has_letter closed c
partner_in alphabet closed h c =
    h (partner_lem c) ∙ ap (λ d. has_letter alphabet (partner_lem c) || has_letter alphabet d)
    (partner_twice c) ∙ or_swap (has_letter alphabet (partner_lem c))
    (has_letter alphabet c) ∙ sym (h c)

-- each element of `rest` stands in it
all_in : (p : ℕ → Bool) (rest : List ℕ) → ((c : ℕ) → has_letter rest c ≡ true → p c ≡ true) →
    list_all p rest ≡ true
all_in p [] h = refl
all_in p (c ∷ rest) h = and_both _ _ (h c (or_left _ _ (eqb_eq c c refl)))
    (all_in p rest (λ d e. h d (or_right _ _ e)))

pub closure_is_closed : ClosureIsClosed
closure_is_closed alphabet closed h =
    all_in (λ a. has_letter closed (partner_lem a)) closed
    (λ c e. partner_in alphabet closed h c ∙ e)

-- the letters of an alphabet are what stands in it

pub has_in : (xs : List ℕ) (c : ℕ) → has_letter xs c ≡ true → IsIn c xs
has_in [] c h = cc
has_in (x ∷ xs) c h = elim (or_cases (eqb x c) (has_letter xs c) h) [
  | inl e ↦ inl (sym (eqb-true x c e))
  | inr k ↦ inr (has_in xs c k)
]

pub in_has : (xs : List ℕ) (c : ℕ) → IsIn c xs → has_letter xs c ≡ true
in_has [] c h = absurd h
in_has (x ∷ xs) c (inl e) = or_left (eqb x c) (has_letter xs c) (eqb_eq x c (sym e))
in_has (x ∷ xs) c (inr h) = or_right (eqb x c) (has_letter xs c) (in_has xs c h)

-- where two alphabets hold the same letters, what stands in one stands in the other
pub in_same : (a b : List ℕ) → ((c : ℕ) → has_letter a c ≡ has_letter b c) → (c : ℕ) → IsIn c a →
    IsIn c b
in_same a b h c i = has_in b c (sym (h c) ∙ in_has a c i)
