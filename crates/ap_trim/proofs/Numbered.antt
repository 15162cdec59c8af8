-- Numbers that are given to keys of a set in order.
use Rattle.std.proofs.Common.{◌≡◌, inl, inr, ℕ, ◌+◌, suc, not, Bool, true, false, List, [], ◌∷◌, length, refl, sym, ◌∙◌, ap, subst, arith, Some}
use Rattle.std.specs.Prelude.{slice_get}
use Rattle.std.specs.List.{list_any, position_or_len}
use Rattle.indexmap.specs.IndexSet.{insert_key}
use Rattle.std.proofs.lemmas.Bool.{cases_Bool, cond-true, cond-false, or_parts, not_from_false}
use Rattle.ap_fst.proofs.Listing.{place_front}
use Rattle.ap_det.specs.Numbered.{IsNumbered}
use Rattle.ap_trim.specs.Numbers.{HasNumber, Keeps}

last_place : {X : Type 0} (p : X → Bool) (xs : List X) → list_any p xs ≡ false →
    position_or_len p xs ≡ length xs
last_place p [] h = refl
last_place p (x ∷ xs) h =
    let q = or_parts (p x) (list_any p xs) h in
    let r = last_place p xs q.1 in
    let e : 1 + position_or_len p xs ≡ suc (length xs) = omega arith in
    cond-true (not (p x)) (1 + position_or_len p xs) 0 (not_from_false (p x) q.0) ∙ e

-- a key that is put in stands there, at the end if it is new
pub key_numbered : {X : Type 0} (same : X → X → Bool) (old new : List X) (x : X) (i : ℕ) →
    ((a b : X) → same a b ≡ true → a ≡ b) → new ≡ insert_key same old x →
    i ≡ position_or_len (same x) old
    → (k : X) → slice_get new i ≡ Some k → same x k ≡ true → HasNumber old new x i
key_numbered same old new x i is made index k at equal = record {
  at = at ∙ ap Some (sym (is x k equal));
  grew = elim (cases_Bool (list_any (same x) old)) [
    | inl e ↦ inl (made ∙ cond-true _ _ _ e)
    | inr e ↦ inr (index ∙ last_place (same x) old e, made ∙ cond-false _ _ _ e)
  ];
}

pub number_keeps : {X : Type 0} (old new : List X) (x : X) (number : ℕ) →
    HasNumber old new x number → Keeps old new
number_keeps {X} old new x number n i y h = elim n.grew [
  | inl e ↦ subst (λ (z : List X). slice_get z i ≡ Some y) (sym e) h
  | inr e ↦ subst (λ (z : List X). slice_get z i ≡ Some y) (sym e.1)
      (place_front old (x ∷ []) i y h)
]

-- sets are numbered so too
pub set_number : (old new : List (List ℕ)) (set : List ℕ) (number : ℕ) →
    IsNumbered old new set number → HasNumber old new set number
set_number old new set number n = record { at = n.at; grew = n.grew }
