-- Sets and their numbers.
use Rattle.std.proofs.Common.{◌≡◌, ℕ, ◌+◌, ◌<◌, ◌≤◌, suc, Bool, true, false, List, [], ◌∷◌, ◌++◌, Some, length, get_or, eqb, not, refl, sym, ap, subst, ◌∙◌, arith, inl, inr, position, slice_get, option_map}
use Rattle.std.specs.declared.alloc.Global.{Global}
use Rattle.std.specs.declared.vec.Vec.{Vec}
use Rattle.std.specs.List.{position_or_len, list_any}
use Rattle.std.specs.Cmp.Lexicographic.{pointwise}
use Rattle.std.proofs.lemmas.Bool.{cases_Bool, or_parts, not_from_false, cond-true, cond-false}
use Rattle.std.proofs.lemmas.Option.{none-some, slice_get-map, slice_get-get_or}
use Rattle.std.proofs.lemmas.List.{length_push, length-map, map_push}
use Rattle.std.proofs.lemmas.List.Quantifiers.{position-Some}
use Rattle.std.proofs.lemmas.Slice.Eq.{bytes_eq-Decides}
use Rattle.indexmap.specs.IndexSet.{insert_key}
use Rattle.ap_fst.proofs.Listing.{place_front}
use Rattle.ap_det.specs.Numbered.{lists_of, IsNumbered}

abbrev pub same_items : Vec ℕ Global → Vec ℕ Global → Bool
same_items x y = pointwise eqb x.items y.items

-- a set that is found stands there
pub found : (sets : List (Vec ℕ Global)) (set : List ℕ) (i : ℕ) →
    Some i ≡ position (λ k. pointwise eqb set k.items) sets → slice_get (lists_of sets) i ≡ Some set
found [] set i h = absurd (none-some i (sym h))
found (x ∷ xs) set i h =
    let p = position-Some (λ k. pointwise eqb set k.items) (x ∷ xs) i x (sym h) in
    let d = bytes_eq-Decides set (get_or (x ∷ xs) i x).items in
    slice_get-map (λ (v : Vec ℕ Global). v.items) (x ∷ xs) i
    ∙ ap (λ o. option_map (λ (v : Vec ℕ Global). v.items) o) (slice_get-get_or (x ∷ xs) i x p.0)
    ∙ ap Some (sym (d.0 p.1))

last_place : {X : Type 0} (p : X → Bool) (xs : List X) → list_any p xs ≡ false →
    position_or_len p xs ≡ length xs
last_place p [] h = refl
last_place p (x ∷ xs) h =
    let q = or_parts (p x) (list_any p xs) h in
    let r = last_place p xs q.1 in
    let e : 1 + position_or_len p xs ≡ suc (length xs) = omega arith in
    cond-true (not (p x)) (1 + position_or_len p xs) 0 (not_from_false (p x) q.0) ∙ e

-- a set that is put in stands there, at the end if it is new
pub inserted : (old new : List (Vec ℕ Global)) (owned : Vec ℕ Global) (set : List ℕ) (i : ℕ) →
    owned.items ≡ set → new ≡ insert_key same_items old owned →
    i ≡ position_or_len (same_items owned) old
    → (k : Vec ℕ Global) → slice_get new i ≡ Some k → same_items owned k ≡ true →
    IsNumbered (lists_of old) (lists_of new) set i
inserted old new owned set i own is index k at equal = record {
  at = let d = bytes_eq-Decides owned.items k.items in
      slice_get-map (λ (v : Vec ℕ Global). v.items) new i
      ∙ ap (λ o. option_map (λ (v : Vec ℕ Global). v.items) o) at ∙ ap Some (sym (d.0 equal) ∙ own);
  grew = elim (cases_Bool (list_any (same_items owned) old)) [
    | inl e ↦ inl (ap lists_of (is ∙ cond-true _ _ _ e))
    | inr e ↦ inr (
      index ∙ last_place (same_items owned) old e
          ∙ sym (length-map old (λ (v : Vec ℕ Global). v.items)),
      ap lists_of (is ∙ cond-false _ _ _ e) ∙ map_push (λ (v : Vec ℕ Global). v.items) old owned
          ∙ ap (λ l. lists_of old ++ l ∷ []) own,
    )
  ];
}

-- sets keep their numbers
pub numbered_keeps : (old new : List (List ℕ)) (set : List ℕ) (number : ℕ) →
    IsNumbered old new set number → (i : ℕ) (other : List ℕ) → slice_get old i ≡ Some other →
    slice_get new i ≡ Some other
numbered_keeps old new set number n i other h =
    elim n.grew [
      | inl e ↦ subst (λ (z : List (List ℕ)). slice_get z i ≡ Some other) (sym e) h
      | inr e ↦ subst (λ (z : List (List ℕ)). slice_get z i ≡ Some other) (sym e.1)
          (place_front old (set ∷ []) i other h)
    ]

-- the first set of all stands alone
pub numbered_first : (old new : List (List ℕ)) (set : List ℕ) (number : ℕ) → old ≡ [] →
    IsNumbered old new set number → new ≡ set ∷ []
numbered_first old new set number none n =
    elim n.grew [
      | inl e ↦ absurd (none-some set
          (ap (λ (z : List (List ℕ)). slice_get z number) (sym (e ∙ none)) ∙ n.at))
      | inr e ↦ e.1 ∙ ap (λ (z : List (List ℕ)). z ++ set ∷ []) none
    ]

-- no other number is new
pub numbered_fresh : (old new : List (List ℕ)) (set : List ℕ) (number : ℕ) →
    IsNumbered old new set number → (i : ℕ) → length old ≤ i → i < length new → i ≡ number
numbered_fresh old new set number n i from below =
    elim n.grew [
      | inl e ↦ let l : length new ≡ length old = ap length e in absurd (omega arith)
      | inr e ↦ let l : length new ≡ length old + 1 = ap length e.1 ∙ length_push old set in
          let k : number ≡ length old = e.0 in omega arith
    ]
