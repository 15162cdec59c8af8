-- A blank without its brackets, byte by byte.
use Rattle.std.specs.Prelude.{◌≡◌, ℕ, suc, ◌+◌, ◌<◌, ◌≤◌, List, [], ◌∷◌, ◌++◌, drop, length, Bool, true, false, eqb, ◌||◌, refl}
use Rattle.std.specs.List.{list_any}
use Rattle.std.proofs.Common.{arith, ap, sym, ◌∙◌, get_or, drop-cons, append-nil, append_assoc}
use Rattle.std.proofs.lemmas.List.{drop_all}
use Rattle.ap_format.specs.declared.blanks.Spot.{Spot}
use Rattle.ap_format.specs.declared.blanks.Spot.TheVariants.{Outside}
use Rattle.ap_format.specs.Reformatted.{bare_blank, is_kept, next_spot}

pub bare_nil : (at : Spot) → bare_blank at [] ≡ []
unfolding bare_blank
bare_nil at = refl

pub bare_kept : (at : Spot) (b : ℕ) (bs : List ℕ) → is_kept at b ≡ true →
    bare_blank at (b ∷ bs) ≡ b ∷ bare_blank (next_spot at b) bs
unfolding bare_blank
bare_kept at b bs h = rw h refl

pub bare_left : (at : Spot) (b : ℕ) (bs : List ℕ) → is_kept at b ≡ false →
    bare_blank at (b ∷ bs) ≡ bare_blank (next_spot at b) bs
unfolding bare_blank
bare_left at b bs h = rw h refl

-- one byte more
module _ (bytes : List ℕ) (i : ℕ) (inside : i < length bytes) (at : Spot)
    (old text next : List ℕ) (so_far : old ≡ text ++ bare_blank at (drop i bytes)) where
  there : drop i bytes ≡ get_or bytes i 0 ∷ drop (i + 1) bytes
  there = let one : suc i ≡ i + 1 = omega arith in
      drop-cons bytes i 0 inside ∙ ap (λ n. get_or bytes i 0 ∷ drop n bytes) one

  pub bare_more : (at' : Spot) → at' ≡ next_spot at (get_or bytes i 0) →
      is_kept at (get_or bytes i 0) ≡ true → next ≡ text ++ get_or bytes i 0 ∷ [] →
      old ≡ next ++ bare_blank at' (drop (i + 1) bytes)
  bare_more at' is kept e =
      so_far ∙ ap (λ (q : List ℕ). text ++ q)
      (ap (bare_blank at) there ∙ bare_kept at (get_or bytes i 0) (drop (i + 1) bytes) kept)
      ∙ sym (append_assoc text (get_or bytes i 0 ∷ [])
      (bare_blank (next_spot at (get_or bytes i 0)) (drop (i + 1) bytes)))
      ∙ rw (e, is) refl

  pub bare_less : (at' : Spot) → at' ≡ next_spot at (get_or bytes i 0) →
      is_kept at (get_or bytes i 0) ≡ false → next ≡ text →
      old ≡ next ++ bare_blank at' (drop (i + 1) bytes)
  bare_less at' is left e =
      so_far ∙ ap (λ (q : List ℕ). text ++ q)
      (ap (bare_blank at) there ∙ bare_left at (get_or bytes i 0) (drop (i + 1) bytes) left)
      ∙ rw (e, is) refl

pub bare_end : (bytes : List ℕ) (i : ℕ) (at : Spot) (old text : List ℕ) → length bytes ≤ i →
    old ≡ text ++ bare_blank at (drop i bytes) → text ≡ old
bare_end bytes i at old text past e =
    sym (append-nil text)
    ∙ ap (λ (q : List ℕ). text ++ q)
    (sym (ap (bare_blank at) (drop_all i bytes past) ∙ bare_nil at))
    ∙ sym e

-- without a bracket all is kept
pub bare_same : (bytes : List ℕ) → list_any (λ b. eqb b 91) bytes ≡ false →
    bytes ≡ bare_blank Outside bytes
unfolding bare_blank
bare_same [] h = refl
bare_same (b ∷ bs) h = by (eqb b 91) (list_any (λ c. eqb c 91) bs) refl h (bare_same bs)
  where
    by : (v w : Bool) → eqb b 91 ≡ v → (v || w) ≡ false → (w ≡ false → bs ≡ bare_blank Outside bs) →
        b ∷ bs ≡ bare_blank Outside (b ∷ bs)
    by true w e h more = absurd (cc)
    by false w e h more = rw e (ap (λ q. b ∷ q) (more h))
