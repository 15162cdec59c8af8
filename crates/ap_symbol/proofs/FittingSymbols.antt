use Rattle.std.proofs.Common.{◌≡◌, ℕ, Bool, true, false, List, [], ◌∷◌, refl, ap, inl, inr, ◌∙◌}
use Rattle.std.proofs.lemmas.Bool.{false≢true}
use Rattle.std.specs.Prelude.{bytes_eq}
use Rattle.ap_symbol.specs.declared.symbol.Symbol.{Symbol}
use Rattle.ap_symbol.specs.declared.symbol.Symbol.TheVariants.{Letter, Tag, Blank, Join, Queue, Alarm, Star, At}
use Rattle.ap_symbol.specs.Case.{lower_lem}
use Rattle.ap_symbol.specs.Fitting.{Fits, fits_lem}
use Rattle.ap_symbol.proofs.Partners.{or_cases, or_left, or_right, and_left, and_right, and_both, not_true, eqb_is, eqb_eq}

same_text : (s t : List ℕ) → bytes_eq s t ≡ true → s ≡ t
same_text [] [] h = refl
same_text [] (c ∷ t) h = absurd (false≢true h)
same_text (c ∷ s) [] h = absurd (false≢true h)
same_text (c ∷ s) (d ∷ t) h = ap (λ x. x ∷ s) (eqb_is c d (and_left _ _ h))
    ∙ ap (λ l. d ∷ l) (same_text s t (and_right _ _ h))

itself : (s : List ℕ) → bytes_eq s s ≡ true
itself [] = refl
itself (c ∷ s) = and_both _ _ (eqb_eq c c refl) (itself s)

to_fits : (sensitive : Bool) (symbol input : Symbol) → fits_lem sensitive symbol input ≡ true →
    Fits sensitive symbol input
to_fits sensitive (Letter s) (Letter c) h = elim (or_cases _ _ h) [
  | inl e ↦ inl (ap Letter (eqb_is _ _ e))
  | inr k ↦ inr (not_true (and_left _ _ k), (c, (refl, ap Letter (eqb_is _ _ (and_right _ _ k)))))
]
to_fits sensitive (Tag s) (Tag t) h = inl (ap Tag (same_text s t h))
to_fits sensitive Blank Blank h = inl refl
to_fits sensitive Join Join h = inl refl
to_fits sensitive Queue Queue h = inl refl
to_fits sensitive Alarm Alarm h = inl refl
to_fits sensitive Star Star h = inl refl
to_fits sensitive At At h = inl refl
to_fits sensitive _ _ h = absurd (false≢true h)

pub fits_itself : (sensitive : Bool) (symbol : Symbol) → fits_lem sensitive symbol symbol ≡ true
fits_itself sensitive (Letter s) = or_left _ _ (eqb_eq s s refl)
fits_itself sensitive (Tag s) = itself s
fits_itself sensitive Blank = refl
fits_itself sensitive Join = refl
fits_itself sensitive Queue = refl
fits_itself sensitive Alarm = refl
fits_itself sensitive Star = refl
fits_itself sensitive At = refl

fits_partner : (c : ℕ) → fits_lem false (Letter (lower_lem c)) (Letter c) ≡ true
fits_partner c = or_right _ _ (eqb_eq (lower_lem c) (lower_lem c) refl)

from_fits : (sensitive : Bool) (symbol input : Symbol) → Fits sensitive symbol input →
    fits_lem sensitive symbol input ≡ true
from_fits sensitive symbol input (inl e) = ap (λ s. fits_lem sensitive s input) e
    ∙ fits_itself sensitive input
from_fits sensitive symbol input (inr h) = ap (λ b. fits_lem b symbol input) h.0
    ∙ ap (λ s. fits_lem false s input) h.1.1.1
    ∙ ap (λ s. fits_lem false (Letter (lower_lem h.1.0)) s) h.1.1.0 ∙ fits_partner h.1.0

pub fits_is : (sensitive : Bool) (symbol input : Symbol) →
    (fits_lem sensitive symbol input ≡ true → Fits sensitive symbol input)
    × (Fits sensitive symbol input → fits_lem sensitive symbol input ≡ true)
fits_is sensitive symbol input = (to_fits sensitive symbol input, from_fits sensitive symbol input)
