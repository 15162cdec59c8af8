-- Units that may be unknown words.
use Rattle.std.proofs.Common.{◌≡◌, ℕ, suc, Bool, true, false, List, [], ◌∷◌, length, refl, sym, ap, ◌∙◌}
use Rattle.std.specs.Prelude.{◌&&◌}
use Rattle.std.proofs.lemmas.Option.{same_Some}
use Rattle.ap_symbol.specs.Fitting.{fits_lem, lists_fit}
use Rattle.ap_symbol.specs.Rendering.{rendering}
use Rattle.ap_symbol.specs.declared.symbol.Symbol.{Symbol}
use Rattle.ap_symbol.specs.declared.symbol.Symbol.TheVariants.{Letter, Tag, Blank, Join, Queue, Alarm, Star, At}
use Rattle.ap_stream.specs.UnitBytes.{IsRendered}
use Rattle.ap_compound.specs.Works.{is_unknown, is_starred}

other_both : (b t : Bool) → t ≡ false → (b && t) ≡ false
other_both true t h = h
other_both false t h = refl

pub other_lengths : (a b : List Symbol) → (length a ≡ length b → ⊥) → lists_fit true a b ≡ false
other_lengths [] [] ne = absurd (ne refl)
other_lengths [] (y ∷ b) ne = refl
other_lengths (x ∷ a) [] ne = refl
other_lengths (x ∷ a) (y ∷ b) ne = other_both (fits_lem true x y) (lists_fit true a b)
    (other_lengths a b (λ e. ne (ap suc e)))

-- a reading whose bytes don't begin with * isn't Star followed by the surface
not_starred : (reading surface : List Symbol) →
    ((rest : List ℕ) → rendering reading ≡ 42 ∷ rest → ⊥) → is_starred reading surface ≡ false
not_starred [] surface h = refl
not_starred (Letter c ∷ word) surface h = refl
not_starred (Tag name ∷ word) surface h = refl
not_starred (Blank ∷ word) surface h = refl
not_starred (Join ∷ word) surface h = refl
not_starred (Queue ∷ word) surface h = refl
not_starred (Alarm ∷ word) surface h = refl
not_starred (Star ∷ word) surface h = absurd (h (rendering word) refl)
not_starred (At ∷ word) surface h = refl

second_not : (surface reading : List Symbol) (words : List (List Symbol)) →
    ((rest : List ℕ) → rendering reading ≡ 42 ∷ rest → ⊥) →
    is_unknown (surface ∷ reading ∷ words) ≡ false
second_not surface reading [] h = not_starred reading surface h
second_not surface reading (x ∷ words) h = refl

pub not_unknown : (words : List (List Symbol)) (bytes : List ℕ) → IsRendered words 1 bytes →
    ((rest : List ℕ) → bytes ≡ 42 ∷ rest → ⊥) → is_unknown words ≡ false
not_unknown [] bytes r h = refl
not_unknown (surface ∷ []) bytes r h = refl
not_unknown (surface ∷ reading ∷ words) bytes r h =
    let same : reading ≡ r.word = same_Some reading r.word r.stands in
    second_not surface reading words
    (λ rest e. h rest (r.rendered ∙ ap rendering (sym same) ∙ e))
