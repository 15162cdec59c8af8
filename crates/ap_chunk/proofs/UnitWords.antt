-- The word at a place of a unit.
use Rattle.std.specs.Prelude.{◌≡◌, ℕ, suc, zero, Bool, true, false, List, [], ◌∷◌, ◌++◌, drop, Option, Some, None, IfSome, slice_get, refl}
use Rattle.std.proofs.Common.{ap, sym, subst, ◌∙◌}
use Rattle.ap_symbol.specs.declared.symbol.Symbol.{Symbol}
use Rattle.ap_stream.specs.UnitBytes.{IsAt, UnitOf, ended_words}
use Rattle.ap_stream.specs.Units.{form_of, rest}
use Rattle.ap_stream.specs.declared.dialect.Dialect.{Dialect}
use Rattle.ap_stream.specs.declared.dialect.Dialect.TheVariants.{Bilingual}
use Rattle.ap_chunk.specs.Known.{IsRowed}
use Rattle.ap_chunk.specs.declared.known.Known.{Known}
use Rattle.ap_chunk.specs.Parts.{word_of}
use Rattle.ap_chunk.specs.Translations.{IsOf, IsTranslation}

there : (words : List (List Symbol)) (at : ℕ) (word : List Symbol) →
    slice_get words at ≡ Some word → word ≡ word_of at words
there [] at word e = absurd (cc)
there (w ∷ words) zero word e = cc
there (w ∷ words) (suc at) word e = there words at word e

nowhere : (words : List (List Symbol)) (at : ℕ) → slice_get words at ≡ None → [] ≡ word_of at words
nowhere [] at e = refl
nowhere (w ∷ words) zero e = absurd (cc)
nowhere (w ∷ words) (suc at) e = nowhere words at e

pub word_there : (words : List (List Symbol)) (at : ℕ) (found : Bool) (word : List Symbol) →
    found ≡ true → IsAt words at found word → word ≡ word_of at words
word_there words at true word e is = there words at word is
word_there words at false word e is = absurd (cc)

pub word_nowhere : (words : List (List Symbol)) (at : ℕ) (found : Bool) (word : List Symbol) →
    found ≡ false → IsAt words at found word → [] ≡ word_of at words
word_nowhere words at true word e is = absurd (cc)
word_nowhere words at false word e is = nowhere words at is

-- units of a dialect with the same bytes have the same words
pub one_unit : (d : Dialect) (key : List ℕ) (a b : List (List Symbol)) → UnitOf d key a →
    UnitOf d key b → a ≡ b
one_unit d key a b u v =
    let tails : u.tail ≡ v.tail = ap (drop 1) (sym u.begins ∙ v.begins) in
    sym (ap ended_words (u.on []))
    ∙ ap (λ (tail : List ℕ). ended_words (rest (form_of d) [] [] 0 (tail ++ []))) tails
    ∙ ap ended_words (v.on [])

-- what was found by the bytes of a unit was kept for them
pub found_unit : {W : Type 0} (seen : W → Known) (key : List ℕ) (words : List (List Symbol)) →
    IsOf key words → (r : Option W) → IfSome r (λ w. (seen w).unit ≡ key) →
    IfSome r (λ w. IsOf (seen w).unit words)
found_unit seen key words of (Some w) keyed = subst (λ (k : List ℕ). IsOf k words) (sym keyed) of
found_unit seen key words of None keyed = tt

-- and has the row of its first word
pub found_row : {W : Type 0} (seen : W → Known) (given : List Symbol → List Bool) (key : List ℕ)
    (words : List (List Symbol)) → IsOf key words → (r : Option W) →
    IfSome r (λ w. (seen w).unit ≡ key) → IfSome r (λ w. IsRowed given (seen w)) →
    IfSome r (λ w. (seen w).row.items ≡ given (word_of 0 words))
found_row seen given key words of (Some w) keyed rowed =
    rowed words (subst (λ (k : List ℕ). IsOf k words) (sym keyed) of)
found_row seen given key words of None keyed rowed = tt

-- what is known of one unit with these bytes is known of all
pub is_translation : (key : List ℕ) (source target : List Symbol) (words : List (List Symbol)) →
    IsOf key words → source ≡ word_of 0 words → target ≡ word_of 1 words →
    IsTranslation key source target
is_translation key source target words of first second = λ others is.
    let same : words ≡ others = one_unit Bilingual key words others of is in
    (first ∙ ap (word_of 0) same, second ∙ ap (word_of 1) same)

pub is_rowed : (given : List Symbol → List Bool) (known : Known) (words : List (List Symbol)) →
    IsOf known.unit words → known.row.items ≡ given (word_of 0 words) → IsRowed given known
is_rowed given known words of row = λ others is.
    row ∙ ap (λ (w : List (List Symbol)). given (word_of 0 w))
    (one_unit Bilingual known.unit words others of is)
