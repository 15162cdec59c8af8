use Rattle.std.proofs.Common.{◌≡◌, ℕ, ◌+◌, true, not, ◌&&◌, List, [], ◌∷◌, ◌++◌, refl, sym, ap, ◌∙◌, length, length-append}
use Rattle.std.specs.List.{list_all}
use Rattle.ap_symbol.specs.declared.symbol.Symbol.{Symbol}
use Rattle.ap_symbol.specs.declared.symbol.Symbol.TheVariants.{Letter, Tag, Blank, Join, Queue, Alarm, Star, At}
use Rattle.ap_symbol.specs.declared.recasing.Case.TheVariants.{Low, First, All}
use Rattle.ap_symbol.specs.Case.{lower_lem, upper_lem}
use Rattle.ap_symbol.specs.Words.{is_white, is_proper}
use Rattle.ap_symbol.specs.Rendering.{letter_bytes, symbol_bytes, rendering}
use Rattle.ap_symbol.specs.Recasing.{each_letter, first_letter}
use Rattle.ap_symbol.specs.CaseLaws.{StaysProper, KeepsBytes}
use Rattle.ap_symbol.proofs.Partners.{lower_white, upper_white, lower_bytes, upper_bytes}

-- a change of letters that makes or takes away no white space keeps words proper
each_proper : (f : ℕ → ℕ) → ((c : ℕ) → is_white (f c) ≡ is_white c) → (word : List Symbol) →
    list_all is_proper (each_letter f word) ≡ list_all is_proper word
each_proper f white [] = refl
each_proper f white (Letter c ∷ word) =
    ap (λ b. (not b && true) && list_all is_proper (each_letter f word)) (white c)
    ∙ ap (λ b. is_proper (Letter c) && b) (each_proper f white word)
each_proper f white (Tag name ∷ word) =
    ap (λ b. is_proper (Tag name) && b) (each_proper f white word)
each_proper f white (Blank ∷ word) = ap (λ b. is_proper Blank && b) (each_proper f white word)
each_proper f white (Join ∷ word) = ap (λ b. is_proper Join && b) (each_proper f white word)
each_proper f white (Queue ∷ word) = ap (λ b. is_proper Queue && b) (each_proper f white word)
each_proper f white (Alarm ∷ word) = ap (λ b. is_proper Alarm && b) (each_proper f white word)
each_proper f white (Star ∷ word) = ap (λ b. is_proper Star && b) (each_proper f white word)
each_proper f white (At ∷ word) = ap (λ b. is_proper At && b) (each_proper f white word)

first_proper : (f : ℕ → ℕ) → ((c : ℕ) → is_white (f c) ≡ is_white c) → (word : List Symbol) →
    list_all is_proper (first_letter f word) ≡ list_all is_proper word
first_proper f white [] = refl
first_proper f white (Letter c ∷ word) =
    ap (λ b. (not b && true) && list_all is_proper word) (white c)
first_proper f white (Tag name ∷ word) =
    ap (λ b. is_proper (Tag name) && b) (first_proper f white word)
first_proper f white (Blank ∷ word) = ap (λ b. is_proper Blank && b) (first_proper f white word)
first_proper f white (Join ∷ word) = ap (λ b. is_proper Join && b) (first_proper f white word)
first_proper f white (Queue ∷ word) = ap (λ b. is_proper Queue && b) (first_proper f white word)
first_proper f white (Alarm ∷ word) = ap (λ b. is_proper Alarm && b) (first_proper f white word)
first_proper f white (Star ∷ word) = ap (λ b. is_proper Star && b) (first_proper f white word)
first_proper f white (At ∷ word) = ap (λ b. is_proper At && b) (first_proper f white word)

pub stays_proper : StaysProper
stays_proper Low word h = (h, each_proper lower_lem lower_white word ∙ h)
stays_proper First word h = (
  first_proper upper_lem upper_white word ∙ h,
  first_proper upper_lem upper_white (each_letter lower_lem word)
      ∙ each_proper lower_lem lower_white word ∙ h,
)
stays_proper All word h =
    (each_proper upper_lem upper_white word ∙ h, each_proper upper_lem upper_white word ∙ h)

as_long : (a b c d : List ℕ) → length a ≡ length b → length c ≡ length d →
    length (a ++ c) ≡ length (b ++ d)
as_long a b c d e f = length-append a c ∙ ap (λ n. n + length c) e ∙ ap (λ n. length b + n) f
    ∙ sym (length-append b d)

-- a change of letters that keeps the number of each letter's bytes keeps that of the word's
each_bytes : (f : ℕ → ℕ) → ((c : ℕ) → length (letter_bytes (f c)) ≡ length (letter_bytes c)) →
    (word : List Symbol) → length (rendering (each_letter f word)) ≡ length (rendering word)
each_bytes f same [] = refl
each_bytes f same (Letter c ∷ word) =
    as_long (letter_bytes (f c)) (letter_bytes c) (rendering (each_letter f word)) (rendering word)
    (same c) (each_bytes f same word)
each_bytes f same (Tag name ∷ word) =
    as_long (symbol_bytes (Tag name)) (symbol_bytes (Tag name)) (rendering (each_letter f word))
    (rendering word) refl (each_bytes f same word)
each_bytes f same (Blank ∷ word) =
    as_long (symbol_bytes Blank) (symbol_bytes Blank) (rendering (each_letter f word))
    (rendering word) refl (each_bytes f same word)
each_bytes f same (Join ∷ word) =
    as_long (symbol_bytes Join) (symbol_bytes Join) (rendering (each_letter f word))
    (rendering word) refl (each_bytes f same word)
each_bytes f same (Queue ∷ word) =
    as_long (symbol_bytes Queue) (symbol_bytes Queue) (rendering (each_letter f word))
    (rendering word) refl (each_bytes f same word)
each_bytes f same (Alarm ∷ word) =
    as_long (symbol_bytes Alarm) (symbol_bytes Alarm) (rendering (each_letter f word))
    (rendering word) refl (each_bytes f same word)
each_bytes f same (Star ∷ word) =
    as_long (symbol_bytes Star) (symbol_bytes Star) (rendering (each_letter f word))
    (rendering word) refl (each_bytes f same word)
each_bytes f same (At ∷ word) =
    as_long (symbol_bytes At) (symbol_bytes At) (rendering (each_letter f word)) (rendering word)
    refl (each_bytes f same word)

first_bytes : (f : ℕ → ℕ) → ((c : ℕ) → length (letter_bytes (f c)) ≡ length (letter_bytes c)) →
    (word : List Symbol) → length (rendering (first_letter f word)) ≡ length (rendering word)
first_bytes f same [] = refl
first_bytes f same (Letter c ∷ word) =
    as_long (letter_bytes (f c)) (letter_bytes c) (rendering word) (rendering word) (same c) refl
first_bytes f same (Tag name ∷ word) =
    as_long (symbol_bytes (Tag name)) (symbol_bytes (Tag name)) (rendering (first_letter f word))
    (rendering word) refl (first_bytes f same word)
first_bytes f same (Blank ∷ word) =
    as_long (symbol_bytes Blank) (symbol_bytes Blank) (rendering (first_letter f word))
    (rendering word) refl (first_bytes f same word)
first_bytes f same (Join ∷ word) =
    as_long (symbol_bytes Join) (symbol_bytes Join) (rendering (first_letter f word))
    (rendering word) refl (first_bytes f same word)
first_bytes f same (Queue ∷ word) =
    as_long (symbol_bytes Queue) (symbol_bytes Queue) (rendering (first_letter f word))
    (rendering word) refl (first_bytes f same word)
first_bytes f same (Alarm ∷ word) =
    as_long (symbol_bytes Alarm) (symbol_bytes Alarm) (rendering (first_letter f word))
    (rendering word) refl (first_bytes f same word)
first_bytes f same (Star ∷ word) =
    as_long (symbol_bytes Star) (symbol_bytes Star) (rendering (first_letter f word))
    (rendering word) refl (first_bytes f same word)
first_bytes f same (At ∷ word) =
    as_long (symbol_bytes At) (symbol_bytes At) (rendering (first_letter f word)) (rendering word)
    refl (first_bytes f same word)

pub keeps_bytes : KeepsBytes
keeps_bytes Low word = (refl, each_bytes lower_lem lower_bytes word)
keeps_bytes First word = (
  first_bytes upper_lem upper_bytes word,
  first_bytes upper_lem upper_bytes (each_letter lower_lem word)
      ∙ each_bytes lower_lem lower_bytes word,
)
keeps_bytes All word = (
  each_bytes upper_lem upper_bytes word,
  each_bytes upper_lem upper_bytes word,
)
