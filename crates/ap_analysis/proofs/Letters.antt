-- Runs that hold a test, and items that are alphabetic characters.
use Rattle.std.specs.Prelude.{◌≡◌, ℕ, suc, zero, ◌<◌, ◌≤◌, Bool, true, false, List, [], ◌∷◌, length, take, IsTrue, ◌↔◌, ◌==◌, Some}
use Rattle.std.specs.List.{list_all, list_any, prefix_len}
use Rattle.std.proofs.Common.{refl, ap, sym, ◌∙◌, arith, get_or, inl, inr}
use Rattle.std.proofs.lemmas.Bool.{and_parts}
use Rattle.std.proofs.lemmas.Bool.Decides.{nat_tests}
use Rattle.ap_symbol.specs.Alphabet.{has_letter}
use Rattle.ap_symbol.specs.Lists.{IsIn}
use Rattle.ap_symbol.specs.Words.{is_white}
use Rattle.ap_fst.specs.Sections.{Parts}
use Rattle.ap_stream.specs.declared.item.Character.{Character}
use Rattle.ap_stream.specs.declared.item.Item.{Item}
use Rattle.ap_stream.specs.declared.item.Item.TheVariants.{Plain}
use Rattle.ap_stream.specs.declared.item.Read.{Read}
use Rattle.ap_live.specs.Lexicon.{lexicon_of}
use Rattle.ap_live.proofs.Finding.{same_answer}
use Rattle.ap_live.proofs.Spreading.{in_from_any}
use Rattle.ap_analysis.specs.Endings.{is_ending, ending_symbol}
use Rattle.ap_analysis.specs.Items.{symbol_of}
use Rattle.ap_analysis.specs.Licence.{is_letter_symbol, is_alphabetic}

-- a run that ends
pub letters_end : {X : Type 0} (p : X → Bool) (xs : List X) (i : ℕ) (x : X) → i < length xs →
    x ≡ get_or xs i x → p x ≡ false → list_all p (take i xs) ≡ true → i ≡ prefix_len p xs
letters_end p [] i x lt is h all = absurd (omega arith)
letters_end p (y ∷ xs) zero x lt is h all = let e : p y ≡ false = ap p (sym is) ∙ h in rw e refl
letters_end p (y ∷ xs) (suc i) x lt is h all =
    let both = and_parts (p y) (list_all p (take i xs)) all in
    let rest = letters_end p xs i x (omega arith) is h both.1 in
    rw both.0 (omega (arith, rest))

-- a run of all
pub letters_whole : {X : Type 0} (p : X → Bool) (xs : List X) (i : ℕ) → length xs ≤ i →
    i ≤ length xs → list_all p (take i xs) ≡ true → i ≡ prefix_len p xs
letters_whole p [] i lt le all = omega arith
letters_whole p (y ∷ xs) zero lt le all = absurd (omega arith)
letters_whole p (y ∷ xs) (suc i) lt le all =
    let both = and_parts (p y) (list_all p (take i xs)) all in
    let rest = letters_whole p xs i (omega arith) (omega arith) both.1 in
    rw both.0 (omega (arith, rest))

any_from : (letters : List ℕ) (c : ℕ) → IsIn c letters → list_any (λ a. a == c) letters ≡ true
any_from [] c i = absurd i
any_from (a ∷ letters) c (inl e) = grind (arith, nat_tests)
any_from (a ∷ letters) c (inr i) = let k : list_any (λ a. a == c) letters ≡ true =
    any_from letters c i in grind (arith, nat_tests)

-- the item is an alphabetic character
module _ (p : Parts) (sensitive : Bool) (read : Read) (character : Character)
    (e : read.item ≡ Plain character) where
  at_item : is_alphabetic (lexicon_of p sensitive) read
      ≡ is_letter_symbol (lexicon_of p sensitive) (symbol_of (Plain character))
  at_item = ap (λ (i : Item). is_letter_symbol (lexicon_of p sensitive) (symbol_of i)) e

  pub plain_letter : (answer : Bool) → is_white character.letter ≡ false →
      IsTrue answer ↔ IsIn character.letter p.alphabet →
      answer ≡ is_alphabetic (lexicon_of p sensitive) read
  plain_letter answer w h =
      let c : ℕ = character.letter in
      let s : is_letter_symbol (lexicon_of p sensitive) (symbol_of (Plain character))
      ≡ has_letter p.alphabet c = rw w refl in
      same_answer answer (has_letter p.alphabet c) (IsIn c p.alphabet) h (
        in_from_any c p.alphabet,
        any_from p.alphabet c,
      ) ∙ sym (at_item ∙ s)

  pub plain_white : is_white character.letter ≡ true →
      false ≡ is_alphabetic (lexicon_of p sensitive) read
  plain_white w =
      let s : is_letter_symbol (lexicon_of p sensitive) (symbol_of (Plain character)) ≡ false =
      rw w refl in sym (at_item ∙ s)

-- Endings that are not among the letters are no alphabetic characters.
pub not_listed : (letters : List ℕ) (c : ℕ) (answer : Bool) → IsTrue answer ↔ IsIn c letters →
    answer ≡ false → has_letter letters c ≡ false
not_listed letters c answer h e =
    sym (same_answer answer (has_letter letters c) (IsIn c letters) h
    (in_from_any c letters, any_from letters c)) ∙ e

module _ (p : Parts) (sensitive : Bool) (stop : has_letter p.alphabet 46 ≡ false)
    (comma : has_letter p.alphabet 44 ≡ false) (b : ℕ) (ending : is_ending b ≡ true) where
  listed : (t : Bool) → (b == 46) ≡ t → is_white b ≡ false → has_letter p.alphabet b ≡ false
  listed true e w = let n : b ≡ 46 = grind (arith, nat_tests) in ap (has_letter p.alphabet) n ∙ stop
  listed false e w =
      let n : b ≡ 44 = grind (arith, nat_tests) in ap (has_letter p.alphabet) n ∙ comma

  by_white : (t : Bool) → is_white b ≡ t →
      is_letter_symbol (lexicon_of p sensitive) (Some (ending_symbol b)) ≡ false
  by_white true w = rw w refl
  by_white false w = rw w (listed (b == 46) refl w)

  pub plain_ending : is_letter_symbol (lexicon_of p sensitive) (Some (ending_symbol b)) ≡ false
  plain_ending = by_white (is_white b) refl
