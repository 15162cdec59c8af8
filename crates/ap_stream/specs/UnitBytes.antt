-- The words of a unit that was read, told from its bytes.
use Rattle.std.specs.Prelude.{◌≡◌, ℕ, List, [], ◌∷◌, ◌++◌, drop, length, Bool, true, false, Some, None, slice_get, ◌<◌, ◌≤◌, take, IsTrue, suc, cond, eqb, ◌||◌}
use Rattle.std.specs.List.{list_any}
use Rattle.std.specs.String.{string_bytes}
use Rattle.ap_symbol.specs.Words.{is_word_symbol, AreProper}
use Rattle.ap_symbol.specs.Coded.{IsNameText}
use Rattle.ap_symbol.specs.TagNames.{is_reserved_lem}
use Rattle.ap_symbol.specs.Rendering.{rendering}
use Rattle.ap_stream.specs.Types.{Symbol, Dialect}
use Rattle.ap_stream.specs.declared.unit.Held.{Held}
use Rattle.ap_stream.specs.declared.words.Named.{Named}
use Rattle.ap_stream.specs.declared.words.Signed.{Signed}
use Rattle.ap_stream.specs.Dialects.{has_words}
use Rattle.ap_stream.specs.Units.{form_of, Rest, Ends, rest, Runs, Breaks, Stops, name, Sign, Awaits, Bars, Reads, Slash, Dollar, Brace}

-- the bytes are a unit of these words
pub record UnitOf (dialect : Dialect) (held : List ℕ) (words : List (List Symbol)) : Type 0 where
  pub tail : List ℕ
  pub has : has_words dialect ≡ true
  pub begins : held ≡ 94 ∷ tail
  pub on : (x : List ℕ) → rest (form_of dialect) [] [] 0 (tail ++ x) ≡ Ends words (length tail)

abbrev pub ended_words : Rest → List (List Symbol)
ended_words (Ends words n) = words
ended_words other = []

-- the words of the unit that these bytes are
abbrev pub unit_words : Dialect → List ℕ → List (List Symbol)
unit_words dialect bytes = ended_words (rest (form_of dialect) [] [] 0 (drop 1 bytes))

-- whether there is a word at this place, and which
abbrev pub IsAt : List (List Symbol) → ℕ → Bool → List Symbol → Type 0
IsAt words at true word = slice_get words at ≡ Some word
IsAt words at false word = slice_get words at ≡ None

-- what a unit holds

-- the words that it holds, or those that its bytes are
abbrev pub held_words : Held → List (List Symbol)
held_words (Held.Words words) = words
held_words (Held.Bytes dialect bytes) = unit_words dialect bytes.items

-- there is a word, and bytes are those of a unit
abbrev pub IsHeld : Held → Type 0
IsHeld (Held.Words words) = 0 < length words
IsHeld (Held.Bytes dialect bytes) = UnitOf dialect bytes.items (unit_words dialect bytes.items)

-- what the code says of the symbol at the front of a word's bytes
abbrev pub IsName : List ℕ → Named → Type 0
IsName bytes Named.Runs = name 0 bytes ≡ Runs
IsName bytes Named.Breaks = name 0 bytes ≡ Breaks
IsName bytes (Named.Stops text letter) = (n : ℕ) × (string_bytes text ≡ take n bytes)
    × (n < length bytes) × (list_any is_reserved_lem (take n bytes) ≡ false)
    × (name 0 bytes ≡ Stops n letter)

-- the bytes begin with the name of a tag and >
abbrev pub Heads : List ℕ → List ℕ → Type 0
Heads bytes name = ((x : List ℕ) × (bytes ≡ name ++ 62 ∷ x)) × IsNameText name

-- no symbol and no end of a word
abbrev pub Barren : Sign → Type 0
Barren Awaits = Unit {0}
Barren (Bars kind) = Unit {0}
Barren other = ⊥

-- the symbol takes some of so many bytes
abbrev pub Signs : Sign → ℕ → Signed → Type 0
Signs s most (Signed.Reads symbol n) = (s ≡ Reads symbol n) × IsTrue (is_word_symbol symbol)
    × (0 < n) × (n ≤ most)
Signs s most Signed.Slash = s ≡ Slash
Signs s most Signed.Dollar = s ≡ Dollar
Signs s most Signed.Brace = s ≡ Brace
Signs s most Signed.Nothing = Barren s

-- bytes of a word that are as they are written

-- what begins another spelling than the one that is written: a backslash, or white space but the
-- space
abbrev pub is_odd : ℕ → Bool
is_odd b = eqb b 92 || (eqb b 9 || (eqb b 10 || eqb b 13))

-- that, or the / or $ that ends a word
abbrev pub is_stop : ℕ → Bool
is_stop b = eqb b 47 || (eqb b 36 || is_odd b)

-- how many bytes stand before the first of these
unfoldable pub plain_size : List ℕ → ℕ
plain_size [] = 0
plain_size (b ∷ bs) = cond (is_stop b) 0 (suc (plain_size bs))

-- there is a word at this place, and these are its bytes
pub record IsRendered (words : List (List Symbol)) (at : ℕ) (bytes : List ℕ) : Type 0 where
  pub word : List Symbol
  pub stands : slice_get words at ≡ Some word
  pub rendered : bytes ≡ rendering word
  pub proper : AreProper word
