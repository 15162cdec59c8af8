-- Where it doesn't matter which of a few items comes behind a word.
use Rattle.std.specs.Prelude.{◌≡◌, ◌⊎◌, ℕ, ◌<◌, Bool, true, false, ◌||◌, ◌==◌, List, [], ◌∷◌, ◌++◌, drop, Some, if◌then◌else◌}
use Rattle.ap_symbol.specs.Words.{is_white}
use Rattle.ap_symbol.specs.declared.symbol.Symbol.{Symbol}
use Rattle.ap_symbol.specs.declared.symbol.Symbol.TheVariants as symbol
use Rattle.ap_stream.specs.declared.item.Read.{Read}
use Rattle.ap_live.specs.Lexicon.{Lexicon}
use Rattle.ap_analysis.specs.Licence.{is_letter_symbol, begins_alphabetic, surface, viable_length}

-- a byte that often comes behind a word: white space, a full stop or a comma
abbrev pub is_ending : ℕ → Bool
is_ending b = is_white b || (b == 46 || b == 44)

-- such a byte as an input symbol
abbrev pub ending_symbol : ℕ → Symbol
ending_symbol b = if is_white b then symbol.Blank else symbol.Letter b

-- The ending is no alphabetic character, and no left word goes on by it behind the first so many
-- items, if any goes on there at all.
pub record EndsThere (lexicon : Lexicon) (reads : List Read) (n b : ℕ) : Type 0 where
  pub plain : is_letter_symbol lexicon (Some (ending_symbol b)) ≡ false
  pub dead : (viable_length lexicon reads < n)
      ⊎ (lexicon.viable (surface reads n ++ ending_symbol b ∷ []) ≡ false)

-- Behind the first so many items comes no alphabetic character, and any of the endings would end
-- there too.
pub record IsOpen (lexicon : Lexicon) (reads : List Read) (n : ℕ) : Type 0 where
  pub here : begins_alphabetic lexicon (drop n reads) ≡ false
  pub ends : (b : ℕ) → is_ending b ≡ true → EndsThere lexicon reads n b
