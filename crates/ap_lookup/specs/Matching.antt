-- How far symbols go on in a lexicon, and the longest front of them that fits a left word of any
-- kind.
use Rattle.std.specs.Prelude.{ℕ, Bool, nat_le, ◌&&◌, List, length, take}
use Rattle.ap_symbol.specs.declared.symbol.Symbol.{Symbol}
use Rattle.ap_live.specs.Found.{has_words}
use Rattle.ap_live.specs.Greatest.{greatest}
use Rattle.ap_live.specs.Lexicon.{Lexicon}
use Rattle.ap_live.specs.Readings.{any_words}

-- the first n symbols, at least so many, fit a left word
abbrev pub is_match : Lexicon → ℕ → List Symbol → ℕ → Bool
is_match lexicon least symbols n = nat_le least n && has_words (any_words lexicon (take n symbols))

-- the greatest number of symbols, at least so many, that fit a left word, or 0
abbrev pub longest_match : Lexicon → ℕ → List Symbol → ℕ
longest_match lexicon least symbols = greatest (is_match lexicon least symbols) (length symbols)

-- the greatest number of symbols that fit a beginning of a left word
unfoldable pub fitting : Lexicon → List Symbol → ℕ
fitting lexicon symbols = greatest (λ n. lexicon.viable (take n symbols)) (length symbols)
