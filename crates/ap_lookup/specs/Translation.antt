-- The translation of a word by a bilingual dictionary.
use Rattle.std.specs.Prelude.{ℕ, suc, Bool, nat_lt, List, [], ◌∷◌, take, drop, if◌then◌else◌}
use Rattle.ap_symbol.specs.Kinds.{is_tag, is_marked}
use Rattle.ap_symbol.specs.declared.symbol.Symbol.{Symbol}
use Rattle.ap_live.specs.Lexicon.{Lexicon}
use Rattle.ap_live.specs.Readings.{carried_words}
use Rattle.ap_lookup.specs.Matching.{is_match, longest_match}

-- how many symbols stand before the first tag
abbrev pub lemma_length : List Symbol → ℕ
lemma_length [] = 0
lemma_length (x ∷ word) = if is_tag x then 0 else suc (lemma_length word)

-- the lemma of a word: what stands before its first tag
abbrev pub lemma : List Symbol → List Symbol
lemma word = take (lemma_length word) word

-- the right words of any kind whose left word fits these symbols, with the lemma's case, in order,
-- each once
abbrev pub forms_of : Lexicon → Bool → List Symbol → List Symbol → List (List Symbol)
forms_of lexicon sensitive word symbols = carried_words lexicon sensitive (lemma word) symbols

-- the first n symbols hold the whole lemma and fit a left word
abbrev pub is_prefix : Lexicon → List Symbol → ℕ → Bool
is_prefix lexicon word n = is_match lexicon (lemma_length word) word n

-- the length of the longest such prefix, or 0
abbrev pub prefix : Lexicon → List Symbol → ℕ
prefix lexicon word = longest_match lexicon (lemma_length word) word

-- the heads, and the symbols left over
pub record Translated : Type 0 where
  pub heads : List (List Symbol)
  pub left : List Symbol

-- the first n symbols are taken: their right words, and what follows them
abbrev pub taken : Lexicon → Bool → List Symbol → ℕ → Translated
taken lexicon sensitive word n =
    record { heads = forms_of lexicon sensitive word (take n word); left = drop n word }

-- no prefix is taken: there is no head, and the whole word is left
abbrev pub untaken : List Symbol → Translated
untaken word = record { heads = []; left = word }

abbrev pub translated_at : Lexicon → Bool → List Symbol → ℕ → Translated
translated_at lexicon sensitive word n = if nat_lt 0 n then taken lexicon sensitive word n
    else untaken word

-- the longest prefix is taken, if there is one; of a word that begins with * or @ none is
unfoldable pub translation : Lexicon → Bool → List Symbol → Translated
translation lexicon sensitive word = if is_marked word then untaken word
    else translated_at lexicon sensitive word (prefix lexicon word)
