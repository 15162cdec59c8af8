use Rattle.std.specs.Prelude.{ℕ, zero, suc, ◌+◌, ◌-◌, Bool, ◌&&◌, nat_lt, ◌==◌, List, [], ◌∷◌, length, take, drop, slice_index, if◌then◌else◌}
use Rattle.std.specs.Str.{chars, encode_utf8_all}
use Rattle.ap_symbol.specs.declared.symbol.Symbol.{Symbol}
use Rattle.ap_symbol.specs.declared.symbol.Symbol.TheVariants.{Letter, Tag, Blank, Join, Queue, Alarm, Star, At}
use Rattle.ap_symbol.specs.TagNames.{is_tag_name, is_reserved_lem}
use Rattle.ap_symbol.specs.Words.{is_white}

-- a character behind `\`: Blank if it is white space, else a letter
abbrev pub escaped_symbol : ℕ → Symbol
escaped_symbol c = if is_white c then Blank else Letter c

-- a bare character: white space is Blank, + # ~ * @ are the marks, and every other one is a letter
abbrev pub bare_symbol : ℕ → Symbol
bare_symbol c =
    if is_white c then Blank
    else if c == 43 then Join
    else if c == 35 then Queue
    else if c == 126 then Alarm
    else if c == 42 then Star
    else if c == 64 then At
    else Letter c

-- how many characters stand before the first that no tag name holds
abbrev pub name_len : List ℕ → ℕ
name_len [] = 0
name_len (c ∷ cs) = if is_reserved_lem c then 0 else name_len cs + 1

-- what may be a tag's name at the head of these characters, in UTF-8
abbrev pub name_at : List ℕ → List ℕ
name_at cs = encode_utf8_all (take (name_len cs) cs)

-- whether the characters begin with a tag name and `>`
abbrev pub begins_with_name : List ℕ → Bool
begins_with_name cs = (slice_index cs (name_len cs) == 62) && is_tag_name (name_at cs)

-- whether they begin with `<`, a tag name and `>`
abbrev pub begins_with_tag : List ℕ → Bool
begins_with_tag cs = (slice_index cs 0 == 60) && begins_with_name (drop 1 cs)

-- whether they begin with `\` and a character behind it
abbrev pub begins_with_escape : List ℕ → Bool
begins_with_escape cs = (slice_index cs 0 == 92) && nat_lt 1 (length cs)

-- the symbol that they begin with
abbrev pub first_symbol : List ℕ → Symbol
first_symbol cs =
    if begins_with_tag cs then Tag (name_at (drop 1 cs))
    else if begins_with_escape cs then escaped_symbol (slice_index cs 1)
    else bare_symbol (slice_index cs 0)

-- and how many of them spell it
abbrev pub first_len : List ℕ → ℕ
first_len cs =
    if begins_with_tag cs then name_len (drop 1 cs) + 2
    else if begins_with_escape cs then 2
    else 1

-- the symbols of these characters, the first `done` of which belong to a symbol before
abbrev pub symbols_after : ℕ → List ℕ → List Symbol
symbols_after done [] = []
symbols_after (suc done) (c ∷ cs) = symbols_after done cs
symbols_after zero (c ∷ cs) = first_symbol (c ∷ cs) ∷ symbols_after (first_len (c ∷ cs) - 1) cs

-- the word that a text spells
abbrev pub text_word_lem : List ℕ → List Symbol
text_word_lem text = symbols_after 0 (chars text)
