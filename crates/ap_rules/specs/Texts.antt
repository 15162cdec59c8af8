-- What the values of attributes say: numbers, words and tags.
use Rattle.std.specs.Prelude.{ℕ, ◌+◌, ◌-◌, ◌*◌, Bool, not, ◌&&◌, ◌==◌, nat_le, List, [], ◌∷◌, ◌++◌, length, Option, Some, None, codes, if◌then◌else◌}
use Rattle.std.specs.Str.{bytes_eq, encode_utf8_all}
use Rattle.ap_symbol.specs.TagNames.{is_tag_name}
use Rattle.ap_symbol.specs.TextWord.{text_word_lem}
use Rattle.ap_symbol.specs.declared.symbol.Symbol.{Symbol}
use Rattle.ap_symbol.specs.declared.symbol.Symbol.TheVariants.{Tag, Star}

abbrev pub is_digit : ℕ → Bool
is_digit c = nat_le 48 c && nat_le c 57

-- a digit other than zero
abbrev pub is_leading : ℕ → Bool
is_leading c = nat_le 49 c && nat_le c 57

-- the number if the test holds
abbrev pub when_so : Bool → ℕ → Option ℕ
when_so b n = if b then Some n else None

-- The number that a text of one to three digits is in decimal, without a zero in front. A longer
-- one is above each bound that rules have.
abbrev pub decimal : List ℕ → Option ℕ
decimal [] = None
decimal (a ∷ []) = when_so (is_digit a) (a - 48)
decimal (a ∷ b ∷ []) = when_so (is_leading a && is_digit b) ((a - 48) * 10 + (b - 48))
decimal (a ∷ b ∷ c ∷ []) =
    when_so (is_leading a && is_digit b && is_digit c) ((a - 48) * 100 + (b - 48) * 10 + (c - 48))
decimal (a ∷ b ∷ c ∷ d ∷ more) = None

abbrev pub bounded : ℕ → ℕ → Option ℕ → Option ℕ
bounded least most None = None
bounded least most (Some n) = if nat_le least n && nat_le n most then Some n else None

-- the number from `least` to `most` that a value is, where it is given and is one
abbrev pub number_in : ℕ → ℕ → Option (List ℕ) → Option ℕ
number_in least most None = None
number_in least most (Some text) = bounded least most (decimal text)

-- the word that a value spells
abbrev pub word_of : List ℕ → List Symbol
word_of text = text_word_lem (encode_utf8_all text)

-- the tag of this name in UTF-8, if a tag may have it
abbrev pub tag_named : List ℕ → Option Symbol
tag_named name = if is_tag_name name then Some (Tag name) else None

-- a part of tags: a star, where stars may stand, or a tag
abbrev pub tag_symbol : Bool → List ℕ → Option Symbol
tag_symbol stars part = if bytes_eq (codes "*") part then (if stars then Some Star else None)
    else tag_named (encode_utf8_all part)

-- the parts between the dots, of which this one has begun
abbrev pub parts_after : List ℕ → List ℕ → List (List ℕ)
parts_after part [] = part ∷ []
parts_after part (c ∷ cs) = if c == 46 then part ∷ parts_after [] cs
    else parts_after (part ++ c ∷ []) cs

abbrev pub with_symbol : Option Symbol → Option (List Symbol) → Option (List Symbol)
with_symbol None rest = None
with_symbol (Some s) None = None
with_symbol (Some s) (Some ss) = Some (s ∷ ss)

-- the symbols of these parts, if each has one
abbrev pub tag_symbols : Bool → List (List ℕ) → Option (List Symbol)
tag_symbols stars [] = Some []
tag_symbols stars (part ∷ parts) = with_symbol (tag_symbol stars part) (tag_symbols stars parts)

-- the tags of a value, split at its dots; none where the value is empty
abbrev pub tags_of : Bool → List ℕ → Option (List Symbol)
tags_of stars text = if length text == 0 then Some [] else tag_symbols stars (parts_after [] text)

-- the value, or the empty one
abbrev pub given_text : Option (List ℕ) → List ℕ
given_text None = []
given_text (Some text) = text
