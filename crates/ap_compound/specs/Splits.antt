-- Surfaces that are split into parts, and the readings that the parts give.
use Rattle.std.specs.Prelude.{Bool, true, false, ◌&&◌, nat_lt, nat_le, List, [], ◌∷◌, ◌++◌, map, length, if◌then◌else◌}
use Rattle.std.specs.List.{filter, flat_map, list_all}
use Rattle.ap_symbol.specs.declared.symbol.Symbol.{Symbol}
use Rattle.ap_symbol.specs.declared.symbol.Symbol.TheVariants.{Letter, Join}
use Rattle.ap_live.specs.Found.{in_order}
use Rattle.ap_live.specs.Lexicon.{Lexicon}
use Rattle.ap_live.specs.Readings.{carried, any_words}
use Rattle.ap_compound.specs.Tags.{left_tag, right_tag, holds, bare}

-- the right words of the left parts that fit these symbols, of any kind, without the tags of parts
abbrev pub left_parts : Lexicon → List Symbol → List (List Symbol)
left_parts lexicon symbols = map bare (filter (holds left_tag) (any_words lexicon symbols))

-- and of the right parts
abbrev pub right_parts : Lexicon → List Symbol → List (List Symbol)
right_parts lexicon symbols = map bare (filter (holds right_tag) (any_words lexicon symbols))

abbrev pub one_part : List Symbol → List (List Symbol)
one_part word = word ∷ []

-- these splits with a part before each
abbrev pub behind_part : List (List (List Symbol)) → List Symbol → List (List (List Symbol))
behind_part all word = map (λ words. word ∷ words) all

-- All splits of some symbols and those that follow them whose first part holds the former: each is
-- the right words of its parts, left parts and at last a right part. The first part ends here, or it
-- goes on.
unfoldable pub splits : Lexicon → List Symbol → List Symbol → List (List (List Symbol))
splits lexicon begun [] = map one_part (right_parts lexicon begun)
splits lexicon begun (x ∷ rest) = splits lexicon (begun ++ x ∷ []) rest
    ++ flat_map (behind_part (splits lexicon (x ∷ []) rest)) (left_parts lexicon begun)

abbrev pub are_several : List (List Symbol) → Bool
are_several words = nat_lt 1 (length words)

-- all splits of a surface into two parts or more
abbrev pub compounds : Lexicon → List Symbol → List (List (List Symbol))
compounds lexicon [] = []
compounds lexicon (x ∷ surface) = filter are_several (splits lexicon (x ∷ []) surface)

-- those with the fewest parts
abbrev pub fewest : List (List (List Symbol)) → List (List (List Symbol))
fewest all = filter
    (λ words. list_all (λ other. nat_le (length words) (length other)) all) all

-- the words of the parts, joined by Joins
abbrev pub joined_word : List (List Symbol) → List Symbol
joined_word [] = []
joined_word (word ∷ []) = word
joined_word (word ∷ next ∷ words) = word ++ Join ∷ joined_word (next ∷ words)

abbrev pub is_letter : Symbol → Bool
is_letter (Letter c) = true
is_letter _ = false

-- a surface of letters alone, and of no more than 256
abbrev pub may_split : List Symbol → Bool
may_split surface = nat_le (length surface) 256 && list_all is_letter surface

-- The readings of a surface as a compound: over all its splits with the fewest parts, two or more,
-- the words of the parts joined by Joins, each with the surface's case carried to it; in order, each
-- once.
unfoldable pub compound_readings : Lexicon → Bool → List Symbol → List (List Symbol)
compound_readings lexicon sensitive surface =
    if may_split surface then in_order
    (map (carried sensitive surface) (map joined_word (fewest (compounds lexicon surface))))
    else []
