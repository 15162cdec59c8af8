-- How pretransfer takes a word apart (the Apertium stream format). Places are counted from 0.
use Rattle.std.specs.Prelude.{ℕ, ◌+◌, ◌-◌, nat_lt, Bool, true, false, ◌&&◌, List, [], ◌∷◌, ◌++◌, length, take, drop, if◌then◌else◌}
use Rattle.std.specs.List.{filter}
use Rattle.ap_symbol.specs.Kinds.{is_tag, is_join, is_queue, is_marked}
use Rattle.ap_symbol.specs.declared.symbol.Symbol.{Symbol}
use Rattle.ap_passes.specs.Marks.{is_end, until}

-- the symbols from one place up to, and without, another
abbrev pub between : ℕ → ℕ → List Symbol → List Symbol
between from to word = take (to - from) (drop from word)

-- the place of the first tag, and of the first Queue; the word's length where there is none
abbrev pub tag_place : List Symbol → ℕ
tag_place word = until is_tag word

abbrev pub queue_place : List Symbol → ℕ
queue_place word = until is_queue word

-- the invariable part runs from the first Queue to the next tag, the next Join or the end
abbrev pub part_end : List Symbol → ℕ
part_end word = (queue_place word + 1) + until is_end (drop (queue_place word + 1) word)

abbrev pub invariable : List Symbol → List Symbol
invariable word = between (queue_place word) (part_end word) word

-- it is moved where there is one and a tag stands before it
abbrev pub is_moved : List Symbol → Bool
is_moved word = nat_lt (tag_place word) (queue_place word)
    && nat_lt (queue_place word) (length word)

-- then it stands in front of the first tag of the word
abbrev pub moved : List Symbol → List Symbol
moved word =
    if is_moved word then take (tag_place word) word
    ++ (invariable word ++ (between (tag_place word) (queue_place word) word
    ++ drop (part_end word) word))
    else word

-- these symbols in front of the first of the parts
abbrev pub in_front : List Symbol → List (List Symbol) → List (List Symbol)
in_front front [] = front ∷ []
in_front front (part ∷ parts) = (front ++ part) ∷ parts

-- what stands before the first Join, between two Joins, and behind the last one
abbrev pub between_joins : List Symbol → List (List Symbol)
between_joins [] = [] ∷ []
between_joins (x ∷ word) = if is_join x then [] ∷ between_joins word
    else in_front (x ∷ []) (between_joins word)

-- a word is split at each Join that has a tag somewhere before it: what stands before the first tag
-- stays whole
abbrev pub parts : List Symbol → List (List Symbol)
parts word = in_front (take (tag_place word) word) (between_joins (drop (tag_place word) word))

abbrev pub is_filled : List Symbol → Bool
is_filled [] = false
is_filled (x ∷ part) = true

-- The words that pretransfer makes of a word: the invariable part is moved, then the word is split,
-- and empty parts are left out.
unfoldable pub split : List Symbol → List (List Symbol)
split word = if is_marked word then word ∷ [] else filter is_filled (parts (moved word))

-- The parts still to come where one has begun at a place, and further symbols are looked at from
-- another on.
abbrev pub parts_from : ℕ → ℕ → List Symbol → List (List Symbol)
parts_from from at word = in_front (between from at word) (between_joins (drop at word))
