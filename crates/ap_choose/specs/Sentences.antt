-- Sentences of analysed items, and what is written of them.
use Rattle.std.specs.Prelude.{ℕ, zero, suc, nat_lt, Bool, true, false, not, min, List, [], ◌∷◌, ◌++◌, length, take, drop, slice_index_or, if◌then◌else◌}
use Rattle.std.specs.List.{flat_map, list_any, prefix_len}
use Rattle.std.specs.Str.{bytes_eq}
use Rattle.ap_symbol.specs.declared.symbol.Symbol.{Symbol}
use Rattle.ap_symbol.specs.declared.symbol.Symbol.TheVariants.{Tag}
use Rattle.ap_stream.specs.Limits.{span_max}
use Rattle.ap_stream.specs.Reading.{reads}
use Rattle.ap_stream.specs.Rest.{worked}
use Rattle.ap_stream.specs.Spelling.{spelled}
use Rattle.ap_stream.specs.Steps.{Step, Gives, Stops, steps, bytes_of}
use Rattle.ap_stream.specs.Told.{Told, Ending}
use Rattle.ap_stream.specs.declared.dialect.Dialect.TheVariants.{Analysed}
use Rattle.ap_stream.specs.declared.fault.LimitKind.TheVariants.{SpanTooLong}
use Rattle.ap_stream.specs.declared.item.Item.{Item}
use Rattle.ap_stream.specs.declared.item.Item.TheVariants.{Plain, Blank, Unit, Chunk}
use Rattle.ap_stream.specs.declared.item.Read.{Read}
use Rattle.ap_passes.specs.Passes.{filled_one}
use Rattle.ap_choose.specs.declared.forbidden.Pair.{Pair}
use Rattle.ap_choose.specs.Choice.{Reading, numbered, chosen_places}

-- the readings of a unit, by its words: all but the surface
abbrev pub readings : List (List Symbol) → List (List Symbol)
readings words = drop 1 words

abbrev pub reading_at : List (List Symbol) → ℕ → List Symbol
reading_at words place = slice_index_or (readings words) place []

abbrev pub is_unit : Item → Bool
is_unit (Plain c) = false
is_unit (Blank bytes) = false
is_unit (Unit words) = true
is_unit (Chunk c) = false

abbrev pub unit_of : Item → List (List Reading)
unit_of (Plain c) = []
unit_of (Blank bytes) = []
unit_of (Unit words) = numbered 0 (readings words) ∷ []
unit_of (Chunk c) = []

-- the units among the items, as their readings
abbrev pub units : List Read → List (List Reading)
units items = flat_map (λ read. unit_of read.item) items

-- the tag `sent`
abbrev pub is_sent : Symbol → Bool
is_sent (Tag name) = bytes_eq name (115 ∷ 101 ∷ 110 ∷ 116 ∷ [])
is_sent _ = false

-- a unit whose first reading holds the tag `sent`
abbrev pub is_last : Item → Bool
is_last (Plain c) = false
is_last (Blank bytes) = false
is_last (Unit words) = list_any is_sent (reading_at words 0)
is_last (Chunk c) = false

-- how many items stand before the first such unit: all, where there is none
abbrev pub sent_place : List Read → ℕ
sent_place items = prefix_len (λ read. not (is_last read.item)) items

-- how many items stand before the unit of this number, counted from 0: all, where there are fewer
-- units
abbrev pub unit_place : ℕ → List Read → ℕ
unit_place n [] = 0
unit_place zero (read ∷ items) = if is_unit read.item then 0 else suc (unit_place zero items)
unit_place (suc n) (read ∷ items) =
    suc (if is_unit read.item then unit_place n items else unit_place (suc n) items)

-- The sentence at the front: up to and including the first unit whose first reading holds the tag
-- `sent`, the 1,000th
-- unit, or the end, whichever comes first.
unfoldable pub sentence_length : List Read → ℕ
sentence_length items = min (suc (sent_place items)) (min (suc (unit_place 999 items))
    (length items))

abbrev pub begins_unit : List Read → Bool
begins_unit [] = false
begins_unit (read ∷ items) = is_unit read.item

-- a unit as its reading at the first of the places, and not at all where that is empty; every other
-- item as it is spelled
abbrev pub unit_part : List (List Symbol) → List ℕ → List ℕ
unit_part words [] = []
unit_part words (place ∷ places) = filled_one (reading_at words place)

abbrev pub part : Item → List ℕ → List ℕ
part (Plain c) places = spelled (Plain c)
part (Blank bytes) places = bytes
part (Unit words) places = unit_part words places
part (Chunk c) places = spelled (Chunk c)

-- the places that are left for the items behind
abbrev pub left : Item → List ℕ → List ℕ
left thing places = if is_unit thing then drop 1 places else places

-- items, where the units are written as their readings at these places in turn
abbrev pub written : List Read → List ℕ → List ℕ
written [] places = []
written (read ∷ items) places = part read.item places ++ written items (left read.item places)

abbrev pub sentence_text : List Pair → List Read → List ℕ
sentence_text pairs items = written items (chosen_places pairs (units items))

-- a sentence of so many items is written whole, unless it has too many bytes
abbrev pub sentence_step : List Pair → List Read → ℕ → Step
sentence_step pairs items n =
    if nat_lt span_max (bytes_of (take n items)) then Stops SpanTooLong else Gives n
    (sentence_text pairs (take n items))

-- the first item as it is spelled
abbrev pub first_spelled : List Read → List ℕ
first_spelled items = flat_map (λ read. spelled read.item) (take 1 items)

abbrev pub copied : List Read → Step
copied items = Gives 1 (first_spelled items)

-- the first step: a sentence begins at a unit, and every other item before it is copied
unfoldable pub choose_step : List Pair → List Read → Step
choose_step pairs items = if begins_unit items then sentence_step pairs items
    (sentence_length items) else copied items

-- the items of a text, step by step
abbrev pub chosen : List Pair → List Read → Told
chosen pairs items = steps (choose_step pairs) 0 items

abbrev pub chosen_text : List Pair → List ℕ → Ending → Told
chosen_text pairs text ending = worked (chosen pairs) (reads Analysed 0 text) ending
