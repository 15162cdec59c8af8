-- The parts of words, and what clips give.
use Rattle.std.specs.Prelude.{ℕ, ◌+◌, ◌-◌, Bool, true, false, not, ◌||◌, ◌&&◌, List, [], ◌∷◌, length, take, drop, map, if◌then◌else◌, nat_lt, slice_get, Option, Some, None}
use Rattle.std.specs.List.{prefix_len}
use Rattle.ap_symbol.specs.Fitting.{fits_lem}
use Rattle.ap_symbol.specs.Kinds.{is_tag, is_queue}
use Rattle.ap_symbol.specs.Recasing.{case_of_lem}
use Rattle.ap_symbol.specs.declared.recasing.Case.{Case}
use Rattle.ap_symbol.specs.declared.symbol.Symbol.{Symbol}
use Rattle.ap_rules.specs.declared.attribute.AttrItem.{AttrItem}
use Rattle.ap_rules.specs.declared.rules.Form.{Form}
use Rattle.ap_rules.specs.declared.rules.Form.TheVariants.{Transfer, Interchunk, Postchunk}
use Rattle.ap_rules.specs.declared.value.Clip.{Clip}
use Rattle.ap_rules.specs.declared.value.ClipPart.{ClipPart}
use Rattle.ap_rules.specs.declared.value.ClipPart.TheVariants.{Lem, Lemh, Lemq, Tags, Whole, Content, Attribute}
use Rattle.ap_rules.specs.declared.value.Side.{Side}
use Rattle.ap_rules.specs.declared.value.Side.TheVariants.{Source, Target}
use Rattle.ap_exec.specs.Units.{Shown, Sight, unit_at}

-- a part of a word: where it begins and how many symbols it has
pub record Span : Type 0 where
  pub start : ℕ
  pub count : ℕ

-- no tag
abbrev pub is_lemma : Symbol → Bool
is_lemma s = not (is_tag s)

-- neither a queue nor a tag
abbrev pub is_head : Symbol → Bool
is_head s = not (is_tag s || is_queue s)

-- the word begins with all of the item
abbrev pub begins_with : List Symbol → List Symbol → Bool
begins_with [] word = true
begins_with (s ∷ more) [] = false
begins_with (s ∷ more) (t ∷ word) = fits_lem true s t && begins_with more word

-- an item fits where the word begins with it; an empty one never does
abbrev pub item_fits : List Symbol → List Symbol → Bool
item_fits [] word = false
item_fits (s ∷ more) word = begins_with (s ∷ more) word

abbrev pub longer : Option ℕ → ℕ → Option ℕ
longer None n = Some n
longer (Some m) n = Some (if nat_lt m n then n else m)

-- the length of the longest item that fits, where one does
abbrev pub longest : Option ℕ → List (List Symbol) → List Symbol → Option ℕ
longest best [] word = best
longest best (item ∷ items) word =
    longest (if item_fits item word then longer best (length item) else best) items word

abbrev pub found : ℕ → Option ℕ → Span → Span
found at None later = later
found at (Some n) later = record { start = at; count = n }

-- the first place at or after which an item fits, and the longest item there
abbrev pub sought : ℕ → List (List Symbol) → List Symbol → Span
sought at items [] = record { start = at; count = 0 }
sought at items (s ∷ word) = found at (longest None items (s ∷ word)) (sought (at + 1) items word)

abbrev pub tags_in : AttrItem → List Symbol
tags_in item = item.tags

abbrev pub items_in : Option (List AttrItem) → List (List Symbol)
items_in None = []
items_in (Some items) = map tags_in items

-- the tag rows of the attribute of this number
abbrev pub items_of : List (List AttrItem) → ℕ → List (List Symbol)
items_of attributes n = items_in (slice_get attributes n)

-- Where a part of a word stands: `lem` before the first tag, `lemh` before the first queue or tag,
-- `lemq` the rest of `lem`, `tags` the run of tags from the first one, `whole` all; an attribute at
-- the first place from the first tag on where an item fits, as long as the longest that fits there.
-- A chunk's content is no part of its name.
abbrev pub span_of : List (List AttrItem) → ClipPart → List Symbol → Span
span_of attributes Lem word = record { start = 0; count = prefix_len is_lemma word }
span_of attributes Lemh word = record { start = 0; count = prefix_len is_head word }
span_of attributes Lemq word =
    record {
      start = prefix_len is_head word;
      count =
          prefix_len is_lemma word - prefix_len is_head word;
    }
span_of attributes Tags word =
    record {
      start = prefix_len is_lemma word;
      count =
          prefix_len is_tag (drop (prefix_len is_lemma word) word);
    }
span_of attributes Whole word = record { start = 0; count = length word }
span_of attributes Content word = record { start = 0; count = 0 }
span_of attributes (Attribute n) word =
    sought (prefix_len is_lemma word) (items_of attributes n) (drop (prefix_len is_lemma word) word)

abbrev pub cut : Span → List Symbol → List Symbol
cut span word = take span.count (drop span.start word)

-- outside of transfer the side is ignored: there is one word
abbrev pub side_in : Form → Side → Side
side_in Transfer side = side
side_in Interchunk side = Target
side_in Postchunk side = Target

-- the word on a side of a unit, with its queue or without
abbrev pub word_on : Side → Bool → Shown → List Symbol
word_on Source queue unit = unit.source
word_on Target true unit = unit.target
word_on Target false unit = take unit.border unit.target

abbrev pub word_of : Side → Bool → Option Shown → List Symbol
word_of side queue None = []
word_of side queue (Some unit) = word_on side queue unit

-- the word at a position, and the empty one where there is no word
abbrev pub word_at : Sight → ℕ → Side → Bool → List Symbol
word_at sight pos side queue =
    word_of (side_in sight.form side) queue (unit_at sight.positions sight.units pos)

-- the part of that word
abbrev pub part_at : Sight → ℕ → ClipPart → Side → Bool → List Symbol
part_at sight pos part side queue =
    cut (span_of sight.attributes part (word_at sight pos side queue))
    (word_at sight pos side queue)

-- in place of a part that isn't empty stands its link, where it has one
abbrev pub linked : Option (List Symbol) → List Symbol → List Symbol
linked None part = part
linked (Some link) [] = []
linked (Some link) (s ∷ part) = link

abbrev pub clip_of : Sight → Clip → List Symbol
clip_of sight c = linked c.link_to (part_at sight c.pos c.part c.side c.queue)

-- the case of the lemma at a position, on the side of the unit itself
abbrev pub case_at : Sight → ℕ → Case
case_at sight pos = case_of_lem (part_at sight pos Lem Source true)
