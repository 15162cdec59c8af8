use Rattle.std.specs.Prelude.{ℕ, Bool, true, false, ◌||◌, ◌&&◌, if◌then◌else◌, List, [], ◌∷◌, ◌++◌, Option, Some, None, map, codes, get_or}
use Rattle.std.specs.Option.{option_to_list}
use Rattle.std.specs.List.{flat_map}
use Rattle.std.specs.Str.{encode_utf8_all}
use Rattle.ap_symbol.specs.Rendering.{rendering}
use Rattle.ap_dix.specs.declared.dictionary.Dictionary.{Dictionary}
use Rattle.ap_dix.specs.declared.dictionary.Entry.{Entry}
use Rattle.ap_dix.specs.declared.dictionary.EntryPart.{EntryPart}
use Rattle.ap_dix.specs.declared.dictionary.EntryPart.TheVariants.{Identity, Pair, Paradigm, Expression}
use Rattle.ap_dix.specs.declared.dictionary.Pardef.{Pardef}
use Rattle.ap_dix.specs.declared.dictionary.Section.{Section}
use Rattle.ap_dix.specs.declared.dictionary.Side.{Side}
use Rattle.ap_dix.specs.declared.dictionary.Side.TheVariants.{Both, LrOnly, RlOnly}

-- A way through an entry and the paradigms that it takes in: the rendered left word and right word,
-- and whether an entry that is kept from left to right alone was used, and one that is kept from
-- right to left alone.
pub record Way : Type 0 where
  pub left : List ℕ
  pub right : List ℕ
  pub lr : Bool
  pub rl : Bool

abbrev pub words : List ℕ → List ℕ → Way
words left right = record { left = left; right = right; lr = false; rl = false }

-- the one way and then the other
abbrev pub joined : Way → Way → Way
joined a b = record {
  left = a.left ++ b.left;
  right = a.right ++ b.right;
  lr = a.lr || b.lr;
  rl =
      a.rl || b.rl;
}

-- each way of the first list with each of the second, the first varying slowest
abbrev pub all_joined : List Way → List Way → List Way
all_joined firsts seconds = flat_map (λ a. map (joined a) seconds) firsts

-- what stands for an expression: `__REGEXP__` and its text, as it is
abbrev pub expression_bytes : List ℕ → List ℕ
expression_bytes text = codes "__REGEXP__" ++ encode_utf8_all text

-- the ways of a part; the lists are those of the paradigms, by their numbers
abbrev pub part_ways : List (List Way) → EntryPart → List Way
part_ways above (Identity word) = words (rendering word) (rendering word) ∷ []
part_ways above (Pair left right) = words (rendering left) (rendering right) ∷ []
part_ways above (Paradigm n) = get_or above n []
part_ways above (Expression e text) = words (expression_bytes text) (expression_bytes text) ∷ []

-- the ways of an entry's parts, the leftmost varying slowest
abbrev pub parts_ways : List (List Way) → List EntryPart → List Way
parts_ways above [] = words [] [] ∷ []
parts_ways above (part ∷ parts) = all_joined (part_ways above part) (parts_ways above parts)

-- what the use of an entry of that side adds to a way
abbrev pub side_way : Side → Way
side_way Both = words [] []
side_way LrOnly = record { left = []; right = []; lr = true; rl = false }
side_way RlOnly = record { left = []; right = []; lr = false; rl = true }

-- the ways of an entry: none where it is ignored
abbrev pub entry_ways : List (List Way) → Entry → List Way
entry_ways above entry = if entry.ignored then []
    else map (joined (side_way entry.side)) (parts_ways above entry.parts)

-- the ways of some entries, in order
abbrev pub entries_ways : List (List Way) → List Entry → List Way
entries_ways above entries = flat_map (entry_ways above) entries

-- The ways of the paradigms, those of the ones above being given: a paradigm names paradigms above
-- it only.
abbrev pub pardefs_ways : List (List Way) → List Pardef → List (List Way)
pardefs_ways above [] = above
pardefs_ways above (pardef ∷ pardefs) =
    pardefs_ways (above ++ entries_ways above pardef.entries ∷ []) pardefs

-- the ways of the entries of the sections, in the order of the document
abbrev pub dictionary_ways : Dictionary → List Way
dictionary_ways d = flat_map
    (λ (section : Section). entries_ways (pardefs_ways [] d.pardefs) section.entries) d.sections

-- what stands between the words of a line
abbrev pub mark_of : Bool → Bool → List ℕ
mark_of lr rl = if lr then codes ":>:" else (if rl then codes ":<:" else codes ":")

-- A way's line: its words with a mark between them, or no line where entries of both sides were
-- used.
abbrev pub way_line : Way → Option (List ℕ)
way_line way = if way.lr && way.rl then None
    else Some (way.left ++ mark_of way.lr way.rl ++ way.right)

-- the lines of a dictionary, in order
abbrev pub lines : Dictionary → List (List ℕ)
lines d = flat_map (λ way. option_to_list (way_line way)) (dictionary_ways d)
