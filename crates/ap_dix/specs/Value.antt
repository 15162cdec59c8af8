-- The dictionary that a tree spells, in the format of Apertium's dictionaries.
use Rattle.std.specs.Prelude.{ℕ, Bool, false, not, List, [], ◌∷◌, ◌++◌, filter, Option, Some, None, codes, if◌then◌else◌}
use Rattle.std.specs.Option.{option_map, option_to_list}
use Rattle.std.specs.Str.{bytes_eq}
use Rattle.ap_symbol.specs.Words.{is_white}
use Rattle.ap_markup.specs.Tree.{Tag, Parts, Done, Run, Element}
use Rattle.ap_dix.specs.Machines.{expression}
use Rattle.ap_markup.specs.NameLists.{with_name, number_of}
use Rattle.ap_markup.specs.Said.{value_of, name_of, is_named, child}
use Rattle.ap_dix.specs.WordText.{symbols, texts}
use Rattle.ap_dix.specs.declared.dictionary.Dictionary.{Dictionary}
use Rattle.ap_dix.specs.declared.dictionary.Entry.{Entry}
use Rattle.ap_dix.specs.declared.dictionary.EntryPart.{EntryPart}
use Rattle.ap_dix.specs.declared.dictionary.EntryPart.TheVariants.{Identity, Pair, Paradigm, Expression}
use Rattle.ap_dix.specs.declared.dictionary.Kind.{Kind}
use Rattle.ap_dix.specs.declared.dictionary.Kind.TheVariants.{Standard, Inconditional, Postblank, Preblank}
use Rattle.ap_dix.specs.declared.dictionary.Pardef.{Pardef}
use Rattle.ap_dix.specs.declared.dictionary.Section.{Section}
use Rattle.ap_dix.specs.declared.dictionary.Side.{Side}
use Rattle.ap_dix.specs.declared.dictionary.Side.TheVariants.{Both, LrOnly, RlOnly}

-- the expression that the text of `re` is
abbrev pub expression_part : List ℕ → Option EntryPart
expression_part text = option_map (λ e. Expression e text) (expression text)

-- an element of an entry, where the paradigms of these names stand above: the word of `i`, the two
-- words of `p`, the number of the paradigm that `par` names, or the expression of `re`
abbrev pub entry_part : List (List ℕ) → Tag → Parts → Option EntryPart
entry_part names tag kids =
    if is_named (codes "i") tag then Some (Identity (symbols kids))
    else if is_named (codes "p") tag
    then Some (Pair (symbols (child (codes "l") kids)) (symbols (child (codes "r") kids)))
    else if is_named (codes "par") tag
    then option_map Paradigm (number_of names (name_of tag.attributes))
    else if is_named (codes "re") tag then expression_part (texts kids)
    else None

unfoldable pub entry_parts : List (List ℕ) → Parts → List EntryPart
entry_parts names Done = []
entry_parts names (Run text at more) = entry_parts names more
entry_parts names (Element tag kids more) = option_to_list (entry_part names tag kids)
    ++ entry_parts names more

-- the directions that `r` leaves
abbrev pub side_of : Option (List ℕ) → Side
side_of None = Both
side_of (Some value) = if bytes_eq (codes "LR") value then LrOnly
    else if bytes_eq (codes "RL") value then RlOnly else Both

-- `i="yes"` ignores an entry
abbrev pub is_yes : Option (List ℕ) → Bool
is_yes None = false
is_yes (Some value) = bytes_eq (codes "yes") value

abbrev pub entry : List (List ℕ) → Tag → Parts → Entry
entry names tag kids = record {
  line = tag.line;
  side = side_of (value_of (codes "r") tag.attributes);
  ignored = is_yes (value_of (codes "i") tag.attributes);
  parts = entry_parts names kids;
}

-- the entries among the parts of a paradigm or a section
unfoldable pub entries : List (List ℕ) → Parts → List Entry
entries names Done = []
entries names (Run text at more) = entries names more
entries names (Element tag kids more) = if is_named (codes "e") tag then entry names tag kids
    ∷ entries names more else entries names more

abbrev pub pardef : List (List ℕ) → Tag → Parts → Pardef
pardef names tag kids = record { name = name_of tag.attributes; entries = entries names kids }

-- the paradigms, each with the names of those above it
unfoldable pub pardefs : List (List ℕ) → Parts → List Pardef
pardefs names Done = []
pardefs names (Run text at more) = pardefs names more
pardefs names (Element tag kids more) = if is_named (codes "pardef") tag then pardef names tag kids
    ∷ pardefs (with_name names (name_of tag.attributes)) more else pardefs names more

-- the names with those of further paradigms
unfoldable pub names_with : List (List ℕ) → Parts → List (List ℕ)
names_with names Done = names
names_with names (Run text at more) = names_with names more
names_with names (Element tag kids more) = if is_named (codes "pardef") tag
    then names_with (with_name names (name_of tag.attributes)) more else names_with names more

abbrev pub kind_of : Option (List ℕ) → Kind
kind_of None = Standard
kind_of (Some value) =
    if bytes_eq (codes "inconditional") value then Inconditional
    else if bytes_eq (codes "postblank") value then Postblank
    else if bytes_eq (codes "preblank") value then Preblank
    else Standard

abbrev pub section : List (List ℕ) → Tag → Parts → Section
section names tag kids =
    record { kind = kind_of (value_of (codes "type") tag.attributes); entries = entries names kids }

unfoldable pub sections : List (List ℕ) → Parts → List Section
sections names Done = []
sections names (Run text at more) = sections names more
sections names (Element tag kids more) = if is_named (codes "section") tag
    then section names tag kids ∷ sections names more else sections names more

-- the characters of the alphabet other than white space
unfoldable pub alphabet : Parts → List ℕ
alphabet Done = []
alphabet (Run text at more) = filter (λ c. not (is_white c)) text ++ alphabet more
alphabet (Element tag kids more) = alphabet more

-- the dictionary whose root has these parts
abbrev pub dictionary : Parts → Dictionary
dictionary kids = record {
  alphabet = alphabet (child (codes "alphabet") kids);
  pardefs = pardefs [] (child (codes "pardefs") kids);
  sections = sections (names_with [] (child (codes "pardefs") kids)) kids;
}
