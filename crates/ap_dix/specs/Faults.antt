-- What the code is proved to compute of the faults of a dictionary's names, weights and extensions:
-- the first start tag that has one. Each fault has its sentence in `Mistakes`, and the laws tie the
-- two.
use Rattle.std.specs.Prelude.{ℕ, Bool, not, ◌&&◌, ◌||◌, List, [], Option, Some, None, is_some, codes, if◌then◌else◌}
use Rattle.ap_markup.specs.Pieces.{Pair}
use Rattle.ap_markup.specs.Tree.{Tag, Parts, Done, Run, Element}
use Rattle.ap_dix.specs.Machines.{expression}
use Rattle.ap_markup.specs.NameLists.{has_name, with_name}
use Rattle.ap_markup.specs.Said.{value_of, name_of, is_named}
use Rattle.ap_dix.specs.WordText.{texts}
use Rattle.ap_markup.specs.declared.marks.Mark.{Mark}
use Rattle.ap_dix.specs.declared.refusal.DixKind.{DixKind}
use Rattle.ap_dix.specs.declared.refusal.DixKind.TheVariants.{DuplicateName, UndeclaredSymbol, UndefinedParadigm, BadRegex, Weighted, Unsupported}

abbrev pub has_attribute : List ℕ → List Pair → Bool
has_attribute name given = is_some (value_of name given)

-- an attribute of an entry that isn't read
abbrev pub has_unsupported : List Pair → Bool
has_unsupported given =
    has_attribute (codes "alt") given || has_attribute (codes "v") given
    || has_attribute (codes "vl") given
    || has_attribute (codes "vr") given || has_attribute (codes "srl") given
    || has_attribute (codes "slr") given

-- `ig`, and an entry with such an attribute
abbrev pub is_unsupported : Tag → Bool
is_unsupported tag = is_named (codes "ig") tag
    || (is_named (codes "e") tag && has_unsupported tag.attributes)

-- `re` whose text is no expression
abbrev pub is_bad_regex : Tag → Parts → Bool
is_bad_regex tag kids = is_named (codes "re") tag && not (is_some (expression (texts kids)))

-- The fault of least number at a start tag of an element with these parts, where these names of
-- symbols are declared and the paradigms of these names stand above.
abbrev pub tag_kind : List (List ℕ) → List (List ℕ) → Tag → Parts → Option DixKind
tag_kind declared defined tag kids =
    if is_named (codes "pardef") tag && has_name defined (name_of tag.attributes)
    then Some DuplicateName
    else if is_named (codes "s") tag && not (has_name declared (name_of tag.attributes))
    then Some UndeclaredSymbol
    else if is_named (codes "par") tag && not (has_name defined (name_of tag.attributes))
    then Some UndefinedParadigm
    else if is_bad_regex tag kids then Some BadRegex
    else if has_attribute (codes "w") tag.attributes then Some Weighted
    else if is_unsupported tag then Some Unsupported
    else None

abbrev pub DixMark : Type 0
DixMark = Mark DixKind

-- the fault with its place and line
abbrev pub marked : Tag → Option DixKind → Option DixMark
marked tag None = None
marked tag (Some kind) = Some (record { place = tag.place; line = tag.line; kind = kind })

abbrev pub or_else : Option DixMark → Option DixMark → Option DixMark
or_else None next = next
or_else (Some mark) next = Some mark

-- the names of paradigms once an element is over
abbrev pub defined_after : Tag → List (List ℕ) → List (List ℕ)
defined_after tag defined = if is_named (codes "pardef") tag
    then with_name defined (name_of tag.attributes) else defined

-- the names of the paradigms above and among the parts
unfoldable pub defined_in : List (List ℕ) → Parts → List (List ℕ)
defined_in defined Done = defined
defined_in defined (Run text at more) = defined_in defined more
defined_in defined (Element tag kids more) =
    defined_in (defined_after tag (defined_in defined kids)) more

-- the fault of the first start tag that has one, in the order of the document
unfoldable pub first_in : List (List ℕ) → List (List ℕ) → Parts → Option DixMark
first_in declared defined Done = None
first_in declared defined (Run text at more) = first_in declared defined more
first_in declared defined (Element tag kids more) =
    or_else (marked tag (tag_kind declared defined tag kids))
    (or_else (first_in declared defined kids)
    (first_in declared (defined_after tag (defined_in defined kids)) more))

abbrev pub declared_by : Tag → List (List ℕ) → List (List ℕ)
declared_by tag names = if is_named (codes "sdef") tag
    then with_name names (name_of tag.attributes) else names

-- the names with those that each `sdef` among the parts declares, wherever it stands
unfoldable pub declared_in : List (List ℕ) → Parts → List (List ℕ)
declared_in names Done = names
declared_in names (Run text at more) = declared_in names more
declared_in names (Element tag kids more) =
    declared_in (declared_in (declared_by tag names) kids) more

-- the fault of the first start tag that has one, in the tree of a root
abbrev pub first_mark : Parts → Option DixMark
first_mark Done = None
first_mark (Run text at more) = None
first_mark (Element tag kids more) =
    or_else (marked tag (tag_kind (declared_in [] kids) [] tag kids))
    (first_in (declared_in [] kids) [] kids)
