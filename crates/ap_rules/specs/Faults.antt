-- The faults of a rule file's elements that aren't those of the notation, each by its sentence, and
-- the first of a tree.
use Rattle.std.specs.Prelude.{ℕ, Bool, true, false, not, ◌&&◌, ◌||◌, ◌==◌, nat_le, List, [], ◌∷◌, Option, Some, None, is_some, is_none, codes, if◌then◌else◌}
use Rattle.std.specs.Str.{bytes_eq}
use Rattle.ap_markup.specs.NameLists.{has_name}
use Rattle.ap_markup.specs.Pieces.{Pair}
use Rattle.ap_markup.specs.Said.{value_of, name_of, is_named}
use Rattle.ap_markup.specs.Tree.{Tag}
use Rattle.ap_markup.specs.declared.marks.Mark.{Mark}
use Rattle.ap_rules.specs.Children.{Children, nothing, element, within, count_named}
use Rattle.ap_rules.specs.Defining.{none_defined, npar_of, defined_after, defined_in, npar_named}
use Rattle.ap_rules.specs.Texts.{number_in, tags_of, given_text}
use Rattle.ap_rules.specs.declared.defined.Defined.{Defined}
use Rattle.ap_rules.specs.declared.faults.Reach.{Reach}
use Rattle.ap_rules.specs.declared.refusal.RuleKind.{RuleKind}
use Rattle.ap_rules.specs.declared.refusal.RuleKind.TheVariants.{DuplicateName, UndefinedName, BadPosition, BadTags, PatternLength, Misused, Unsupported}
use Rattle.ap_rules.specs.declared.rules.Form.{Form}
use Rattle.ap_rules.specs.declared.rules.Form.TheVariants.{Transfer, Interchunk, Postchunk}

-- What stands around an element: the form of the file, whether its outputs hold chunks, the names
-- that the whole file defines, the name of the element around, and the positions that there are.
pub record Around : Type 0 where
  pub form : Form
  pub chunks : Bool
  pub all : Defined
  pub parent : List ℕ
  pub reach : Reach

abbrev pub is_transfer : Form → Bool
is_transfer Transfer = true
is_transfer _ = false

abbrev pub is_interchunk : Form → Bool
is_interchunk Interchunk = true
is_interchunk _ = false

abbrev pub has_attribute : List ℕ → List Pair → Bool
has_attribute name given = is_some (value_of name given)

-- a part of a word that is there from the start
abbrev pub is_plain_part : List ℕ → Bool
is_plain_part name =
    bytes_eq (codes "lem") name || bytes_eq (codes "lemh") name || bytes_eq (codes "lemq") name
    || bytes_eq (codes "whole") name || bytes_eq (codes "tags") name
    || bytes_eq (codes "chcontent") name

abbrev pub part_of : Tag → List ℕ
part_of tag = given_text (value_of (codes "part") tag.attributes)

-- `clip` and `case-of` read a part of a word
abbrev pub reads_part : Tag → Bool
reads_part tag = is_named (codes "clip") tag || is_named (codes "case-of") tag

-- A definition above is of the same kind and has the same name; or an attribute has the name of a
-- part that is there from the start.
abbrev pub is_duplicate : Defined → Tag → Bool
is_duplicate above tag =
    if is_named (codes "def-cat") tag then has_name above.cats (name_of tag.attributes)
    else if is_named (codes "def-attr") tag then is_plain_part (name_of tag.attributes)
    || has_name above.attrs (name_of tag.attributes)
    else if is_named (codes "def-var") tag then has_name above.vars (name_of tag.attributes)
    else if is_named (codes "def-list") tag then has_name above.lists (name_of tag.attributes)
    else if is_named (codes "def-macro") tag then has_name above.macros (name_of tag.attributes)
    else false

-- a name is given, and no variable has it
abbrev pub is_no_variable : Defined → Option (List ℕ) → Bool
is_no_variable all None = false
is_no_variable all (Some name) = not (has_name all.vars name)

-- No category, attribute, variable or list of the file, or no macro above, has the name that is
-- used.
abbrev pub is_undefined : Defined → Defined → Tag → Bool
is_undefined all above tag =
    if is_named (codes "pattern-item") tag then not (has_name all.cats (name_of tag.attributes))
    else if reads_part tag then not (is_plain_part (part_of tag))
    && not (has_name all.attrs (part_of tag))
    else if is_named (codes "var") tag then not (has_name all.vars (name_of tag.attributes))
    else if is_named (codes "append") tag then not (has_name all.vars (name_of tag.attributes))
    else if is_named (codes "list") tag then not (has_name all.lists (name_of tag.attributes))
    else if is_named (codes "call-macro") tag
    then not (has_name above.macros (name_of tag.attributes))
    else if is_named (codes "chunk") tag
    then is_no_variable all (value_of (codes "namefrom") tag.attributes)
    || is_no_variable all (value_of (codes "case") tag.attributes)
    else false

-- these elements stand for the unit at a position
abbrev pub has_position : Tag → Bool
has_position tag = reads_part tag || is_named (codes "get-case-from") tag
    || is_named (codes "with-param") tag

-- a value is given, and is no number from 1 to 99
abbrev pub is_no_link : Option (List ℕ) → Bool
is_no_link None = false
is_no_link (Some text) = is_none (number_in 1 99 (Some text))

-- the macro is given another number of units
abbrev pub is_other_than : ℕ → Option ℕ → Bool
is_other_than count None = false
is_other_than count (Some npar) = not (count == npar)

-- A position is none of those that there are; the position of a blank or a link is no number from 1
-- to 99; a macro's number of units is none from 0 to 64; a macro is called with another number of
-- units.
abbrev pub is_misnumbered : Reach → Defined → Tag → Children → Bool
is_misnumbered reach above tag own =
    (has_position tag && is_none
    (number_in reach.least reach.most (value_of (codes "pos") tag.attributes)))
    || (is_named (codes "b") tag && is_no_link (value_of (codes "pos") tag.attributes))
    || (is_named (codes "clip") tag && is_no_link (value_of (codes "link-to") tag.attributes))
    || (is_named (codes "def-macro") tag
    && is_none (number_in 0 64 (value_of (codes "npar") tag.attributes)))
    || (is_named (codes "call-macro") tag
    && is_other_than (count_named (codes "with-param") own)
    (npar_named above (name_of tag.attributes)))

-- A part of tags between their dots is no tag. A star may stand in a category alone.
abbrev pub has_bad_tags : Tag → Bool
has_bad_tags tag =
    (is_named (codes "cat-item") tag
    && is_none (tags_of true (given_text (value_of (codes "tags") tag.attributes))))
    || (is_named (codes "attr-item") tag
    && is_none (tags_of false (given_text (value_of (codes "tags") tag.attributes))))
    || (is_named (codes "lit-tag") tag
    && is_none (tags_of false (given_text (value_of (codes "v") tag.attributes))))

-- how many items a pattern may have
abbrev pub is_length : Form → ℕ → Bool
is_length Postchunk n = n == 1
is_length Transfer n = nat_le 1 n && nat_le n 64
is_length Interchunk n = nat_le 1 n && nat_le n 64

abbrev pub has_bad_length : Form → Tag → Children → Bool
has_bad_length form tag own = is_named (codes "pattern") tag
    && not (is_length form (count_named (codes "pattern-item") own))

-- the content of a chunk may be read here: by a clip within a chunk of interchunk, without a link
abbrev pub may_read_content : Form → List ℕ → Tag → Bool
may_read_content form parent tag =
    is_named (codes "clip") tag && is_interchunk form && bytes_eq (codes "chunk") parent
    && not (has_attribute (codes "link-to") tag.attributes)

-- an output holds a chunk where it has none, or a unit where it has chunks
abbrev pub is_wrong_piece : Around → Tag → Bool
is_wrong_piece a tag =
    bytes_eq (codes "out") a.parent
    && ((is_named (codes "chunk") tag && not a.chunks) || (is_named (codes "lu") tag && a.chunks)
    || (is_named (codes "mlu") tag && a.chunks))

-- the content of a chunk is read where it may not be
abbrev pub is_misread : Around → Tag → Bool
is_misread a tag = reads_part tag && bytes_eq (codes "chcontent") (part_of tag)
    && not (may_read_content a.form a.parent tag)

-- a chunk of transfer has two names
abbrev pub has_two_names : Form → Tag → Bool
has_two_names form tag =
    is_transfer form && is_named (codes "chunk") tag && has_attribute (codes "name") tag.attributes
    && has_attribute (codes "namefrom") tag.attributes

abbrev pub is_misused : Around → Tag → Bool
is_misused a tag = is_wrong_piece a tag || is_misread a tag || has_two_names a.form tag

abbrev pub is_unsupported : Tag → Bool
is_unsupported tag = is_named (codes "reject-current-rule") tag
    || (is_named (codes "rule") tag && has_attribute (codes "weight") tag.attributes)

-- The fault of least number at a start tag, with what stands around the element, the names above it
-- and the elements within it.
abbrev pub tag_kind : Around → Defined → Tag → Children → Option RuleKind
tag_kind a above tag own =
    if is_duplicate above tag then Some DuplicateName
    else if is_undefined a.all above tag then Some UndefinedName
    else if is_misnumbered a.reach above tag own then Some BadPosition
    else if has_bad_tags tag then Some BadTags
    else if has_bad_length a.form tag own then Some PatternLength
    else if is_misused a tag then Some Misused
    else if is_unsupported tag then Some Unsupported
    else None

-- the positions of units: from 1 on, in postchunk from 0 on
abbrev pub reach_to : Form → ℕ → Reach
reach_to Postchunk most = record { least = 0; most = most }
reach_to Transfer most = record { least = 1; most = most }
reach_to Interchunk most = record { least = 1; most = most }

-- those of a rule whose pattern has so many items: in postchunk up to 999
abbrev pub rule_reach : Form → ℕ → Reach
rule_reach Postchunk items = reach_to Postchunk 999
rule_reach Transfer items = reach_to Transfer items
rule_reach Interchunk items = reach_to Interchunk items

-- the positions within an element
abbrev pub reach_within : Around → Tag → Children → Reach
reach_within a tag own =
    if is_named (codes "rule") tag
    then rule_reach a.form (count_named (codes "pattern-item") (within (codes "pattern") own))
    else if is_named (codes "def-macro") tag then reach_to a.form (npar_of tag.attributes)
    else a.reach

-- what stands around the elements within an element
abbrev pub around_within : Around → Tag → Children → Around
around_within a tag own =
    record {
      form = a.form;
      chunks = a.chunks;
      all = a.all;
      parent = tag.name;
      reach =
          reach_within a tag own;
    }

abbrev pub RuleMark : Type 0
RuleMark = Mark RuleKind

-- the fault with its place and line
abbrev pub marked : Tag → Option RuleKind → Option RuleMark
marked tag None = None
marked tag (Some kind) = Some (record { place = tag.place; line = tag.line; kind = kind })

abbrev pub or_else : Option RuleMark → Option RuleMark → Option RuleMark
or_else None next = next
or_else (Some mark) next = Some mark

-- the fault of the first start tag that has one, in the order of the document
abbrev pub first_in : Around → Defined → Children → Option RuleMark
first_in a above nothing = None
first_in a above (element tag own more) =
    or_else (marked tag (tag_kind a above tag own))
    (or_else (first_in (around_within a tag own) above own)
    (first_in a (defined_after tag (defined_in above own)) more))

-- the default of a file of transfer that makes chunks
abbrev pub is_chunk : Option (List ℕ) → Bool
is_chunk None = false
is_chunk (Some value) = bytes_eq (codes "chunk") value

-- outputs hold chunks: in transfer where its default is one, and in interchunk
abbrev pub holds_chunks : Form → Option (List ℕ) → Bool
holds_chunks Transfer value = is_chunk value
holds_chunks Interchunk value = true
holds_chunks Postchunk value = false

-- what stands around the root, which no element is around
abbrev pub around_root : Form → Tag → Children → Around
around_root form tag own = record {
  form = form;
  chunks = holds_chunks form (value_of (codes "default") tag.attributes);
  all = defined_in none_defined own;
  parent = [];
  reach = reach_to form 0;
}

-- the fault of this element, or else the first within it
abbrev pub first_below : Around → Defined → Tag → Children → Option RuleMark
first_below a above tag own =
    or_else (marked tag (tag_kind a above tag own)) (first_in (around_within a tag own) above own)

-- the fault of the first start tag of a tree that has one
abbrev pub first_mark : Form → Children → Option RuleMark
first_mark form nothing = None
first_mark form (element tag own more) = first_below (around_root form tag own) none_defined tag own
