-- The values that elements are.
use Rattle.std.specs.Prelude.{ℕ, Bool, true, false, not, ◌&&◌, List, [], ◌∷◌, ◌++◌, Option, Some, None, is_none, codes, if◌then◌else◌}
use Rattle.std.specs.Option.{option_map, option_to_list}
use Rattle.std.specs.Str.{bytes_eq}
use Rattle.ap_symbol.specs.declared.symbol.Symbol.{Symbol}
use Rattle.ap_markup.specs.NameLists.{number_of}
use Rattle.ap_markup.specs.Pieces.{Pair}
use Rattle.ap_markup.specs.Said.{value_of, name_of, is_named}
use Rattle.ap_markup.specs.Tree.{Tag}
use Rattle.ap_rules.specs.Children.{Children, nothing, element}
use Rattle.ap_rules.specs.Faults.{is_transfer, has_attribute}
use Rattle.ap_rules.specs.Plain.{PlainValue, clip, lit, lit_tag, var, get_case_from, case_of, concat, blank_value, values_of}
use Rattle.ap_rules.specs.Texts.{number_in, word_of, tags_of, given_text}
use Rattle.ap_rules.specs.declared.defined.Defined.{Defined}
use Rattle.ap_rules.specs.declared.faults.Reach.{Reach}
use Rattle.ap_rules.specs.declared.rules.Form.{Form}
use Rattle.ap_rules.specs.declared.value.CaseOf.{CaseOf}
use Rattle.ap_rules.specs.declared.value.Clip.{Clip}
use Rattle.ap_rules.specs.declared.value.ClipPart.{ClipPart}
use Rattle.ap_rules.specs.declared.value.ClipPart.TheVariants.{Lem, Lemh, Lemq, Tags, Whole, Content, Attribute}
use Rattle.ap_rules.specs.declared.value.Side.{Side}
use Rattle.ap_rules.specs.declared.value.Side.TheVariants.{Source, Target}

-- What elements are read with: the form of the file, whether its outputs hold chunks, the names
-- that stand for numbers, and the positions that there are.
pub record Scope : Type 0 where
  pub form : Form
  pub chunks : Bool
  pub names : Defined
  pub reach : Reach

abbrev pub on_some : {A B : Type 0} → Option A → (A → Option B) → Option B
on_some None f = None
on_some (Some a) f = f a

-- the position that an element gives
abbrev pub position_of : Scope → List Pair → Option ℕ
position_of s given = number_in s.reach.least s.reach.most (value_of (codes "pos") given)

-- the part of a word that is named; the content only where it may be read
abbrev pub part_named : Bool → Defined → List ℕ → Option ClipPart
part_named content names part =
    if bytes_eq (codes "lem") part then Some Lem
    else if bytes_eq (codes "lemh") part then Some Lemh
    else if bytes_eq (codes "lemq") part then Some Lemq
    else if bytes_eq (codes "tags") part then Some Tags
    else if bytes_eq (codes "whole") part then Some Whole
    else if bytes_eq (codes "chcontent") part then (if content then Some Content else None)
    else option_map Attribute (number_of names.attrs part)

abbrev pub part_given : Bool → Defined → List Pair → Option ClipPart
part_given content names given =
    part_named content names (given_text (value_of (codes "part") given))

abbrev pub side_named : Bool → Option (List ℕ) → Side
side_named transfer None = Target
side_named transfer (Some value) = if transfer && bytes_eq (codes "sl") value
    then Source else Target

-- in transfer `sl` is the source; elsewhere the side doesn't count
abbrev pub side_of : Form → List Pair → Side
side_of form given = side_named (is_transfer form) (value_of (codes "side") given)

-- the value is this text
abbrev pub is_value : List ℕ → Option (List ℕ) → Bool
is_value text None = false
is_value text (Some value) = bytes_eq text value

-- the tag of a link, where one is given
abbrev pub link_of : Option (List ℕ) → Option (Option (List Symbol))
link_of None = Some None
link_of (Some text) = if is_none (number_in 1 99 (Some text)) then None
    else option_map Some (tags_of false text)

-- A clip: its position, its part, which is the content only where that may be read and without a
-- link, its side, whether the queue is read too, and its link.
abbrev pub clip_of : Scope → Bool → List Pair → Option Clip
clip_of s content given =
    on_some (position_of s given) (λ (pos : ℕ).
    on_some (part_given (content && not (has_attribute (codes "link-to") given)) s.names given)
    (λ (part : ClipPart).
    on_some (link_of (value_of (codes "link-to") given)) (λ (link : Option (List Symbol)).
    Some (record {
      pos = pos;
      part = part;
      side = side_of s.form given;
      queue =
          not (is_value (codes "no") (value_of (codes "queue") given));
      link_to = link;
    }))))

abbrev pub case_given : Scope → List Pair → Option CaseOf
case_given s given =
    on_some (position_of s given) (λ (pos : ℕ).
    on_some (part_given false s.names given) (λ (part : ClipPart).
    Some (record { pos = pos; part = part; side = side_of s.form given })))

-- one value in the case of the unit at a position
abbrev pub recased : Option ℕ → List PlainValue → Option PlainValue
recased None inner = None
recased (Some pos) [] = None
recased (Some pos) (v ∷ []) = Some (get_case_from pos v)
recased (Some pos) (v ∷ w ∷ vs) = None

-- a value without values in it
abbrev pub simple_value : Scope → Bool → Tag → Option PlainValue
simple_value s content tag =
    if is_named (codes "clip") tag then option_map clip (clip_of s content tag.attributes)
    else if is_named (codes "lit") tag
    then Some (lit (word_of (given_text (value_of (codes "v") tag.attributes))))
    else if is_named (codes "lit-tag") tag
    then option_map lit_tag (tags_of false (given_text (value_of (codes "v") tag.attributes)))
    else if is_named (codes "var") tag
    then option_map var (number_of s.names.vars (name_of tag.attributes))
    else if is_named (codes "case-of") tag then option_map case_of (case_given s tag.attributes)
    else if is_named (codes "b") tag
    then Some (blank_value (number_in 1 99 (value_of (codes "pos") tag.attributes)))
    else None

-- the value that an element is, with the values within it
abbrev pub value : Scope → Bool → Tag → List PlainValue → Option PlainValue
value s content tag inner =
    if is_named (codes "get-case-from") tag then recased (position_of s tag.attributes) inner
    else if is_named (codes "concat") tag then Some (concat (values_of inner))
    else simple_value s content tag

-- the values among the elements; a clip among them may read the content of a chunk where `content`
-- says so
abbrev pub values : Scope → Bool → Children → List PlainValue
values s content nothing = []
values s content (element tag own more) = option_to_list (value s content tag (values s false own))
    ++ values s content more
