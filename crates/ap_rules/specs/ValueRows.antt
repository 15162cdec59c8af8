-- The values of the table of elements, as relations: one case for each row, and none in which an
-- element is passed over.
use Rattle.std.specs.Prelude.{◌≡◌, ℕ, Bool, true, false, not, ◌&&◌, List, [], ◌∷◌, Option, Some, None, codes}
use Rattle.ap_symbol.specs.declared.symbol.Symbol.{Symbol}
use Rattle.ap_markup.specs.NameLists.{number_of}
use Rattle.ap_markup.specs.Pieces.{Pair}
use Rattle.ap_markup.specs.Said.{value_of, name_of}
use Rattle.ap_markup.specs.Tree.{Tag}
use Rattle.ap_rules.specs.Children.{Children, nothing, element}
use Rattle.ap_rules.specs.Faults.{is_plain_part, has_attribute}
use Rattle.ap_rules.specs.Plain.{PlainValue, PlainValues, clip, lit, lit_tag, var, get_case_from, case_of, concat, blank_value, no_values, then_value}
use Rattle.ap_rules.specs.Texts.{number_in, word_of, tags_of, given_text}
use Rattle.ap_rules.specs.Values.{Scope, position_of, side_of, is_value}
use Rattle.ap_rules.specs.declared.value.CaseOf.{CaseOf}
use Rattle.ap_rules.specs.declared.value.Clip.{Clip}
use Rattle.ap_rules.specs.declared.value.ClipPart.{ClipPart}
use Rattle.ap_rules.specs.declared.value.ClipPart.TheVariants.{Lem, Lemh, Lemq, Tags, Whole, Content, Attribute}

-- the element has this name
abbrev pub IsNamed : List ℕ → Tag → Type 0
IsNamed name tag = tag.name ≡ name

-- there is one element, and this holds of it
abbrev pub IsAlone : Children → (Tag → Children → Type 0) → Type 0
IsAlone (element tag own nothing) P = P tag own
IsAlone _ P = ⊥

-- A part of a word, by its name. The content of a chunk is a part only where it may be read; an
-- attribute is the one of this number that the file defines.
abbrev pub IsPart : Bool → List (List ℕ) → List ℕ → ClipPart → Type 0
IsPart content attrs name Lem = name ≡ codes "lem"
IsPart content attrs name Lemh = name ≡ codes "lemh"
IsPart content attrs name Lemq = name ≡ codes "lemq"
IsPart content attrs name Tags = name ≡ codes "tags"
IsPart content attrs name Whole = name ≡ codes "whole"
IsPart content attrs name Content = (name ≡ codes "chcontent") × (content ≡ true)
IsPart content attrs name (Attribute n) = (is_plain_part name ≡ false)
    × (number_of attrs name ≡ Some n)

-- the tag of a link: a number from 1 to 99
abbrev pub IsLinkText : Option (List ℕ) → Option (List Symbol) → Type 0
IsLinkText given None = given ≡ None
IsLinkText given (Some word) = (text : List ℕ) × (n : ℕ) × (given ≡ Some text)
    × (number_in 1 99 (Some text) ≡ Some n) × (tags_of false text ≡ Some word)

-- A clip: each of its attributes. The content of a chunk isn't read where there is a link.
pub record IsClip (s : Scope) (content : Bool) (given : List Pair) (c : Clip) : Type 0 where
  pub pos : position_of s given ≡ Some c.pos
  pub part : IsPart (content && not (has_attribute (codes "link-to") given)) s.names.attrs
      (given_text (value_of (codes "part") given)) c.part
  pub side : c.side ≡ side_of s.form given
  pub queue : c.queue ≡ not (is_value (codes "no") (value_of (codes "queue") given))
  pub link : IsLinkText (value_of (codes "link-to") given) c.link_to

pub record IsCaseOf (s : Scope) (given : List Pair) (c : CaseOf) : Type 0 where
  pub pos : position_of s given ≡ Some c.pos
  pub part : IsPart false s.names.attrs (given_text (value_of (codes "part") given)) c.part
  pub side : c.side ≡ side_of s.form given

-- the position of a blank, from 1 to 99, where one is given
abbrev pub IsBlankAt : List Pair → Option ℕ → Type 0
IsBlankAt given None = value_of (codes "pos") given ≡ None
IsBlankAt given (Some n) = number_in 1 99 (value_of (codes "pos") given) ≡ Some n

-- The element, with these elements within it, is this value. A clip may read the content of a chunk
-- where `content` says so.
abbrev mutual
  pub IsValue : Scope → Bool → Tag → Children → PlainValue → Type 0
  IsValue s content tag own (clip c) = IsNamed (codes "clip") tag
      × IsClip s content tag.attributes c
  IsValue s content tag own (lit word) = IsNamed (codes "lit") tag
      × (word ≡ word_of (given_text (value_of (codes "v") tag.attributes)))
  IsValue s content tag own (lit_tag word) = IsNamed (codes "lit-tag") tag
      × (tags_of false (given_text (value_of (codes "v") tag.attributes)) ≡ Some word)
  IsValue s content tag own (var n) = IsNamed (codes "var") tag
      × (number_of s.names.vars (name_of tag.attributes) ≡ Some n)
  IsValue s content tag own (get_case_from pos v) = IsNamed (codes "get-case-from") tag
      × (position_of s tag.attributes ≡ Some pos)
      × IsAlone own (λ (one : Tag) (its : Children). IsValue s false one its v)
  IsValue s content tag own (case_of c) = IsNamed (codes "case-of") tag
      × IsCaseOf s tag.attributes c
  IsValue s content tag own (concat vs) = IsNamed (codes "concat") tag × AreValues s false own vs
  IsValue s content tag own (blank_value pos) = IsNamed (codes "b") tag
      × IsBlankAt tag.attributes pos

  -- each of the elements is one of these values, in order
  pub AreValues : Scope → Bool → Children → PlainValues → Type 0
  AreValues s content nothing no_values = Unit {0}
  AreValues s content (element tag own more) (then_value v vs) = IsValue s content tag own v
      × AreValues s content more vs
  AreValues s content _ _ = ⊥
