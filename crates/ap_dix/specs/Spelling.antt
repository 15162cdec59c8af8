-- What the code is proved to compute of a text: a dictionary, or a fault. What a text says as a
-- dictionary is said in `Sentences`, and the laws tie the two.
use Rattle.std.specs.Prelude.{◌≡◌, ℕ, List, Option, Some, None, Result, Ok, Err}
use Rattle.std.specs.Option.{option_map}
use Rattle.ap_markup.specs.Elements.{elements, Spelled}
use Rattle.ap_markup.specs.Tree.{Parts, Done, Run, Element}
use Rattle.ap_markup.specs.declared.elements.MarkupFault.{MarkupFault}
use Rattle.ap_markup.specs.declared.kind.MarkupKind.{MarkupKind}
use Rattle.ap_markup.specs.declared.kind.MarkupKind.TheVariants as notation
use Rattle.ap_markup.specs.declared.tables.Table.TheVariants.{Dix}
use Rattle.ap_markup.specs.Marks.{mark_order}
use Rattle.ap_markup.specs.Sooner.{sooner}
use Rattle.ap_dix.specs.Faults.{DixMark, first_mark}
use Rattle.ap_dix.specs.Refusals.{kind_number}
use Rattle.ap_dix.specs.Value.{dictionary}
use Rattle.ap_dix.specs.declared.dictionary.Dictionary.{Dictionary}
use Rattle.ap_dix.specs.declared.refusal.DixFault.{DixFault}
use Rattle.ap_dix.specs.declared.refusal.DixKind.{DixKind}
use Rattle.ap_dix.specs.declared.refusal.DixKind.TheVariants.{NotUtf8, Syntax, UnknownElement, UnknownAttribute, MissingAttribute, Misplaced}

-- the kinds of the notation's faults
abbrev pub kind_of : MarkupKind → DixKind
kind_of notation.NotUtf8 = NotUtf8
kind_of notation.Syntax = Syntax
kind_of notation.UnknownElement = UnknownElement
kind_of notation.UnknownAttribute = UnknownAttribute
kind_of notation.MissingAttribute = MissingAttribute
kind_of notation.Misplaced = Misplaced

abbrev pub mark_of : MarkupFault → DixMark
mark_of f = record { place = f.place; line = f.line; kind = kind_of f.kind }

abbrev pub fault_of : DixMark → DixFault
fault_of m = record { kind = m.kind; line = m.line }

-- the parts of the root
abbrev pub root_parts : Parts → Parts
root_parts Done = Done
root_parts (Run text at more) = Done
root_parts (Element tag kids more) = kids

abbrev pub decided : Parts → Option DixMark → Result Dictionary DixFault
decided tree None = Ok (dictionary (root_parts tree))
decided tree (Some m) = Err (fault_of m)

-- A tree has its first fault, by its place and then by its number, or else it spells its
-- dictionary. A text without a tree has the fault of the notation.
abbrev pub judged : Spelled → Result Dictionary DixFault
judged (Err f) = Err (fault_of (mark_of f))
judged (Ok tree) = decided tree.0
    (sooner (mark_order kind_number) (option_map mark_of tree.1) (first_mark tree.0))

unfoldable pub spelled : List ℕ → Result Dictionary DixFault
spelled text = judged (elements text Dix)

-- The text is a dictionary, and its value is this one.
abbrev pub Spells : List ℕ → Dictionary → Type 0
Spells text d = spelled text ≡ Ok d

-- The text is no dictionary, and this is its first fault.
abbrev pub IsFirstFault : List ℕ → DixFault → Type 0
IsFirstFault text fault = spelled text ≡ Err fault
