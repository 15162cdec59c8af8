-- What a text says as a dictionary, in sentences over the whole text and its tree.
use Rattle.std.specs.Prelude.{◌≡◌, ◌⊎◌, ℕ, List, Some}
use Rattle.std.specs.Str.{IsUtf8}
use Rattle.ap_markup.specs.Deep.{pruned}
use Rattle.ap_markup.specs.Faults.{Fault as NotationFault}
use Rattle.ap_markup.specs.Forms.{SpellsText}
use Rattle.ap_markup.specs.Least.{IsLeast}
use Rattle.ap_markup.specs.Sentences.{HasFaultUnder, IsRefusedBy}
use Rattle.ap_markup.specs.Spelling.{line_at}
use Rattle.ap_markup.specs.Tree.{Parts, Done}
use Rattle.ap_markup.specs.declared.elements.MarkupFault.{MarkupFault}
use Rattle.ap_markup.specs.declared.tables.Table.TheVariants.{Dix}
use Rattle.ap_dix.specs.Mistakes.{Fault, order_of, HasFault}
use Rattle.ap_dix.specs.Spelling.{kind_of, root_parts}
use Rattle.ap_dix.specs.Value.{dictionary}
use Rattle.ap_dix.specs.declared.dictionary.Dictionary.{Dictionary}
use Rattle.ap_dix.specs.declared.refusal.DixFault.{DixFault}

-- A fault of the notation under the table of dictionaries.
abbrev pub HasNotationFault : Parts → Fault → Type 0
HasNotationFault whole f = (g : NotationFault) × HasFaultUnder Dix (pruned 201 whole) g
    × (f ≡ (g.0, kind_of g.1))

-- A fault of the names, expressions, weights and extensions.
abbrev pub HasOwnFault : Parts → Fault → Type 0
HasOwnFault root f = HasFault (root_parts root) Done root f

-- A fault of a tree, of either family. The elements that are too deep are left out.
abbrev pub HasAnyFault : Parts → Fault → Type 0
HasAnyFault whole f = HasNotationFault whole f ⊎ HasOwnFault (pruned 200 whole) f

-- The text is this dictionary: it spells a tree without fault, and this is the tree's dictionary.
pub record SpellsDictionary (text : List ℕ) (d : Dictionary) : Type 0 where
  pub whole : Parts
  pub utf8 : IsUtf8 text
  pub spelled : SpellsText text whole
  pub faultless : (f : Fault) → HasAnyFault whole f → ⊥
  pub value : d ≡ dictionary (root_parts (pruned 200 whole))

-- The text spells a tree, and this is the least of its faults, with the line of its place.
pub record HasFirstFault (text : List ℕ) (fault : DixFault) : Type 0 where
  pub whole : Parts
  pub utf8 : IsUtf8 text
  pub spelled : SpellsText text whole
  pub first : Fault
  pub least : IsLeast order_of (HasAnyFault whole) (Some first)
  pub is : fault ≡ record { kind = first.1; line = line_at text first.0 }

-- The text isn't UTF-8, or spells no tree, and this is its first wrong byte or piece; or it is the
-- first fault of its tree.
abbrev pub IsRefusedFor : List ℕ → DixFault → Type 0
IsRefusedFor text fault =
    ((f : MarkupFault) × IsRefusedBy text f
    × (fault ≡ record { kind = kind_of f.kind; line = f.line })) ⊎ HasFirstFault text fault
