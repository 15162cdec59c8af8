-- What a text says as a rule file, in sentences over the whole text and its tree.
use Rattle.std.specs.Prelude.{◌≡◌, ◌⊎◌, ℕ, List, Some}
use Rattle.std.specs.Str.{IsUtf8}
use Rattle.ap_markup.specs.Deep.{pruned}
use Rattle.ap_markup.specs.Faults.{Fault as NotationFault}
use Rattle.ap_markup.specs.Forms.{SpellsText}
use Rattle.ap_markup.specs.Least.{IsLeast}
use Rattle.ap_markup.specs.Sentences.{HasFaultUnder, IsRefusedBy}
use Rattle.ap_markup.specs.Spelling.{line_at}
use Rattle.ap_markup.specs.Tree.{Parts}
use Rattle.ap_markup.specs.declared.elements.MarkupFault.{MarkupFault}
use Rattle.ap_rules.specs.Children.{children}
use Rattle.ap_rules.specs.Mistakes.{Fault, order_of, HasRootFault}
use Rattle.ap_rules.specs.Plain.{PlainRules}
use Rattle.ap_rules.specs.SectionRows.{AreRules}
use Rattle.ap_rules.specs.Spelling.{table_of, kind_of}
use Rattle.ap_rules.specs.declared.refusal.RuleFault.{RuleFault}
use Rattle.ap_rules.specs.declared.rules.Form.{Form}

-- A fault of the notation under the table of the form.
abbrev pub HasNotationFault : Form → Parts → Fault → Type 0
HasNotationFault form whole f =
    (g : NotationFault) × HasFaultUnder (table_of form) (pruned 201 whole) g
    × (f ≡ (g.0, kind_of g.1))

-- A fault of the names, positions, tags, patterns and uses.
abbrev pub HasOwnFault : Form → Parts → Fault → Type 0
HasOwnFault form root f = HasRootFault form (children root) f

-- A fault of a tree, of either family. The elements that are too deep are left out.
abbrev pub HasAnyFault : Form → Parts → Fault → Type 0
HasAnyFault form whole f = HasNotationFault form whole f ⊎ HasOwnFault form (pruned 200 whole) f

-- The text is these rules: it spells a tree without fault, whose elements are these rules by the
-- table, each by its row.
pub record SpellsRules (form : Form) (text : List ℕ) (r : PlainRules) : Type 0 where
  pub whole : Parts
  pub utf8 : IsUtf8 text
  pub spelled : SpellsText text whole
  pub faultless : (f : Fault) → HasAnyFault form whole f → ⊥
  pub rules : AreRules form (children (pruned 200 whole)) r

-- The text spells a tree, and this is the least of its faults, with the line of its place.
pub record HasFirstFault (form : Form) (text : List ℕ) (fault : RuleFault) : Type 0 where
  pub whole : Parts
  pub utf8 : IsUtf8 text
  pub spelled : SpellsText text whole
  pub first : Fault
  pub least : IsLeast order_of (HasAnyFault form whole) (Some first)
  pub is : fault ≡ record { kind = first.1; line = line_at text first.0 }

-- The text isn't UTF-8, or spells no tree, and this is its first wrong byte or piece; or it is the
-- first fault of its tree.
abbrev pub IsRefusedFor : Form → List ℕ → RuleFault → Type 0
IsRefusedFor form text fault =
    ((f : MarkupFault) × IsRefusedBy text f
    × (fault ≡ record { kind = kind_of f.kind; line = f.line })) ⊎ HasFirstFault form text fault
