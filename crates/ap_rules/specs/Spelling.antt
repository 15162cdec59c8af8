-- What the code is proved to compute of a text: rules, or a fault. What a text says as a rule file
-- is said in `Sentences`, and the laws tie the two.
use Rattle.std.specs.Prelude.{◌≡◌, ℕ, List, [], Option, Some, None, Result, Ok, Err}
use Rattle.std.specs.Option.{option_map}
use Rattle.ap_markup.specs.Elements.{elements, Spelled}
use Rattle.ap_markup.specs.Marks.{mark_order}
use Rattle.ap_markup.specs.Sooner.{sooner}
use Rattle.ap_markup.specs.Tree.{Tag}
use Rattle.ap_markup.specs.declared.elements.MarkupFault.{MarkupFault}
use Rattle.ap_markup.specs.declared.kind.MarkupKind.{MarkupKind}
use Rattle.ap_markup.specs.declared.kind.MarkupKind.TheVariants as notation
use Rattle.ap_markup.specs.declared.tables.Table.{Table}
use Rattle.ap_markup.specs.declared.tables.Table.TheVariants as table
use Rattle.ap_rules.specs.Children.{Children, nothing, element, children}
use Rattle.ap_rules.specs.Faults.{RuleMark, first_mark}
use Rattle.ap_rules.specs.Plain.{PlainRules}
use Rattle.ap_rules.specs.Refusals.{kind_number}
use Rattle.ap_rules.specs.Sections.{rules_of}
use Rattle.ap_rules.specs.declared.refusal.RuleFault.{RuleFault}
use Rattle.ap_rules.specs.declared.refusal.RuleKind.{RuleKind}
use Rattle.ap_rules.specs.declared.refusal.RuleKind.TheVariants.{NotUtf8, Syntax, UnknownElement, UnknownAttribute, MissingAttribute, Misplaced}
use Rattle.ap_rules.specs.declared.rules.Form.{Form}
use Rattle.ap_rules.specs.declared.rules.Form.TheVariants.{Transfer, Interchunk, Postchunk}

-- the table of a form
abbrev pub table_of : Form → Table
table_of Transfer = table.Transfer
table_of Interchunk = table.Interchunk
table_of Postchunk = table.Postchunk

-- the kinds of the notation's faults
abbrev pub kind_of : MarkupKind → RuleKind
kind_of notation.NotUtf8 = NotUtf8
kind_of notation.Syntax = Syntax
kind_of notation.UnknownElement = UnknownElement
kind_of notation.UnknownAttribute = UnknownAttribute
kind_of notation.MissingAttribute = MissingAttribute
kind_of notation.Misplaced = Misplaced

abbrev pub mark_of : MarkupFault → RuleMark
mark_of f = record { place = f.place; line = f.line; kind = kind_of f.kind }

abbrev pub fault_of : RuleMark → RuleFault
fault_of m = record { kind = m.kind; line = m.line }

abbrev pub no_tag : Tag
no_tag = record { name = []; attributes = []; place = 0; line = 0 }

-- the rules of a tree, whose first element is its root
abbrev pub rules_in : Form → Children → PlainRules
rules_in form nothing = rules_of form no_tag nothing
rules_in form (element tag own more) = rules_of form tag own

abbrev pub decided : Form → Children → Option RuleMark → Result PlainRules RuleFault
decided form tree None = Ok (rules_in form tree)
decided form tree (Some m) = Err (fault_of m)

-- A tree has its first fault, by its place and then by its number, or else it spells its rules. A
-- text without a tree has the fault of the notation.
abbrev pub judged : Form → Spelled → Result PlainRules RuleFault
judged form (Err f) = Err (fault_of (mark_of f))
judged form (Ok tree) = decided form (children tree.0)
    (sooner (mark_order kind_number) (option_map mark_of tree.1)
    (first_mark form (children tree.0)))

unfoldable pub spelled : Form → List ℕ → Result PlainRules RuleFault
spelled form text = judged form (elements text (table_of form))

-- The text is a rule file of the form, and these are its rules.
abbrev pub Spells : Form → List ℕ → PlainRules → Type 0
Spells form text r = spelled form text ≡ Ok r

-- The text is no rule file of the form, and this is its first fault.
abbrev pub IsFirstFault : Form → List ℕ → RuleFault → Type 0
IsFirstFault form text fault = spelled form text ≡ Err fault
