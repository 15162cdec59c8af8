-- The faults that a rule file's tree has, other than those of the notation.
use Rattle.std.specs.Prelude.{◌≡◌, ◌⊎◌, ℕ, true}
use Rattle.ap_markup.specs.Tree.{Tag}
use Rattle.ap_rules.specs.Children.{Children, nothing, element}
use Rattle.ap_rules.specs.Defining.{none_defined, defined_after, defined_in}
use Rattle.ap_rules.specs.Faults.{Around, is_duplicate, is_undefined, is_misnumbered, has_bad_tags, has_bad_length, is_misused, is_unsupported, around_root, around_within}
use Rattle.ap_rules.specs.Refusals.{kind_number}
use Rattle.ap_rules.specs.declared.defined.Defined.{Defined}
use Rattle.ap_rules.specs.declared.refusal.RuleKind.{RuleKind}
use Rattle.ap_rules.specs.declared.refusal.RuleKind.TheVariants.{DuplicateName, UndefinedName, BadPosition, BadTags, PatternLength, Misused, Unsupported}
use Rattle.ap_rules.specs.declared.rules.Form.{Form}

-- The faults of one element, with what stands around it, the names that are defined above it, and
-- the elements within it: each by its sentence.
pub data IsMistake (a : Around) (above : Defined) (tag : Tag) (own : Children) : RuleKind
    → Type 0 where
  duplicate : {kind : RuleKind} → is_duplicate above tag ≡ true → kind ≡ DuplicateName →
      IsMistake a above tag own kind
  undefined : {kind : RuleKind} → is_undefined a.all above tag ≡ true → kind ≡ UndefinedName →
      IsMistake a above tag own kind
  misnumbered : {kind : RuleKind} → is_misnumbered a.reach above tag own ≡ true →
      kind ≡ BadPosition → IsMistake a above tag own kind
  bad_tags : {kind : RuleKind} → has_bad_tags tag ≡ true → kind ≡ BadTags →
      IsMistake a above tag own kind
  bad_length : {kind : RuleKind} → has_bad_length a.form tag own ≡ true → kind ≡ PatternLength →
      IsMistake a above tag own kind
  misused : {kind : RuleKind} → is_misused a tag ≡ true → kind ≡ Misused →
      IsMistake a above tag own kind
  unsupported : {kind : RuleKind} → is_unsupported tag ≡ true → kind ≡ Unsupported →
      IsMistake a above tag own kind

-- a fault's place and kind
abbrev pub Fault : Type 0
Fault = ℕ × RuleKind

-- its place and the number of its kind
abbrev pub order_of : Fault → ℕ × ℕ
order_of f = (f.0, kind_number f.1)

-- a fault of this element, at its start tag
abbrev pub IsAtTag : Around → Defined → Tag → Children → Fault → Type 0
IsAtTag a above tag own f = (kind : RuleKind) × IsMistake a above tag own kind
    × (f ≡ (tag.place, kind))

-- A fault among elements side by side: of the first, within it, or behind it, where what it defines
-- stands above.
abbrev pub HasFault : Around → Defined → Children → Fault → Type 0
HasFault a above nothing f = ⊥
HasFault a above (element tag own more) f =
    IsAtTag a above tag own f
    ⊎ (HasFault (around_within a tag own) above own f
    ⊎ HasFault a (defined_after tag (defined_in above own)) more f)

-- a fault of the root, or within it
abbrev pub HasRootFault : Form → Children → Fault → Type 0
HasRootFault form nothing f = ⊥
HasRootFault form (element tag own more) f =
    IsAtTag (around_root form tag own) none_defined tag own f
    ⊎ HasFault (around_within (around_root form tag own) tag own) none_defined own f
