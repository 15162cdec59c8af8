-- The sections of a rule file in the table of elements, as relations: one case for each row, and
-- none in which an element is passed over.
use Rattle.std.specs.Prelude.{◌≡◌, ◌⊎◌, ℕ, Bool, true, false, List, [], ◌∷◌, ◌++◌, length, None, Some, codes}
use Rattle.ap_markup.specs.NameLists.{has_name, number_of}
use Rattle.ap_markup.specs.Pieces.{Pair}
use Rattle.ap_markup.specs.Said.{value_of, name_of}
use Rattle.ap_markup.specs.Tree.{Tag}
use Rattle.ap_rules.specs.Children.{Children, nothing, element, within}
use Rattle.ap_rules.specs.Faults.{is_length, reach_to, holds_chunks}
use Rattle.ap_rules.specs.Pieces.{word_given}
use Rattle.ap_rules.specs.Plain.{PlainMacro, PlainRule, PlainRules, statements_of}
use Rattle.ap_rules.specs.Sections.{rule_scope, rules_scope, default_of}
use Rattle.ap_rules.specs.StatementRows.{AreStatements}
use Rattle.ap_rules.specs.Texts.{number_in, word_of, tags_of, given_text}
use Rattle.ap_rules.specs.ValueRows.{IsNamed}
use Rattle.ap_rules.specs.Values.{Scope}
use Rattle.ap_rules.specs.declared.attribute.AttrItem.{AttrItem}
use Rattle.ap_rules.specs.declared.defined.Defined.{Defined}
use Rattle.ap_rules.specs.declared.rules.CatItem.{CatItem}
use Rattle.ap_rules.specs.declared.rules.DefCat.{DefCat}
use Rattle.ap_rules.specs.declared.rules.DefList.{DefList}
use Rattle.ap_rules.specs.declared.rules.DefVar.{DefVar}
use Rattle.ap_rules.specs.declared.rules.Form.{Form}
use Rattle.ap_rules.specs.declared.rules.Form.TheVariants.{Transfer, Interchunk, Postchunk}
use Rattle.ap_rules.specs.declared.rules.ListItem.{ListItem}
use Rattle.ap_rules.specs.declared.rules.PatternItem.{PatternItem}

-- Each of the elements is one of these things, in order, as `Is` says of one.
abbrev pub AreEach : {A : Type 0} → (Tag → Children → A → Type 0) → Children → List A → Type 0
AreEach Is nothing [] = Unit {0}
AreEach Is (element tag own more) (x ∷ xs) = Is tag own x × AreEach Is more xs
AreEach Is _ _ = ⊥

-- Each of the elements is of this kind and gives one of these names, in order, which none of those
-- before has.
abbrev pub AreNames : List ℕ → List (List ℕ) → Children → List (List ℕ) → Type 0
AreNames kind before nothing names = names ≡ before
AreNames kind before (element tag own more) names = (name : List ℕ) × IsNamed kind tag
    × (value_of (codes "n") tag.attributes ≡ Some name) × (has_name before name ≡ false)
    × AreNames kind (before ++ name ∷ []) more names

-- an item of a category: in postchunk it has a name, elsewhere tags and maybe a lemma
abbrev pub IsItemOf : Form → List Pair → CatItem → Type 0
IsItemOf Postchunk given item = (item.tags ≡ []) × (item.lemma ≡ None)
    × (item.name ≡ word_of (given_text (value_of (codes "name") given)))
IsItemOf _ given item = (tags_of true (given_text (value_of (codes "tags") given)) ≡ Some item.tags)
    × (item.lemma ≡ word_given (value_of (codes "lemma") given)) × (item.name ≡ [])

abbrev pub IsCatItem : Form → Tag → Children → CatItem → Type 0
IsCatItem form tag own item = IsNamed (codes "cat-item") tag × IsItemOf form tag.attributes item

abbrev pub IsCategory : Form → Tag → Children → DefCat → Type 0
IsCategory form tag own c = IsNamed (codes "def-cat") tag × AreEach (IsCatItem form) own c.items

abbrev pub IsAttrItem : Tag → Children → AttrItem → Type 0
IsAttrItem tag own item = IsNamed (codes "attr-item") tag
    × (tags_of false (given_text (value_of (codes "tags") tag.attributes)) ≡ Some item.tags)

abbrev pub IsAttribute : Tag → Children → List AttrItem → Type 0
IsAttribute tag own items = IsNamed (codes "def-attr") tag × AreEach IsAttrItem own items

abbrev pub IsVariable : Tag → Children → DefVar → Type 0
IsVariable tag own v = IsNamed (codes "def-var") tag
    × (v.v ≡ word_of (given_text (value_of (codes "v") tag.attributes)))

abbrev pub IsListItem : Tag → Children → ListItem → Type 0
IsListItem tag own item = IsNamed (codes "list-item") tag
    × (item.v ≡ word_of (given_text (value_of (codes "v") tag.attributes)))

abbrev pub IsList : Tag → Children → DefList → Type 0
IsList tag own l = IsNamed (codes "def-list") tag × AreEach IsListItem own l.items

-- the names with that of a macro, and how many units it is given
abbrev pub with_one : Defined → List ℕ → ℕ → Defined
with_one names name npar =
    record names { macros = names.macros ++ name ∷ []; npars = names.npars ++ npar ∷ [] }

-- what the statements of a macro that is given so many units are read with
abbrev pub scope_of_macro : Form → Bool → Defined → ℕ → Scope
scope_of_macro form chunks names npar =
    record { form = form; chunks = chunks; names = names; reach = reach_to form npar }

-- Each of the elements is one of these macros, in order, read with the names of those above it. The
-- last are the names with those of all.
abbrev pub AreMacros : Form → Bool → Defined → Children → List PlainMacro → Defined → Type 0
AreMacros form chunks names nothing [] after = after ≡ names
AreMacros form chunks names (element tag own more) (m ∷ ms) after =
    IsNamed (codes "def-macro") tag × (has_name names.macros (name_of tag.attributes) ≡ false)
    × (number_in 0 64 (value_of (codes "npar") tag.attributes) ≡ Some m.npar)
    × AreStatements (scope_of_macro form chunks names m.npar) own (statements_of m.statements)
    × AreMacros form chunks (with_one names (name_of tag.attributes) m.npar) more ms after
AreMacros form chunks names _ _ after = ⊥

abbrev pub IsPatternItem : List (List ℕ) → Tag → Children → PatternItem → Type 0
IsPatternItem cats tag own item = IsNamed (codes "pattern-item") tag
    × (number_of cats (name_of tag.attributes) ≡ Some item.n)

-- a pattern of a length that it may have, and then an action
abbrev pub ArePatternAndAction : Scope → Children → PlainRule → Type 0
ArePatternAndAction s (element first pattern (element second action nothing)) r =
    IsNamed (codes "pattern") first × IsNamed (codes "action") second
    × AreEach (IsPatternItem s.names.cats) pattern r.pattern
    × (is_length s.form (length r.pattern) ≡ true)
    × AreStatements (rule_scope s (length r.pattern)) action (statements_of r.action)
ArePatternAndAction s _ r = ⊥

abbrev pub IsRule : Scope → Tag → Children → PlainRule → Type 0
IsRule s tag own r = IsNamed (codes "rule") tag × (r.line ≡ tag.line) × ArePatternAndAction s own r

-- the elements have these names, each at most once and in this order
abbrev pub AreInOrder : List (List ℕ) → Children → Type 0
AreInOrder names nothing = Unit {0}
AreInOrder [] (element tag own more) = ⊥
AreInOrder (name ∷ names) (element tag own more) =
    (IsNamed name tag × AreInOrder names more) ⊎ AreInOrder names (element tag own more)

abbrev pub section_order : List (List ℕ)
section_order = codes "section-def-cats" ∷ codes "section-def-attrs" ∷ codes "section-def-vars"
    ∷ codes "section-def-lists" ∷ codes "section-def-macros" ∷ codes "section-rules" ∷ []

-- The sections of a root are these rules: what stands in each section, with these names, and the
-- names with those of all macros.
pub record AreSections (form : Form) (tag : Tag) (own : Children) (r : PlainRules) : Type 0 where
  pub names : Defined
  pub after : Defined
  pub form_is : r.form ≡ form
  pub line : r.line ≡ tag.line
  pub default : r.default ≡ default_of form (value_of (codes "default") tag.attributes)
  pub order : AreInOrder section_order own
  pub cats : AreNames (codes "def-cat") [] (within (codes "section-def-cats") own) names.cats
  pub attrs : AreNames (codes "def-attr") [] (within (codes "section-def-attrs") own) names.attrs
  pub vars : AreNames (codes "def-var") [] (within (codes "section-def-vars") own) names.vars
  pub list_names : AreNames (codes "def-list") [] (within (codes "section-def-lists") own)
      names.lists
  pub no_macros : names.macros ≡ []
  pub no_npars : names.npars ≡ []
  pub categories : AreEach (IsCategory form) (within (codes "section-def-cats") own) r.categories
  pub attributes : AreEach IsAttribute (within (codes "section-def-attrs") own) r.attributes
  pub variables : AreEach IsVariable (within (codes "section-def-vars") own) r.variables
  pub lists : AreEach IsList (within (codes "section-def-lists") own) r.lists
  pub macros : AreMacros form (holds_chunks form (value_of (codes "default") tag.attributes)) names
      (within (codes "section-def-macros") own) r.macros after
  pub rules : AreEach (IsRule
      (rules_scope form (holds_chunks form (value_of (codes "default") tag.attributes)) after))
      (within (codes "section-rules") own) r.rules

-- The tree is these rules: it is one root, and they are its sections.
abbrev pub AreRules : Form → Children → PlainRules → Type 0
AreRules form (element tag own nothing) r = AreSections form tag own r
AreRules form _ r = ⊥
