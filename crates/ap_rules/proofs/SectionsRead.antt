-- A file whose tree stands in the relations of the table is read as these rules.
use Rattle.std.proofs.Common.{◌≡◌, ◌⊎◌, ℕ, Bool, true, false, not, ◌&&◌, cond, List, [], ◌∷◌, ◌++◌, length, append-nil, append_assoc, refl, sym, ap, ◌∙◌, subst, Option, Some, None, codes}
use Rattle.std.specs.Option.{option_map, option_to_list, unwrap_or}
use Rattle.ap_symbol.specs.declared.symbol.Symbol.{Symbol}
use Rattle.ap_markup.specs.NameLists.{has_name, with_name, number_of}
use Rattle.ap_markup.specs.Pieces.{Pair}
use Rattle.ap_markup.specs.Said.{value_of, name_of, is_named}
use Rattle.ap_markup.specs.Tree.{Tag}
use Rattle.ap_rules.specs.Children.{Children, nothing, element, within}
use Rattle.ap_rules.specs.Defining.{none_defined, npar_of, with_macro}
use Rattle.ap_rules.specs.Faults.{is_length, reach_to, holds_chunks}
use Rattle.ap_rules.specs.Plain.{PlainStatement, PlainMacro, PlainRule, PlainRules, statements_of}
use Rattle.ap_rules.specs.SectionRows.{AreEach, AreNames, IsItemOf, IsCatItem, IsCategory, IsAttrItem, IsAttribute, IsVariable, IsListItem, IsList, with_one, scope_of_macro, AreMacros, IsPatternItem, ArePatternAndAction, IsRule, AreSections, AreRules}
use Rattle.ap_rules.specs.Sections.{names_behind, tagged, item_of, cat_items, categories, attr_item, attr_items, attributes, word_of_v, variables, list_items, lists, macro_scope, macro, past_macro, is_macro, macros, past_macros, pattern_item, pattern_items, rule_scope, rule_with, rule, rules, default_of, section_names, rules_scope, rules_of}
use Rattle.ap_rules.specs.Spelling.{rules_in}
use Rattle.ap_rules.specs.StatementRows.{AreStatements}
use Rattle.ap_rules.specs.Statements.{statements}
use Rattle.ap_rules.specs.Texts.{number_in, word_of, tags_of, given_text}
use Rattle.ap_rules.specs.ValueRows.{IsNamed}
use Rattle.ap_rules.specs.Values.{Scope}
use Rattle.ap_rules.specs.declared.attribute.AttrItem.{AttrItem}
use Rattle.ap_rules.specs.declared.defined.Defined.{Defined}
use Rattle.ap_rules.specs.declared.rules.CatItem.{CatItem}
use Rattle.ap_rules.specs.declared.rules.DefCat.{DefCat}
use Rattle.ap_rules.specs.declared.rules.DefList.{DefList}
use Rattle.ap_rules.specs.declared.rules.DefVar.{DefVar}
use Rattle.ap_rules.specs.declared.rules.Form.{Form}
use Rattle.ap_rules.specs.declared.rules.Form.TheVariants.{Transfer, Interchunk, Postchunk}
use Rattle.ap_rules.specs.declared.rules.ListItem.{ListItem}
use Rattle.ap_rules.specs.declared.rules.PatternItem.{PatternItem}
use Rattle.ap_rules.proofs.PiecesRead.{row_more}
use Rattle.ap_rules.proofs.StatementsRead.{body_read}
use Rattle.ap_rules.proofs.ValuesRead.{by_name, one_more}

-- one more thing, where the element has its name
opt_more : {A : Type 0} (b : Bool) (o : Option A) (x : A) (xs ys zs : List A) → b ≡ true →
    o ≡ Some x → xs ≡ ys → cond b (option_to_list o ++ xs) zs ≡ x ∷ ys
opt_more b o x xs ys zs is e h = rw (is, e, h) refl

-- names

names_more : (kind : List ℕ) (before : List (List ℕ)) (tag : Tag) (name : List ℕ) →
    value_of (codes "n") tag.attributes ≡ Some name → has_name before name ≡ false →
    with_name before (name_of tag.attributes) ≡ before ++ name ∷ []
names_more kind before tag name e fresh =
    ap (λ (o : Option (List ℕ)). with_name before (unwrap_or o [])) e
    ∙ ap (λ (b : Bool). cond b before (before ++ name ∷ [])) fresh

names_read : (kind : List ℕ) (before : List (List ℕ)) (own : Children) (names : List (List ℕ)) →
    ((tag : Tag) → IsNamed kind tag → is_named kind tag ≡ true) → AreNames kind before own names →
    names_behind kind before own ≡ names
names_read kind before nothing names same e = sym e
names_read kind before (element tag own more) names same (name, is, given, fresh, rest) =
    ap (λ (b : Bool). names_behind kind (cond b (with_name before (name_of tag.attributes)) before)
    more) (same tag is)
    ∙ ap (λ (ns : List (List ℕ)). names_behind kind ns more)
    (names_more kind before tag name given fresh)
    ∙ names_read kind (before ++ name ∷ []) more names same rest

-- categories

item_read : (form : Form) (given : List Pair) (item : CatItem) → IsItemOf form given item →
    item_of form given ≡ Some item
item_read Postchunk given item (tags, lemma, name) =
    rw (sym tags, sym lemma, sym name) refl
item_read Transfer given item (tags, lemma, name) =
    ap (tagged given) tags ∙ rw (sym lemma, sym name) refl
item_read Interchunk given item (tags, lemma, name) =
    ap (tagged given) tags ∙ rw (sym lemma, sym name) refl

items_read : (form : Form) (own : Children) (items : List CatItem) →
    AreEach (IsCatItem form) own items → cat_items form own ≡ items
items_read form nothing [] are = refl
items_read form nothing (x ∷ xs) are = absurd are
items_read form (element tag own more) [] are = absurd are
items_read form (element tag own more) (x ∷ xs) ((name, is), rest) =
    opt_more (is_named (codes "cat-item") tag) (item_of form tag.attributes) x (cat_items form more)
    xs (cat_items form more)
    (by_name (λ t. is_named (codes "cat-item") t ≡ true) tag (codes "cat-item") name refl)
    (item_read form tag.attributes x is) (items_read form more xs rest)

categories_read : (form : Form) (own : Children) (cats : List DefCat) →
    AreEach (IsCategory form) own cats → categories form own ≡ cats
categories_read form nothing [] are = refl
categories_read form nothing (x ∷ xs) are = absurd are
categories_read form (element tag own more) [] are = absurd are
categories_read form (element tag own more) (x ∷ xs) ((name, is), rest) =
    row_more (is_named (codes "def-cat") tag) (record { items = cat_items form own }) x
    (categories form more) xs (categories form more)
    (by_name (λ t. is_named (codes "def-cat") t ≡ true) tag (codes "def-cat") name refl)
    (ap (λ (items : List CatItem). record { items = items }) (items_read form own x.items is))
    (categories_read form more xs rest)

-- attributes

attr_items_read : (own : Children) (items : List AttrItem) → AreEach IsAttrItem own items →
    attr_items own ≡ items
attr_items_read nothing [] are = refl
attr_items_read nothing (x ∷ xs) are = absurd are
attr_items_read (element tag own more) [] are = absurd are
attr_items_read (element tag own more) (x ∷ xs) ((name, is), rest) =
    opt_more (is_named (codes "attr-item") tag)
    (attr_item (tags_of false (given_text (value_of (codes "tags") tag.attributes)))) x
    (attr_items more) xs (attr_items more)
    (by_name (λ t. is_named (codes "attr-item") t ≡ true) tag (codes "attr-item") name refl)
    (ap attr_item is) (attr_items_read more xs rest)

attributes_read : (own : Children) (attrs : List (List AttrItem)) → AreEach IsAttribute own attrs →
    attributes own ≡ attrs
attributes_read nothing [] are = refl
attributes_read nothing (x ∷ xs) are = absurd are
attributes_read (element tag own more) [] are = absurd are
attributes_read (element tag own more) (x ∷ xs) ((name, is), rest) =
    row_more (is_named (codes "def-attr") tag) (attr_items own) x (attributes more) xs
    (attributes more)
    (by_name (λ t. is_named (codes "def-attr") t ≡ true) tag (codes "def-attr") name refl)
    (attr_items_read own x is) (attributes_read more xs rest)

-- variables and lists

variables_read : (own : Children) (vars : List DefVar) → AreEach IsVariable own vars →
    variables own ≡ vars
variables_read nothing [] are = refl
variables_read nothing (x ∷ xs) are = absurd are
variables_read (element tag own more) [] are = absurd are
variables_read (element tag own more) (x ∷ xs) ((name, is), rest) =
    row_more (is_named (codes "def-var") tag) (record { v = word_of_v tag }) x (variables more) xs
    (variables more)
    (by_name (λ t. is_named (codes "def-var") t ≡ true) tag (codes "def-var") name refl)
    (ap (λ (w : List Symbol). record { v = w }) (sym is)) (variables_read more xs rest)

list_items_read : (own : Children) (items : List ListItem) → AreEach IsListItem own items →
    list_items own ≡ items
list_items_read nothing [] are = refl
list_items_read nothing (x ∷ xs) are = absurd are
list_items_read (element tag own more) [] are = absurd are
list_items_read (element tag own more) (x ∷ xs) ((name, is), rest) =
    row_more (is_named (codes "list-item") tag) (record { v = word_of_v tag }) x (list_items more)
    xs (list_items more)
    (by_name (λ t. is_named (codes "list-item") t ≡ true) tag (codes "list-item") name refl)
    (ap (λ (w : List Symbol). record { v = w }) (sym is)) (list_items_read more xs rest)

lists_read : (own : Children) (ls : List DefList) → AreEach IsList own ls → lists own ≡ ls
lists_read nothing [] are = refl
lists_read nothing (x ∷ xs) are = absurd are
lists_read (element tag own more) [] are = absurd are
lists_read (element tag own more) (x ∷ xs) ((name, is), rest) =
    row_more (is_named (codes "def-list") tag) (record { items = list_items own }) x (lists more)
    xs (lists more)
    (by_name (λ t. is_named (codes "def-list") t ≡ true) tag (codes "def-list") name refl)
    (ap (λ (items : List ListItem). record { items = items }) (list_items_read own x.items is))
    (lists_read more xs rest)

-- macros

is_first : (names : Defined) (tag : Tag) → IsNamed (codes "def-macro") tag →
    has_name names.macros (name_of tag.attributes) ≡ false → is_macro names tag ≡ true
is_first names tag name fresh =
    by_name (λ t. is_macro names t ≡ true) tag (codes "def-macro") name (ap not fresh)

units_read : (given : List Pair) (n : ℕ) → number_in 0 64 (value_of (codes "npar") given) ≡ Some n →
    npar_of given ≡ n
units_read given n e = ap (λ (o : Option ℕ). unwrap_or o 0) e

macro_read : (form : Form) (chunks : Bool) (names : Defined) (tag : Tag) (own : Children)
    (m : PlainMacro) → npar_of tag.attributes ≡ m.npar →
    AreStatements (scope_of_macro form chunks names m.npar) own (statements_of m.statements) →
    macro form chunks names tag own ≡ m
macro_read form chunks names tag own m e are =
    ap (λ (n : ℕ). made n (statements (scope_of_macro form chunks names n) own)) e
    ∙ ap (made m.npar) (body_read (scope_of_macro form chunks names m.npar) own m.statements are)
  where
    made : ℕ → List PlainStatement → PlainMacro
    made n sts = record { npar = n; statements = sts }

past_read : (names : Defined) (tag : Tag) (n : ℕ) →
    has_name names.macros (name_of tag.attributes) ≡ false → npar_of tag.attributes ≡ n →
    past_macro tag names ≡ with_one names (name_of tag.attributes) n
past_read names tag n fresh e =
    ap (λ (b : Bool). cond b names (with_one names (name_of tag.attributes)
    (npar_of tag.attributes))) fresh
    ∙ ap (with_one names (name_of tag.attributes)) e

macros_read : (form : Form) (chunks : Bool) (names : Defined) (own : Children)
    (ms : List PlainMacro) (after : Defined) → AreMacros form chunks names own ms after →
    (macros form chunks names own ≡ ms) × (past_macros names own ≡ after)
macros_read form chunks names nothing [] after e = (refl, sym e)
macros_read form chunks names nothing (m ∷ ms) after are = absurd are
macros_read form chunks names (element tag own more) [] after are = absurd are
macros_read form chunks names (element tag own more) (m ∷ ms) after (name, fresh, n, body, rest) =
    let first = is_first names tag name fresh in
    let units = units_read tag.attributes m.npar n in
    let past = past_read names tag m.npar fresh units in
    let later = macros_read form chunks (with_one names (name_of tag.attributes) m.npar) more ms
    after rest in (
      row_more (is_macro names tag) (macro form chunks names tag own) m
          (macros form chunks (past_macro tag names) more) ms (macros form chunks names more) first
          (macro_read form chunks names tag own m units body)
          (ap (λ (d : Defined). macros form chunks d more) past ∙ later.0),
      ap (λ (b : Bool). past_macros (cond b (past_macro tag names) names) more) first
          ∙ ap (λ (d : Defined). past_macros d more) past ∙ later.1,
    )

-- rules

pattern_read : (cats : List (List ℕ)) (own : Children) (items : List PatternItem) →
    AreEach (IsPatternItem cats) own items → pattern_items cats own ≡ items
pattern_read cats nothing [] are = refl
pattern_read cats nothing (x ∷ xs) are = absurd are
pattern_read cats (element tag own more) [] are = absurd are
pattern_read cats (element tag own more) (x ∷ xs) ((name, is), rest) =
    opt_more (is_named (codes "pattern-item") tag)
    (pattern_item (number_of cats (name_of tag.attributes))) x (pattern_items cats more) xs
    (pattern_items cats more)
    (by_name (λ t. is_named (codes "pattern-item") t ≡ true) tag (codes "pattern-item") name refl)
    (ap pattern_item is) (pattern_read cats more xs rest)

rule_read : (s : Scope) (tag : Tag) (own : Children) (r : PlainRule) → r.line ≡ tag.line →
    ArePatternAndAction s own r → rule s tag own ≡ Some r
rule_read s tag nothing r line are = absurd are
rule_read s tag (element first pattern nothing) r line are = absurd are
rule_read s tag (element first pattern (element second action nothing)) r line
    (name, other, items, fits, body) =
    by_name (λ t. rule s tag (element t pattern (element second action nothing)) ≡ Some r) first
    (codes "pattern") name
    (by_name (λ t. rule_with s tag (pattern_items s.names.cats pattern)
    (within (codes "action") (element t action nothing)) ≡ Some r) second (codes "action") other
    (ap (λ (ps : List PatternItem). rule_with s tag ps action)
    (pattern_read s.names.cats pattern r.pattern items)
    ∙ ap (λ (b : Bool). cond {A = Option PlainRule} b (Some (made tag.line
    (statements (rule_scope s (length r.pattern)) action))) None) fits
    ∙ ap (λ (sts : List PlainStatement). Some (made tag.line sts))
    (body_read (rule_scope s (length r.pattern)) action r.action body)
    ∙ ap (λ (n : ℕ). Some (made n r.action)) (sym line)))
  where
    made : ℕ → List PlainStatement → PlainRule
    made n sts = record { line = n; pattern = r.pattern; action = sts }
rule_read s tag (element first pattern (element second action (element third more rest))) r line
    are = absurd are

rules_read : (s : Scope) (own : Children) (rs : List PlainRule) → AreEach (IsRule s) own rs →
    rules s own ≡ rs
rules_read s nothing [] are = refl
rules_read s nothing (r ∷ rs) are = absurd are
rules_read s (element tag own more) [] are = absurd are
rules_read s (element tag own more) (r ∷ rs) ((name, line, is), rest) =
    opt_more (is_named (codes "rule") tag) (rule s tag own) r (rules s more) rs (rules s more)
    (by_name (λ t. is_named (codes "rule") t ≡ true) tag (codes "rule") name refl)
    (rule_read s tag own r line is) (rules_read s more rs rest)

-- the whole

same_names : (d e : Defined) → d.cats ≡ e.cats → d.attrs ≡ e.attrs → d.vars ≡ e.vars →
    d.lists ≡ e.lists → d.macros ≡ e.macros → d.npars ≡ e.npars → d ≡ e
same_names d e a b c f g h = rw (a, b, c, f, g, h) refl

same_rules : (q r : PlainRules) → q.form ≡ r.form → q.line ≡ r.line → q.default ≡ r.default →
    q.categories ≡ r.categories → q.attributes ≡ r.attributes → q.variables ≡ r.variables →
    q.lists ≡ r.lists → q.macros ≡ r.macros → q.rules ≡ r.rules → q ≡ r
same_rules q r a b c d e f g h i = rw (a, b, c, d, e, f, g, h, i) refl

sections_read : (form : Form) (tag : Tag) (own : Children) (r : PlainRules) →
    AreSections form tag own r → rules_of form tag own ≡ r
sections_read form tag own r is =
    let chunks = holds_chunks form (value_of (codes "default") tag.attributes) in
    let part = within (codes "section-def-macros") own in
    let last = within (codes "section-rules") own in
    let named : section_names own ≡ is.names =
    same_names (section_names own) is.names
    (names_read (codes "def-cat") [] (within (codes "section-def-cats") own) is.names.cats
    (λ t e. by_name (λ u. is_named (codes "def-cat") u ≡ true) t (codes "def-cat") e refl) is.cats)
    (names_read (codes "def-attr") [] (within (codes "section-def-attrs") own) is.names.attrs
    (λ t e. by_name (λ u. is_named (codes "def-attr") u ≡ true) t (codes "def-attr") e refl)
    is.attrs)
    (names_read (codes "def-var") [] (within (codes "section-def-vars") own) is.names.vars
    (λ t e. by_name (λ u. is_named (codes "def-var") u ≡ true) t (codes "def-var") e refl) is.vars)
    (names_read (codes "def-list") [] (within (codes "section-def-lists") own) is.names.lists
    (λ t e. by_name (λ u. is_named (codes "def-list") u ≡ true) t (codes "def-list") e refl)
    is.list_names)
    (sym is.no_macros) (sym is.no_npars) in
    let both = macros_read form chunks is.names part r.macros is.after is.macros in
    same_rules (rules_of form tag own) r (sym is.form_is) (sym is.line) (sym is.default)
    (categories_read form (within (codes "section-def-cats") own) r.categories is.categories)
    (attributes_read (within (codes "section-def-attrs") own) r.attributes is.attributes)
    (variables_read (within (codes "section-def-vars") own) r.variables is.variables)
    (lists_read (within (codes "section-def-lists") own) r.lists is.lists)
    (ap (λ (d : Defined). macros form chunks d part) named ∙ both.0)
    (ap (λ (d : Defined). rules (rules_scope form chunks d) last)
    (ap (λ (d : Defined). past_macros d part) named ∙ both.1)
    ∙ rules_read (rules_scope form chunks is.after) last r.rules is.rules)

-- a tree is these rules alone
pub tree_read : (form : Form) (tree : Children) (r : PlainRules) → AreRules form tree r →
    rules_in form tree ≡ r
tree_read form nothing r are = absurd are
tree_read form (element tag own nothing) r is = sections_read form tag own r is
tree_read form (element tag own (element next inner more)) r are = absurd are
