-- The macros and the rules of a tree without fault are macros and rules by the table.
use Rattle.std.proofs.Common.{◌≡◌, ℕ, ◌+◌, Bool, true, false, cond, List, [], ◌∷◌, ◌++◌, length, length-append, refl, sym, ap, ◌∙◌, subst, arith, Option, Some, None, codes}
use Rattle.std.specs.Option.{unwrap_or}
use Rattle.ap_markup.specs.NameLists.{has_name}
use Rattle.ap_markup.specs.Said.{value_of, name_of, is_named}
use Rattle.ap_markup.specs.TableRows.{any_of, one}
use Rattle.ap_markup.specs.Tree.{Tag}
use Rattle.ap_rules.specs.Children.{Children, nothing, element, within, count_named}
use Rattle.ap_rules.specs.Defining.{npar_of, with_macro, defined_named, defined_after, defined_in}
use Rattle.ap_rules.specs.Faults.{Around, around_within, is_length, rule_reach}
use Rattle.ap_rules.specs.Plain.{PlainMacro, PlainRule, PlainStatement, statements_of}
use Rattle.ap_rules.specs.SectionRows.{AreEach, with_one, scope_of_macro, AreMacros, IsPatternItem, ArePatternAndAction, IsRule}
use Rattle.ap_rules.specs.Sections.{rule_scope}
use Rattle.ap_rules.specs.StatementRows.{AreStatements}
use Rattle.ap_rules.specs.Texts.{number_in}
use Rattle.ap_rules.specs.Values.{Scope}
use Rattle.ap_rules.specs.declared.defined.Defined.{Defined}
use Rattle.ap_rules.specs.declared.faults.Reach.{Reach}
use Rattle.ap_rules.specs.declared.rules.Form.{Form}
use Rattle.ap_rules.specs.declared.rules.PatternItem.{PatternItem}
use Rattle.ap_rules.proofs.DefinitionsStand.{each_stand, needed_name}
use Rattle.ap_rules.proofs.Faultless.{Clean, Stands, not_false, neither}
use Rattle.ap_rules.proofs.Placing.{among_each, in_last, behind_one, as_row, AreFew, AreTwo, one_each, defines_nothing, quiet}
use Rattle.ap_rules.proofs.StatementsStand.{Calls, statements_group, statements_stand}
use Rattle.ap_rules.proofs.ValuesRead.{by_name, tag_as}
use Rattle.ap_rules.proofs.ValuesStand.{outside, Numbers, there, numbered}

-- with the name of one more macro
one_more : (names : List (List ℕ)) (npars : List ℕ) (name : List ℕ) (npar : ℕ) →
    length names ≡ length npars → length (names ++ name ∷ []) ≡ length (npars ++ npar ∷ [])
one_more names npars name npar e =
    length-append names (name ∷ []) ∙ ap (λ (k : ℕ). k + 1) e ∙ sym (length-append npars (npar ∷
    []))

calls_more : (above names : Defined) (name : List ℕ) (npar : ℕ) → Calls above names →
    Calls (with_one above name npar) (with_one names name npar)
calls_more above names name npar c = record {
  macros = ap (λ (ms : List (List ℕ)). ms ++ name ∷ []) c.macros;
  npars = ap (λ (ns : List ℕ). ns ++ npar ∷ []) c.npars;
  even = one_more names.macros names.npars name npar c.even;
}

numbers_more : (all names : Defined) (name : List ℕ) (npar : ℕ) → Numbers all names →
    Numbers all (with_one names name npar)
numbers_more all names name npar n =
    record { cats = n.cats; attrs = n.attrs; vars = n.vars; lists = n.lists }

-- the macros, the names with those of all, and what stands above what follows
pub record Macros (form : Form) (chunks : Bool) (all names d : Defined) (own : Children)
    : Type 0 where
  pub macros : List PlainMacro
  pub after : Defined
  pub macros_are : AreMacros form chunks names own macros after
  pub calls : Calls (defined_in d own) after
  pub numbers : Numbers all after

-- one macro
record Macro (form : Form) (chunks : Bool) (names d : Defined) (tag : Tag) (own : Children)
    : Type 0 where
  macro : PlainMacro
  kind_is : tag.name ≡ codes "def-macro"
  fresh : has_name names.macros (name_of tag.attributes) ≡ false
  units : number_in 0 64 (value_of (codes "npar") tag.attributes) ≡ Some macro.npar
  body : AreStatements (scope_of_macro form chunks names macro.npar) own
      (statements_of macro.statements)
  after : defined_after tag (defined_in d own)
      ≡ with_one d (name_of tag.attributes) macro.npar

macro_stands : (form : Form) (chunks : Bool) (all names d : Defined) (parent : List ℕ)
    (reach : Reach) (tag : Tag) (own : Children) → Numbers all names → Calls d names →
    Stands (outside (record { form = form; chunks = chunks; names = names; reach = reach }) all
    parent) d (tag_as (codes "def-macro") tag) own →
    Macro form chunks names d (tag_as (codes "def-macro") tag) own
macro_stands form chunks all names d parent reach tag own same calls z =
    let a = outside (record { form = form; chunks = chunks; names = names; reach = reach }) all
    parent
    in
    let given = tag.attributes in
    let r = as_row a d (tag_as (codes "def-macro") tag) own _ refl z in
    let units = there (number_in 0 64 (value_of (codes "npar") given))
    (neither _ _ r.0.right.numbered).0 in
    let npar : npar_of given ≡ units.0 = ap (λ (o : Option ℕ). unwrap_or o 0) units.1 in
    let name = needed_name given ((codes "npar" ∷ []) ∷ []) r.0.needs in
    let named : name_of given ≡ name.0 = ap (λ (o : Option (List ℕ)). unwrap_or o []) name.1 in
    let sts = statements_stand (scope_of_macro form chunks names (npar_of given)) all d
    (codes "def-macro") own same calls 0 r.1 in
    record {
      macro = record { npar = npar_of given; statements = sts.0 };
      kind_is = refl;
      fresh = subst (λ (ms : List (List ℕ)). has_name ms (name_of given) ≡ false) calls.macros
          r.0.right.fresh;
      units = units.1 ∙ ap Some (sym npar);
      body = sts.1;
      after = ap (λ (e : Defined). defined_after (tag_as (codes "def-macro") tag) e)
          (quiet (around_within a (tag_as (codes "def-macro") tag) own) d (statements_group, 0)
          own d
          refl r.1)
          ∙ ap (λ (o : Option (List ℕ)). defined_named o (tag_as (codes "def-macro") tag) d) name.1
          ∙ ap (λ (word : List ℕ). with_macro word (npar_of given) d) (sym named)
          ∙ ap (λ (b : Bool). cond b d (with_one d (name_of given) (npar_of given)))
          r.0.right.fresh;
    }

pub macros_stand : (form : Form) (chunks : Bool) (all names d : Defined) (parent : List ℕ)
    (reach : Reach) (own : Children) (used : ℕ) → Numbers all names → Calls d names →
    Clean (outside (record { form = form; chunks = chunks; names = names; reach = reach }) all
    parent)
    d (any_of (codes "def-macro" ∷ []) ∷ [], used) own → Macros form chunks all names d own
macros_stand form chunks all names d parent reach nothing used same calls c =
    record { macros = []; after = names; macros_are = refl; calls = calls; numbers = same }
macros_stand form chunks all names d parent reach (element tag own more) used same calls
    (here, (n, is, later)) =
    let a = outside (record { form = form; chunks = chunks; names = names; reach = reach }) all
    parent
    in
    let g = any_of (codes "def-macro" ∷ []) in
    let y = in_last tag.name g used n is in
    let m = among_each (λ word. Stands a d (tag_as word tag) own →
    Macro form chunks names d (tag_as word tag) own) (codes "def-macro" ∷ []) tag.name
    (λ z. macro_stands form chunks all names d parent reach tag own same calls z, tt) y.0 here in
    let name = name_of tag.attributes in
    let rest = macros_stand form chunks all (with_one names name m.macro.npar)
    (with_one d name m.macro.npar) parent reach more (used + 1)
    (numbers_more all names name m.macro.npar same) (calls_more d names name m.macro.npar calls)
    (subst (λ (z : Defined). Clean a z (g ∷ [], used + 1) more) m.after
    (behind_one a d (g ∷ [], used + 1) own more tag n y.2 later)) in
    record {
      macros = m.macro ∷ rest.macros;
      after = rest.after;
      macros_are = (m.kind_is, m.fresh, m.units, m.body, rest.macros_are);
      calls = subst (λ (z : Defined). Calls (defined_in z more) rest.after) (sym m.after)
          rest.calls;
      numbers = rest.numbers;
    }

-- macros define no other names
pub record Alike (d e : Defined) : Type 0 where
  pub cats : d.cats ≡ e.cats
  pub attrs : d.attrs ≡ e.attrs
  pub vars : d.vars ≡ e.vars
  pub lists : d.lists ≡ e.lists

alike : (d e f : Defined) → Alike d e → Alike e f → Alike d f
alike d e f x y = record {
  cats = x.cats ∙ y.cats;
  attrs = x.attrs ∙ y.attrs;
  vars = x.vars ∙ y.vars;
  lists = x.lists ∙ y.lists;
}

macro_alike : (o : Option (List ℕ)) (tag : Tag) (d : Defined) →
    Alike (defined_named o (tag_as (codes "def-macro") tag) d) d
macro_alike None tag d = record { cats = refl; attrs = refl; vars = refl; lists = refl }
macro_alike (Some name) tag d = by (has_name d.macros name)
  where
    by : (b : Bool) → Alike (cond b d (with_one d name (npar_of tag.attributes))) d
    by true = record { cats = refl; attrs = refl; vars = refl; lists = refl }
    by false = record { cats = refl; attrs = refl; vars = refl; lists = refl }

pub macros_alike : (a : Around) (above : Defined) (own : Children) (used : ℕ) (d : Defined) →
    Clean a above (any_of (codes "def-macro" ∷ []) ∷ [], used) own → Alike (defined_in d own) d
macros_alike a above nothing used d c =
    record { cats = refl; attrs = refl; vars = refl; lists = refl }
macros_alike a above (element tag own more) used d (here, (n, is, later)) =
    let g = any_of (codes "def-macro" ∷ []) in
    let y = in_last tag.name g used n is in
    let first = among_each (λ word. Stands a above (tag_as word tag) own →
    Alike (defined_after (tag_as word tag) (defined_in d own)) d) (codes "def-macro" ∷ [])
    tag.name (
      λ z. (let r = as_row a above (tag_as (codes "def-macro") tag) own _ refl z in
          subst (λ (e : Defined). Alike (defined_after (tag_as (codes "def-macro") tag) e) d)
          (sym (quiet (around_within a (tag_as (codes "def-macro") tag) own) above
          (statements_group, 0)
          own d refl r.1)) (macro_alike (value_of (codes "n") tag.attributes) tag d)),
      tt,
    ) y.0 here in
    alike (defined_in (defined_after tag (defined_in d own)) more)
    (defined_after tag (defined_in d own)) d
    (macros_alike a (defined_after tag (defined_in above own)) more (used + 1)
    (defined_after tag (defined_in d own))
    (behind_one a above (g ∷ [], used + 1) own more tag n y.2 later)) first

-- rules

count_items : (cats : List (List ℕ)) (own : Children) (items : List PatternItem) →
    AreEach (IsPatternItem cats) own items → count_named (codes "pattern-item") own ≡ length items
count_items cats nothing [] are = refl
count_items cats nothing (x ∷ xs) are = absurd are
count_items cats (element tag own more) [] are = absurd are
count_items cats (element tag own more) (x ∷ xs) ((name, is), rest) =
    ap (λ (b : Bool). cond b 1 0 + count_named (codes "pattern-item") more)
    (by_name (λ t. is_named (codes "pattern-item") t ≡ true) tag (codes "pattern-item") name refl)
    ∙ ap (λ (k : ℕ). 1 + k) (count_items cats more xs rest) ∙ omega arith

-- a pattern
record Pattern (s : Scope) (d : Defined) (tag : Tag) (own : Children) : Type 0 where
  items : List PatternItem
  kind_is : tag.name ≡ codes "pattern"
  found : is_named (codes "pattern") tag ≡ true
  items_are : AreEach (IsPatternItem s.names.cats) own items
  count : count_named (codes "pattern-item") own ≡ length items
  fits : is_length s.form (length items) ≡ true
  after : defined_after tag (defined_in d own) ≡ d

pattern_stands : (s : Scope) (all d : Defined) (parent : List ℕ) (reach : Reach) (tag : Tag)
    (own : Children) → Numbers all s.names →
    Stands (outside (record s { reach = reach }) all parent) d (tag_as (codes "pattern") tag) own →
    Pattern s d (tag_as (codes "pattern") tag) own
pattern_stands s all d parent reach tag own same z =
    let a = outside (record s { reach = reach }) all parent in
    let r = as_row a d (tag_as (codes "pattern") tag) own _ refl z in
    let inside = around_within a (tag_as (codes "pattern") tag) own in
    let items = each_stand (codes "pattern-item") (IsPatternItem s.names.cats) inside d own 0 refl
    (λ t i w. (let n = numbered all.cats s.names.cats (name_of t.attributes) same.cats
    w.1.right.defined in (record { n = n.0 }, (refl, n.1)))) r.1 in
    let count = count_items s.names.cats own items.0 items.1 in
    record {
      items = items.0;
      kind_is = refl;
      found = refl;
      items_are = items.1;
      count = count;
      fits = subst (λ (k : ℕ). is_length s.form k ≡ true) count
          (not_false (is_length s.form (count_named (codes "pattern-item") own)) r.0.right.lengthy);
      after = ap (λ (e : Defined). defined_after (tag_as (codes "pattern") tag) e)
          (quiet inside d (any_of (codes "pattern-item" ∷ []) ∷ [], 0) own d refl r.1)
          ∙ defines_nothing (tag_as (codes "pattern") tag) d refl;
    }

-- an action
action_stands : (s : Scope) (all d : Defined) (parent : List ℕ) (tag : Tag) (own : Children) →
    Numbers all s.names → Calls d s.names →
    Stands (outside s all parent) d (tag_as (codes "action") tag) own →
    (sts : List PlainStatement) × AreStatements s own (statements_of sts)
action_stands s all d parent tag own same calls z =
    let r = as_row (outside s all parent) d (tag_as (codes "action") tag) own _ refl z in
    statements_stand s all d (codes "action") own same calls 0 r.1

no_action : AreFew (one (codes "pattern" ∷ []) ∷ one (codes "action" ∷ []) ∷ []) (codes "pattern"
    ∷ [])
no_action = (λ t o. refl, tt)

-- what stands around a pattern and an action, by how many items there are
abbrev read_with : Scope → Children → Scope
read_with s own = record s {
  reach = rule_reach s.form (count_named (codes "pattern-item") (within (codes "pattern") own));
}

abbrev Halves : Scope → Defined → Defined → Children → Type 0
Halves s all d own = AreTwo (outside (read_with s own) all (codes "rule")) d (codes "pattern" ∷ [])
    (codes "action" ∷ []) own

abbrev Action : Scope → Children → Tag → Children → Type 0
Action s own tag inner = (sts : List PlainStatement) × ((tag.name ≡ codes "action")
    × AreStatements (read_with s own) inner (statements_of sts))

second_half : (s : Scope) (all d : Defined) (own : Children) → Numbers all s.names →
    Calls d s.names → (them : Halves s all d own) → Pattern s d them.tag them.inner →
    Action s own them.other them.within
second_half s all d own same calls them p =
    let inside = outside (read_with s own) all (codes "rule") in
    among_each (λ word. Stands inside d (tag_as word them.other) them.within →
    Action s own (tag_as word them.other) them.within) (codes "action" ∷ []) them.other.name (
      λ w. (let sts = action_stands (read_with s own) all d (codes "rule") them.other them.within
          same
          calls w in (sts.0, (refl, sts.1))),
      tt,
    ) them.other_in
    (subst (λ (e : Defined). Stands inside e them.other them.within) p.after them.other_stands)

-- the positions are those of as many items as the pattern has
reach_is : (s : Scope) (all d : Defined) (own : Children) → (them : Halves s all d own) →
    (p : Pattern s d them.tag them.inner) →
    rule_reach s.form (count_named (codes "pattern-item") (within (codes "pattern") own))
    ≡ rule_reach s.form (length p.items)
reach_is s all d own them p =
    ap (λ (k : Children). rule_reach s.form (count_named (codes "pattern-item")
    (within (codes "pattern") k))) them.own_is
    ∙ ap (λ (b : Bool). rule_reach s.form (count_named (codes "pattern-item") (cond b them.inner
    (within (codes "pattern") (element them.other them.within nothing))))) p.found
    ∙ ap (rule_reach s.form) p.count

halves_stand : (s : Scope) (all d : Defined) (tag : Tag) (own : Children) →
    (them : Halves s all d own) → Pattern s d them.tag them.inner →
    Action s own them.other them.within → (r : PlainRule) × IsRule s (tag_as (codes "rule") tag)
    own r
halves_stand s all d tag own them p act =
    let made : PlainRule = record { line = tag.line; pattern = p.items; action = act.0 } in
    let body : AreStatements (rule_scope s (length p.items)) them.within (statements_of act.0) =
    subst (λ (q : Reach). AreStatements (record s { reach = q }) them.within (statements_of act.0))
    (reach_is s all d own them p) act.1.1 in (
      made,
      (
        refl,
        refl,
        subst (λ (k : Children). ArePatternAndAction s k made) (sym them.own_is)
            (p.kind_is, act.1.0, p.items_are, p.fits, body),
      ),
    )

rule_stands : (s : Scope) (all d : Defined) (parent : List ℕ) (tag : Tag) (own : Children) →
    Numbers all s.names → Calls d s.names →
    Stands (outside s all parent) d (tag_as (codes "rule") tag) own →
    (r : PlainRule) × IsRule s (tag_as (codes "rule") tag) own r
rule_stands s all d parent tag own same calls z =
    let inside = outside (read_with s own) all (codes "rule") in
    let r = as_row (outside s all parent) d (tag_as (codes "rule") tag) own _ refl z in
    let them = one_each inside d (codes "pattern" ∷ []) (codes "action" ∷ []) own refl no_action
    r.0.enough r.1 in
    let p = among_each (λ word. Stands inside d (tag_as word them.tag) them.inner →
    Pattern s d (tag_as word them.tag) them.inner) (codes "pattern" ∷ []) them.tag.name (
      λ w. pattern_stands s all d (codes "rule") (read_with s own).reach them.tag them.inner same w,
      tt,
    ) them.tag_in them.tag_stands in
    halves_stand s all d tag own them p (second_half s all d own same calls them p)

pub rules_stand : (s : Scope) (all d : Defined) (parent : List ℕ) (own : Children) (used : ℕ) →
    Numbers all s.names → Calls d s.names →
    Clean (outside s all parent) d (any_of (codes "rule" ∷ []) ∷ [], used) own →
    (rs : List PlainRule) × AreEach (IsRule s) own rs
rules_stand s all d parent own used same calls c =
    each_stand (codes "rule") (IsRule s) (outside s all parent) d own used refl
    (λ t i z. rule_stands s all d parent t i same calls z) c
