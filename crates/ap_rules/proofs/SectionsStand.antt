-- A tree without fault is rules by the table.
use Rattle.std.proofs.Common.{◌≡◌, inl, inr, ℕ, Bool, true, false, not, ◌&&◌, cond, List, [], ◌∷◌, refl, sym, ap, ◌∙◌, subst, Option, Some, None, codes}
use Rattle.std.specs.Str.{bytes_eq}
use Rattle.std.proofs.lemmas.Slice.Eq.{bytes_eq-Decides}
use Rattle.ap_markup.specs.Faults.{Expected, next}
use Rattle.ap_markup.specs.Names.{is_among}
use Rattle.ap_markup.specs.Rules.{sections}
use Rattle.ap_markup.specs.Said.{value_of}
use Rattle.ap_markup.specs.Table.{Content, Line, line_in}
use Rattle.ap_markup.specs.TableRows.{any_of, at_most_one, element as line_of}
use Rattle.ap_markup.specs.Tree.{Tag}
use Rattle.ap_rules.specs.Children.{Children, nothing, element, within}
use Rattle.ap_rules.specs.Defining.{none_defined, defined_named, defined_after, defined_in}
use Rattle.ap_rules.specs.Faults.{Around, around_within, holds_chunks, reach_to}
use Rattle.ap_rules.specs.Plain.{PlainRules}
use Rattle.ap_rules.specs.SectionRows.{AreEach, AreNames, IsCategory, IsAttribute, IsVariable, IsList, AreMacros, IsRule, AreInOrder, AreSections}
use Rattle.ap_rules.specs.Sections.{default_of, rules_scope}
use Rattle.ap_rules.specs.Values.{Scope}
use Rattle.ap_rules.specs.declared.defined.Defined.{Defined}
use Rattle.ap_rules.specs.declared.rules.Form.{Form}
use Rattle.ap_rules.proofs.DefinitionsStand.{Definers, definitions_stand, categories_define, attributes_define, variables_define, lists_define}
use Rattle.ap_rules.proofs.Faultless.{rows_of, Clean, Stands, false_true, none_some, both}
use Rattle.ap_rules.proofs.Placing.{among_each, step, past, behind_one, as_row, quiet}
use Rattle.ap_rules.proofs.RulesStand.{macros_stand, Alike, macros_alike, rules_stand}
use Rattle.ap_rules.proofs.ValuesRead.{tag_as}
use Rattle.ap_rules.proofs.ValuesStand.{outside, Numbers}

-- no group has an element of this name
abbrev is_absent : List ℕ → List Content → Bool
is_absent name [] = true
is_absent name (g ∷ gs) = not (is_among name g.names) && is_absent name gs

next_absent : (name other : List ℕ) (gs : List Content) (used : ℕ) (n : Expected) →
    is_absent name gs ≡ true → next other gs used ≡ Some n →
    (bytes_eq name other ≡ false) × (is_absent name n.0 ≡ true)
next_absent name other [] used n none e = none_some n e
next_absent name other (g ∷ gs) used n none e =
    let two = both (not (is_among name g.names)) (is_absent name gs) none in
    elim (step other g gs used n e) [
      | inl x ↦ (
        by (bytes_eq name other) refl two.0 x.0,
        subst (λ (z : Expected). is_absent name z.0 ≡ true) x.2 none,
      )
      | inr y ↦ next_absent name other gs 0 n two.1 y.1
    ]
  where
    by : (b : Bool) → bytes_eq name other ≡ b → not (is_among name g.names) ≡ true →
        is_among other g.names ≡ true → bytes_eq name other ≡ false
    by false e h k = e
    by true e h k = false_true (sym (ap not
        (ap (λ (word : List ℕ). is_among word g.names) ((bytes_eq-Decides name other).0 e) ∙ k))
        ∙ h)

nowhere : (a : Around) (d : Defined) (gs : List Content) (used : ℕ) (own : Children)
    (name : List ℕ) → is_absent name gs ≡ true → Clean a d (gs, used) own →
    within name own ≡ nothing
nowhere a d gs used nothing name none c = refl
nowhere a d gs used (element tag inner more) name none (here, (n, is, later)) =
    let x = next_absent name tag.name gs used n none is in
    ap (λ (b : Bool). cond b inner (within name more)) x.0
    ∙ nowhere a (defined_after tag (defined_in d inner)) n.0 n.1 more name x.1 later

-- The first of the sections that may stand next, or none: what stands within it, what stands behind
-- it, and the names above that.
record Section (s : Scope) (all d : Defined) (root name : List ℕ) (l : Line) (gs : List Content)
    (own : Children) : Type 0 where
  inner : Children
  more : Children
  found : within name own ≡ inner
  others : (other : List ℕ) → bytes_eq other name ≡ false → within other own ≡ within other more
  order : (names : List (List ℕ)) → AreInOrder names more → AreInOrder (name ∷ names) own
  inside : Clean (outside s all name) d (l.groups, 0) inner
  later : Clean (outside s all root) (defined_in d inner) (gs, 0) more
  through : defined_in d own ≡ defined_in (defined_in d inner) more

-- the element of this name has this row, holds none positions of its own and defines nothing
record IsSection (form : Form) (name : List ℕ) (l : Line) : Type 0 where
  row : line_in name (rows_of form) ≡ Some l
  plain : (s : Scope) (all : Defined) (root : List ℕ) (tag : Tag) (inner : Children) →
      around_within (outside s all root) (tag_as name tag) inner ≡ outside s all name
  quietly : (o : Option (List ℕ)) (tag : Tag) (d : Defined) → defined_named o (tag_as name tag) d
      ≡ d

section_begun : (s : Scope) (all d : Defined) (root name : List ℕ) (l : Line) (gs : List Content)
    (tag : Tag) (inner more : Children) → IsSection s.form name l →
    Stands (outside s all root) d (tag_as name tag) inner →
    Clean (outside s all root) (defined_after (tag_as name tag) (defined_in d inner)) (gs, 0) more →
    Section s all d root name l gs (element (tag_as name tag) inner more)
section_begun s all d root name l gs tag inner more is z c =
    let r = as_row (outside s all root) d (tag_as name tag) inner l is.row z in
    let same = is.quietly (value_of (codes "n") tag.attributes) tag (defined_in d inner) in
    record {
      inner = inner;
      more = more;
      found = ap (λ (b : Bool). cond b inner (within name more)) ((bytes_eq-Decides name name).1
          refl);
      others = λ other h. ap (λ (b : Bool). cond b inner (within other more)) h;
      order = λ names x. inl (refl, x);
      inside = subst (λ (a : Around). Clean a d (l.groups, 0) inner) (is.plain s all root tag inner)
          r.1;
      later = subst (λ (e : Defined). Clean (outside s all root) e (gs, 0) more) same c;
      through = ap (λ (e : Defined). defined_in e more) same;
    }

section_next : (s : Scope) (all d : Defined) (root name : List ℕ) (l : Line) (gs : List Content)
    (own : Children) → IsSection s.form name l → is_absent name gs ≡ true →
    Clean (outside s all root) d (at_most_one (name ∷ []) ∷ gs, 0) own →
    Section s all d root name l gs own
section_next s all d root name l gs nothing is none c = record {
  inner = nothing;
  more = nothing;
  found = refl;
  others = λ other h. refl;
  order = λ names x. tt;
  inside = tt;
  later = tt;
  through = refl;
}
section_next s all d root name l gs (element tag inner more) is none (here, (n, e, later)) =
    let a = outside s all root in
    elim (step tag.name (at_most_one (name ∷ [])) gs 0 n e) [
      | inl y ↦
          (let c = past a (defined_after tag (defined_in d inner)) (at_most_one (name ∷ [])) gs 1
          more
          refl (behind_one a d (at_most_one (name ∷ []) ∷ gs, 1) inner more tag n y.2 later) in
          among_each (λ word. Stands a d (tag_as word tag) inner →
          Clean a (defined_after (tag_as word tag) (defined_in d inner)) (gs, 0) more →
          Section s all d root name l gs (element (tag_as word tag) inner more)) (name ∷ [])
          tag.name
          (λ z k. section_begun s all d root name l gs tag inner more is z k, tt) y.0 here c)
      | inr y ↦ record {
        inner = nothing;
        more = element tag inner more;
        found = nowhere a d gs 0 (element tag inner more) name none (here, (n, y.1, later));
        others = λ other h. refl;
        order = λ names x. inr x;
        inside = tt;
        later = (here, (n, y.1, later));
        through = refl;
      }
    ]

-- the names above what stands behind a section
behind_known : (s : Scope) (all d e : Defined) (root : List ℕ) (gs : List Content)
    (own : Children) → d ≡ e → Clean (outside s all root) d (gs, 0) own →
    Clean (outside s all root) e (gs, 0) own
behind_known s all d e root gs own same c =
    subst (λ (z : Defined). Clean (outside s all root) z (gs, 0) own) same c

no_more : (a : Around) (d : Defined) (own : Children) → Clean a d ([], 0) own → own ≡ nothing
no_more a d nothing c = refl
no_more a d (element tag inner more) (here, (n, is, later)) = none_some n is

abbrev section_line : List ℕ → List ℕ → Line
section_line name kind = line_of name [] [] (any_of (kind ∷ []) ∷ [])

quietly : (name : List ℕ) → ((other : List ℕ) (tag : Tag) (d : Defined) →
    defined_named (Some other) (tag_as name tag) d ≡ d) → (o : Option (List ℕ)) (tag : Tag)
    (d : Defined) → defined_named o (tag_as name tag) d ≡ d
quietly name h None tag d = refl
quietly name h (Some other) tag d = h other tag d

-- the sections that may stand behind each
abbrev rules_next : List Content
rules_next = at_most_one (codes "section-rules" ∷ []) ∷ []

abbrev macros_next : List Content
macros_next = at_most_one (codes "section-def-macros" ∷ []) ∷ rules_next

abbrev lists_next : List Content
lists_next = at_most_one (codes "section-def-lists" ∷ []) ∷ macros_next

abbrev vars_next : List Content
vars_next = at_most_one (codes "section-def-vars" ∷ []) ∷ lists_next

abbrev attrs_next : List Content
attrs_next = at_most_one (codes "section-def-attrs" ∷ []) ∷ vars_next

-- A section whose elements define names: what it defines, and what stands behind it.
record Stage {A : Type 0} (s : Scope) (all d : Defined) (root name kind : List ℕ)
    (get : Defined → List (List ℕ)) (set : Defined → List (List ℕ) → Defined)
    (Is : Tag → Children → A → Type 0) (gs : List Content) (own : Children) : Type 0 where
  names : List (List ℕ)
  things : List A
  more : Children
  names_are : AreNames kind (get d) (within name own) names
  things_are : AreEach Is (within name own) things
  others : (other : List ℕ) → bytes_eq other name ≡ false → within other own ≡ within other more
  order : (ns : List (List ℕ)) → AreInOrder ns more → AreInOrder (name ∷ ns) own
  later : Clean (outside s all root) (set d names) (gs, 0) more
  through : defined_in d own ≡ defined_in (set d names) more

stage : {A : Type 0} (s : Scope) (all d : Defined) (root name kind : List ℕ)
    (get : Defined → List (List ℕ)) (set : Defined → List (List ℕ) → Defined)
    (Is : Tag → Children → A → Type 0) (gs : List Content) (own : Children) →
    IsSection s.form name (section_line name kind) → is_absent name gs ≡ true →
    Definers kind get set Is (outside s all name) →
    Clean (outside s all root) d (at_most_one (name ∷ []) ∷ gs, 0) own →
    Stage s all d root name kind get set Is gs own
stage s all d root name kind get set Is gs own is none define c =
    let it = section_next s all d root name (section_line name kind) gs own is none c in
    let made = definitions_stand kind get set Is (outside s all name) d it.inner 0 define
    it.inside in
    record {
      names = made.names;
      things = made.things;
      more = it.more;
      names_are = subst (λ (k : Children). AreNames kind (get d) k made.names) (sym it.found)
          made.names_are;
      things_are = subst (λ (k : Children). AreEach Is k made.things) (sym it.found)
          made.things_are;
      others = it.others;
      order = it.order;
      later = behind_known s all (defined_in d it.inner) (set d made.names) root gs it.more
          made.after
          it.later;
      through = it.through ∙ ap (λ (e : Defined). defined_in e it.more) made.after;
    }

abbrev with_cats : Defined → List (List ℕ) → Defined
with_cats d names = record d { cats = names }

abbrev with_attrs : Defined → List (List ℕ) → Defined
with_attrs d names = record d { attrs = names }

abbrev with_vars : Defined → List (List ℕ) → Defined
with_vars d names = record d { vars = names }

abbrev with_lists : Defined → List (List ℕ) → Defined
with_lists d names = record d { lists = names }

abbrev Cats : Scope → Defined → Defined → List ℕ → Children → Type 0
Cats s all d root own = Stage s all d root (codes "section-def-cats") (codes "def-cat")
    (λ e. e.cats) with_cats (IsCategory s.form) attrs_next own

abbrev Attrs : Scope → Defined → Defined → List ℕ → Children → Type 0
Attrs s all d root own = Stage s all d root (codes "section-def-attrs") (codes "def-attr")
    (λ e. e.attrs) with_attrs IsAttribute vars_next own

abbrev Vars : Scope → Defined → Defined → List ℕ → Children → Type 0
Vars s all d root own = Stage s all d root (codes "section-def-vars") (codes "def-var")
    (λ e. e.vars) with_vars IsVariable lists_next own

abbrev Lists : Scope → Defined → Defined → List ℕ → Children → Type 0
Lists s all d root own = Stage s all d root (codes "section-def-lists") (codes "def-list")
    (λ e. e.lists) with_lists IsList macros_next own

abbrev MacroSection : Scope → Defined → Defined → List ℕ → Children → Type 0
MacroSection s all d root own = Section s all d root (codes "section-def-macros")
    (section_line (codes "section-def-macros") (codes "def-macro")) rules_next own

abbrev RuleSection : Scope → Defined → Defined → List ℕ → Children → Type 0
RuleSection s all d root own = Section s all d root (codes "section-rules")
    (section_line (codes "section-rules") (codes "rule")) [] own

-- what the sections are read with, before any name
abbrev pub first_scope : Form → Tag → Scope
first_scope form tag =
    rules_scope form (holds_chunks form (value_of (codes "default") tag.attributes)) none_defined

-- the names of the sections, without those of macros
abbrev names_of : List (List ℕ) → List (List ℕ) → List (List ℕ) → List (List ℕ) → Defined
names_of cats attrs vars lists = record {
  cats = cats;
  attrs = attrs;
  vars = vars;
  lists = lists;
  macros = [];
  npars = [];
}

-- the names of the whole file are those of the sections, with those of the macros
numbers_of : (all names last : Defined) → all ≡ last → Alike last names → Numbers all names
numbers_of all names last e same = record {
  cats = ap (λ (d : Defined). d.cats) e ∙ same.cats;
  attrs = ap (λ (d : Defined). d.attrs) e ∙ same.attrs;
  vars = ap (λ (d : Defined). d.vars) e ∙ same.vars;
  lists = ap (λ (d : Defined). d.lists) e ∙ same.lists;
}

with_all : (form : Form) (tag : Tag) (own : Children) →
    (cats : Cats (first_scope form tag) (defined_in none_defined own) none_defined tag.name own) →
    (attrs : Attrs (first_scope form tag) (defined_in none_defined own)
    (names_of cats.names [] [] []) tag.name cats.more) →
    (vars : Vars (first_scope form tag) (defined_in none_defined own)
    (names_of cats.names attrs.names [] []) tag.name attrs.more) →
    (lists : Lists (first_scope form tag) (defined_in none_defined own)
    (names_of cats.names attrs.names vars.names []) tag.name vars.more) →
    (ms : MacroSection (first_scope form tag) (defined_in none_defined own)
    (names_of cats.names attrs.names vars.names lists.names) tag.name lists.more) →
    (rs : RuleSection (first_scope form tag) (defined_in none_defined own)
    (defined_in (names_of cats.names attrs.names vars.names lists.names) ms.inner) tag.name
    ms.more) →
    (r : PlainRules) × AreSections form tag own r
with_all form tag own cats attrs vars lists ms rs =
    let all = defined_in none_defined own in
    let chunks = holds_chunks form (value_of (codes "default") tag.attributes) in
    let names = names_of cats.names attrs.names vars.names lists.names in
    let last = defined_in names ms.inner in
    let s = first_scope form tag in
    let over : rs.more ≡ nothing = no_more (outside s all tag.name) (defined_in last rs.inner)
    rs.more
    rs.later in
    let all_is : all ≡ last = cats.through ∙ attrs.through ∙ vars.through ∙ lists.through
    ∙ ms.through ∙ rs.through ∙ ap (defined_in (defined_in last rs.inner)) over
    ∙ quiet (outside s all (codes "section-rules")) last (any_of (codes "rule" ∷ []) ∷ [], 0)
    rs.inner
    last refl rs.inside in
    let same = numbers_of all names last all_is
    (macros_alike (outside s all (codes "section-def-macros")) names ms.inner 0 names ms.inside) in
    let macros = macros_stand form chunks all names names (codes "section-def-macros")
    (reach_to form 0) ms.inner 0 same (record { macros = refl; npars = refl; even = refl })
    ms.inside
    in
    let rules = rules_stand (rules_scope form chunks macros.after) all last (codes "section-rules")
    rs.inner 0 macros.numbers macros.calls rs.inside in
    let attrs_in = cats.others (codes "section-def-attrs") refl in
    let vars_in = cats.others (codes "section-def-vars") refl
    ∙ attrs.others (codes "section-def-vars") refl in
    let lists_in = cats.others (codes "section-def-lists") refl
    ∙ attrs.others (codes "section-def-lists") refl ∙ vars.others (codes "section-def-lists")
    refl in
    let macros_in : within (codes "section-def-macros") own ≡ ms.inner =
    cats.others (codes "section-def-macros") refl
    ∙ attrs.others (codes "section-def-macros") refl ∙ vars.others (codes "section-def-macros") refl
    ∙ lists.others (codes "section-def-macros") refl ∙ ms.found in
    let rules_in : within (codes "section-rules") own ≡ rs.inner =
    cats.others (codes "section-rules") refl ∙ attrs.others (codes "section-rules") refl
    ∙ vars.others (codes "section-rules") refl ∙ lists.others (codes "section-rules") refl
    ∙ ms.others (codes "section-rules") refl ∙ rs.found in (
      record {
        form = form;
        line = tag.line;
        default = default_of form (value_of (codes "default") tag.attributes);
        categories = cats.things;
        attributes = attrs.things;
        variables = vars.things;
        lists = lists.things;
        macros = macros.macros;
        rules = rules.0;
      },
      record {
        names = names;
        after = macros.after;
        form_is = refl;
        line = refl;
        default = refl;
        order = cats.order _ (attrs.order _ (vars.order _ (lists.order _ (ms.order _ (rs.order []
            (subst (AreInOrder []) (sym over) tt))))));
        cats = cats.names_are;
        attrs = subst (λ (k : Children). AreNames (codes "def-attr") [] k attrs.names) (sym
            attrs_in)
            attrs.names_are;
        vars = subst (λ (k : Children). AreNames (codes "def-var") [] k vars.names) (sym vars_in)
            vars.names_are;
        list_names = subst (λ (k : Children). AreNames (codes "def-list") [] k lists.names)
            (sym lists_in) lists.names_are;
        no_macros = refl;
        no_npars = refl;
        categories = cats.things_are;
        attributes = subst (λ (k : Children). AreEach IsAttribute k attrs.things) (sym attrs_in)
            attrs.things_are;
        variables = subst (λ (k : Children). AreEach IsVariable k vars.things) (sym vars_in)
            vars.things_are;
        lists = subst (λ (k : Children). AreEach IsList k lists.things) (sym lists_in)
            lists.things_are;
        macros = subst (λ (k : Children). AreMacros form chunks names k macros.macros macros.after)
            (sym macros_in) macros.macros_are;
        rules = subst (λ (k : Children). AreEach (IsRule (rules_scope form chunks macros.after)) k
            rules.0) (sym rules_in) rules.1;
      },
    )

-- the walk over the sections, each behind those before it

from_macros : (form : Form) (tag : Tag) (own : Children) →
    (cats : Cats (first_scope form tag) (defined_in none_defined own) none_defined tag.name own) →
    (attrs : Attrs (first_scope form tag) (defined_in none_defined own)
    (names_of cats.names [] [] []) tag.name cats.more) →
    (vars : Vars (first_scope form tag) (defined_in none_defined own)
    (names_of cats.names attrs.names [] []) tag.name attrs.more) →
    (lists : Lists (first_scope form tag) (defined_in none_defined own)
    (names_of cats.names attrs.names vars.names []) tag.name vars.more) →
    MacroSection (first_scope form tag) (defined_in none_defined own)
    (names_of cats.names attrs.names vars.names lists.names) tag.name lists.more →
    (r : PlainRules) × AreSections form tag own r
from_macros form tag own cats attrs vars lists ms =
    with_all form tag own cats attrs vars lists ms
    (section_next (first_scope form tag) (defined_in none_defined own)
    (defined_in (names_of cats.names attrs.names vars.names lists.names) ms.inner) tag.name
    (codes "section-rules") (section_line (codes "section-rules") (codes "rule")) [] ms.more
    (record {
      row = refl;
      plain = λ s all root t i. refl;
      quietly = quietly (codes "section-rules") (λ o t d. refl);
    }) refl ms.later)

from_lists : (form : Form) (tag : Tag) (own : Children) →
    (cats : Cats (first_scope form tag) (defined_in none_defined own) none_defined tag.name own) →
    (attrs : Attrs (first_scope form tag) (defined_in none_defined own)
    (names_of cats.names [] [] []) tag.name cats.more) →
    (vars : Vars (first_scope form tag) (defined_in none_defined own)
    (names_of cats.names attrs.names [] []) tag.name attrs.more) →
    Lists (first_scope form tag) (defined_in none_defined own)
    (names_of cats.names attrs.names vars.names []) tag.name vars.more →
    (r : PlainRules) × AreSections form tag own r
from_lists form tag own cats attrs vars lists =
    from_macros form tag own cats attrs vars lists
    (section_next (first_scope form tag) (defined_in none_defined own)
    (names_of cats.names attrs.names vars.names lists.names) tag.name (codes "section-def-macros")
    (section_line (codes "section-def-macros") (codes "def-macro")) rules_next lists.more
    (record {
      row = refl;
      plain = λ s all root t i. refl;
      quietly = quietly (codes "section-def-macros") (λ o t d. refl);
    }) refl lists.later)

from_vars : (form : Form) (tag : Tag) (own : Children) →
    (cats : Cats (first_scope form tag) (defined_in none_defined own) none_defined tag.name own) →
    (attrs : Attrs (first_scope form tag) (defined_in none_defined own)
    (names_of cats.names [] [] []) tag.name cats.more) →
    Vars (first_scope form tag) (defined_in none_defined own)
    (names_of cats.names attrs.names [] []) tag.name attrs.more →
    (r : PlainRules) × AreSections form tag own r
from_vars form tag own cats attrs vars =
    from_lists form tag own cats attrs vars
    (stage (first_scope form tag) (defined_in none_defined own)
    (names_of cats.names attrs.names vars.names []) tag.name (codes "section-def-lists")
    (codes "def-list") (λ e. e.lists) with_lists IsList macros_next vars.more
    (record {
      row = refl;
      plain = λ s all root t i. refl;
      quietly = quietly (codes "section-def-lists") (λ o t d. refl);
    }) refl
    (lists_define (outside (first_scope form tag) (defined_in none_defined own)
    (codes "section-def-lists"))) vars.later)

from_attrs : (form : Form) (tag : Tag) (own : Children) →
    (cats : Cats (first_scope form tag) (defined_in none_defined own) none_defined tag.name own) →
    Attrs (first_scope form tag) (defined_in none_defined own)
    (names_of cats.names [] [] []) tag.name cats.more → (r : PlainRules) × AreSections form tag
    own r
from_attrs form tag own cats attrs =
    from_vars form tag own cats attrs
    (stage (first_scope form tag) (defined_in none_defined own)
    (names_of cats.names attrs.names [] []) tag.name (codes "section-def-vars") (codes "def-var")
    (λ e. e.vars) with_vars IsVariable lists_next attrs.more
    (record {
      row = refl;
      plain = λ s all root t i. refl;
      quietly = quietly (codes "section-def-vars") (λ o t d. refl);
    }) refl
    (variables_define (outside (first_scope form tag) (defined_in none_defined own)
    (codes "section-def-vars"))) attrs.later)

from_cats : (form : Form) (tag : Tag) (own : Children) →
    Cats (first_scope form tag) (defined_in none_defined own) none_defined tag.name own →
    (r : PlainRules) × AreSections form tag own r
from_cats form tag own cats =
    from_attrs form tag own cats
    (stage (first_scope form tag) (defined_in none_defined own) (names_of cats.names [] [] [])
    tag.name (codes "section-def-attrs") (codes "def-attr") (λ e. e.attrs) with_attrs IsAttribute
    vars_next cats.more
    (record {
      row = refl;
      plain = λ s all root t i. refl;
      quietly = quietly (codes "section-def-attrs") (λ o t d. refl);
    }) refl
    (attributes_define (outside (first_scope form tag) (defined_in none_defined own)
    (codes "section-def-attrs"))) cats.later)

pub sections_stand : (form : Form) (tag : Tag) (own : Children) →
    Clean (outside (first_scope form tag) (defined_in none_defined own) tag.name) none_defined
    (sections, 0) own → (r : PlainRules) × AreSections form tag own r
sections_stand form tag own c =
    from_cats form tag own
    (stage (first_scope form tag) (defined_in none_defined own) none_defined tag.name
    (codes "section-def-cats") (codes "def-cat") (λ e. e.cats) with_cats (IsCategory form)
    attrs_next
    own
    (record {
      row = refl;
      plain = λ s all root t i. refl;
      quietly = quietly (codes "section-def-cats") (λ o t d. refl);
    }) refl
    (categories_define (outside (first_scope form tag) (defined_in none_defined own)
    (codes "section-def-cats"))) c)
