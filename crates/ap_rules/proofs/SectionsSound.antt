-- The rules that a text spells are sound.
use Rattle.std.proofs.Common.{◌≡◌, ℕ, ◌+◌, ◌<◌, ◌≤◌, Bool, true, false, not, ◌&&◌, cond, List, [], ◌∷◌, ◌++◌, length, length-append, map, refl, sym, subst, ap, ◌∙◌, arith, append_assoc, append-nil, Option, Some, None, Result, Ok, Err, codes}
use Rattle.std.specs.Option.{option_map, option_to_list, unwrap_or}
use Rattle.ap_symbol.specs.declared.symbol.Symbol.{Symbol}
use Rattle.ap_markup.specs.Elements.{elements, Spelled}
use Rattle.ap_markup.specs.Marks.{mark_order}
use Rattle.ap_markup.specs.NameLists.{has_name, with_name, number_of}
use Rattle.ap_markup.specs.Pieces.{Pair}
use Rattle.ap_markup.specs.Said.{value_of, name_of, is_named}
use Rattle.ap_markup.specs.Sooner.{sooner}
use Rattle.ap_markup.specs.Tree.{Tag}
use Rattle.ap_rules.specs.Children.{Children, nothing, element, children, within, count_named}
use Rattle.ap_rules.specs.Defining.{npar_of, with_macro}
use Rattle.ap_rules.specs.Faults.{RuleMark, is_length, reach_to, rule_reach, is_chunk, holds_chunks, first_mark}
use Rattle.ap_rules.specs.Plain.{PlainMacro, PlainRule, PlainRules}
use Rattle.ap_rules.specs.Refusals.{kind_number}
use Rattle.ap_rules.specs.Sections.{names_behind, tagged, item_of, cat_items, categories, attr_item, attr_items, attributes, variables, lists, macro_scope, macro, past_macro, is_macro, macros, past_macros, pattern_item, pattern_items, rule_scope, rule_with, rule, rules, default_of, section_names, rules_scope, rules_of}
use Rattle.ap_rules.specs.Soundness.{Opt, Each, Bounds, IsWithin, IsTag, IsSoundStatement, have_chunks, bounds_in, npar_in, AreSoundMacros, IsSoundPatternItem, IsSoundRule, IsSoundCatItem, IsSoundCat, IsSoundAttrItem, IsSoundAttr, IsSound}
use Rattle.ap_rules.specs.Spelling.{table_of, mark_of, no_tag, rules_in, decided, judged, spelled, Spells}
use Rattle.ap_rules.specs.Statements.{statements}
use Rattle.ap_rules.specs.Texts.{number_in, tags_of, given_text}
use Rattle.ap_rules.specs.Values.{Scope}
use Rattle.ap_rules.specs.declared.defined.Defined.{Defined}
use Rattle.ap_rules.specs.declared.faults.Reach.{Reach}
use Rattle.ap_rules.specs.declared.refusal.RuleFault.{RuleFault}
use Rattle.ap_rules.specs.declared.rules.CatItem.{CatItem}
use Rattle.ap_rules.specs.declared.rules.DefCat.{DefCat}
use Rattle.ap_rules.specs.declared.attribute.AttrItem.{AttrItem}
use Rattle.ap_rules.specs.declared.rules.DefaultPiece.{DefaultPiece}
use Rattle.ap_rules.specs.declared.rules.DefaultPiece.TheVariants.{Chunk, Lu}
use Rattle.ap_rules.specs.declared.rules.Form.{Form}
use Rattle.ap_rules.specs.declared.rules.Form.TheVariants.{Transfer, Interchunk, Postchunk}
use Rattle.ap_rules.specs.declared.rules.PatternItem.{PatternItem}
use Rattle.ap_rules.proofs.Sound.{each_opt, each_both, each_if, number_within, number_below, tags_sound, Counts, bounds, Fits, statements_sound}

-- categories and attributes

tagged_sound : (given : List Pair) (o : Option (List Symbol)) → Opt (Each (IsTag true)) o →
    Opt IsSoundCatItem (tagged given o)
tagged_sound given None h = tt
tagged_sound given (Some tags) h = h

item_sound : (form : Form) (given : List Pair) → Opt IsSoundCatItem (item_of form given)
item_sound Postchunk given = tt
item_sound Transfer given =
    tagged_sound given (tags_of true (given_text (value_of (codes "tags") given)))
    (tags_sound true (given_text (value_of (codes "tags") given)))
item_sound Interchunk given =
    tagged_sound given (tags_of true (given_text (value_of (codes "tags") given)))
    (tags_sound true (given_text (value_of (codes "tags") given)))

items_sound : (form : Form) (own : Children) → Each IsSoundCatItem (cat_items form own)
items_sound form nothing = tt
items_sound form (element tag inner more) =
    let o = item_of form tag.attributes in
    each_if IsSoundCatItem (is_named (codes "cat-item") tag)
    (option_to_list o ++ cat_items form more) (cat_items form more)
    (each_both IsSoundCatItem (option_to_list o) (cat_items form more)
    (each_opt IsSoundCatItem o (item_sound form tag.attributes)) (items_sound form more))
    (items_sound form more)

categories_sound : (form : Form) (own : Children) → Each IsSoundCat (categories form own)
categories_sound form nothing = tt
categories_sound form (element tag inner more) =
    by (is_named (codes "def-cat") tag) (categories_sound form more)
  where
    cat : DefCat
    cat = record { items = cat_items form inner }

    by : (t : Bool) → Each IsSoundCat (categories form more) →
        Each IsSoundCat (cond t (cat ∷ categories form more) (categories form more))
    by true k = (items_sound form inner, k)
    by false k = k

attr_item_sound : (o : Option (List Symbol)) → Opt (Each (IsTag false)) o →
    Opt IsSoundAttrItem (attr_item o)
attr_item_sound None h = tt
attr_item_sound (Some tags) h = h

attr_items_sound : (own : Children) → Each IsSoundAttrItem (attr_items own)
attr_items_sound nothing = tt
attr_items_sound (element tag inner more) =
    let text = given_text (value_of (codes "tags") tag.attributes) in
    let o = attr_item (tags_of false text) in
    each_if IsSoundAttrItem (is_named (codes "attr-item") tag) (option_to_list o ++ attr_items more)
    (attr_items more)
    (each_both IsSoundAttrItem (option_to_list o) (attr_items more)
    (each_opt IsSoundAttrItem o (attr_item_sound (tags_of false text) (tags_sound false text)))
    (attr_items_sound more))
    (attr_items_sound more)

attributes_sound : (own : Children) → Each IsSoundAttr (attributes own)
attributes_sound nothing = tt
attributes_sound (element tag inner more) =
    by (is_named (codes "def-attr") tag) (attributes_sound more)
  where
    attr : List AttrItem
    attr = attr_items inner

    by : (t : Bool) → Each IsSoundAttr (attributes more) →
        Each IsSoundAttr (cond t (attr ∷ attributes more) (attributes more))
    by true k = (attr_items_sound inner, k)
    by false k = k

-- names are no more than what they name

with_few : (b : Bool) (names : List (List ℕ)) (name : List ℕ) →
    length (cond b names (names ++ name ∷ [])) ≤ length names + 1
with_few true names name = omega arith
with_few false names name = omega (arith, length-append names (name ∷ []))

names_few : (kind : List ℕ) (names : List (List ℕ)) (own : Children) →
    length (names_behind kind names own) ≤ length names + count_named kind own
names_few kind names nothing = omega arith
names_few kind names (element tag inner more) =
    by (is_named kind tag) (λ ns. names_few kind ns more)
  where
    by : (t : Bool) → ((ns : List (List ℕ)) →
        length (names_behind kind ns more) ≤ length ns + count_named kind more) →
        length (names_behind kind (cond t (with_name names (name_of tag.attributes)) names) more) ≤
        length names + (cond t 1 0 + count_named kind more)
    by true k = omega (
      arith,
      k (with_name names (name_of tag.attributes)),
      with_few (has_name names (name_of tag.attributes)) names (name_of tag.attributes),
    )
    by false k = omega (arith, k names)

count_either : {A : Type 0} (t : Bool) (x : A) (xs : List A) (k : ℕ) → length xs ≡ k →
    length (cond t (x ∷ xs) xs) ≡ cond t 1 0 + k
count_either true x xs k e = omega (arith, e)
count_either false x xs k e = omega (arith, e)

categories_count : (form : Form) (own : Children) → length (categories form own)
    ≡ count_named (codes "def-cat") own
categories_count form nothing = refl
categories_count form (element tag inner more) =
    count_either (is_named (codes "def-cat") tag) (record { items = cat_items form inner })
    (categories form more) (count_named (codes "def-cat") more) (categories_count form more)

attributes_count : (own : Children) → length (attributes own) ≡ count_named (codes "def-attr") own
attributes_count nothing = refl
attributes_count (element tag inner more) =
    count_either (is_named (codes "def-attr") tag) (attr_items inner)
    (attributes more) (count_named (codes "def-attr") more) (attributes_count more)

variables_count : (own : Children) → length (variables own) ≡ count_named (codes "def-var") own
variables_count nothing = refl
variables_count (element tag inner more) =
    count_either (is_named (codes "def-var") tag) _ (variables more)
    (count_named (codes "def-var") more) (variables_count more)

lists_count : (own : Children) → length (lists own) ≡ count_named (codes "def-list") own
lists_count nothing = refl
lists_count (element tag inner more) =
    count_either (is_named (codes "def-list") tag) _ (lists more)
    (count_named (codes "def-list") more) (lists_count more)

-- what is kept of the names by macros
record Kept (before after : Defined) : Type 0 where
  cats : after.cats ≡ before.cats
  attrs : after.attrs ≡ before.attrs
  vars : after.vars ≡ before.vars
  lists : after.lists ≡ before.lists

-- the names with a further macro
abbrev further : Defined → Tag → Defined
further names tag = record names {
  macros = names.macros ++ name_of tag.attributes ∷ [];
  npars =
      names.npars ++ npar_of tag.attributes ∷ [];
}

macros_keep : (names : Defined) (own : Children) → Kept names (past_macros names own)
macros_keep names nothing = record { cats = refl; attrs = refl; vars = refl; lists = refl }
macros_keep names (element tag inner more) =
    by (is_named (codes "def-macro") tag) (has_name names.macros (name_of tag.attributes))
    (λ ns. macros_keep ns more)
  where
    by : (t h : Bool) → ((ns : Defined) → Kept ns (past_macros ns more)) →
        Kept names (past_macros (cond (t && not h) (cond h names (further names tag)) names) more)
    by true true go = go names
    by true false go =
        let k = go (further names tag) in
        record { cats = k.cats; attrs = k.attrs; vars = k.vars; lists = k.lists }
    by false h go = go names

macros_npars : (form : Form) (chunks : Bool) (names : Defined) (own : Children) →
    (past_macros names own).npars ≡ names.npars ++ map npar_in (macros form chunks names own)
macros_npars form chunks names nothing = sym (append-nil names.npars)
macros_npars form chunks names (element tag inner more) =
    by (is_named (codes "def-macro") tag) (has_name names.macros (name_of tag.attributes))
    (λ ns. macros_npars form chunks ns more)
  where
    by : (t h : Bool) → ((ns : Defined) → (past_macros ns more).npars ≡ ns.npars
        ++ map npar_in (macros form chunks ns more)) →
        (past_macros (cond (t && not h) (cond h names (further names tag)) names) more).npars
        ≡ names.npars ++ map npar_in
        (cond (t && not h) (macro form chunks names tag inner
        ∷ macros form chunks (cond h names (further names tag)) more)
        (macros form chunks names more))
    by true true go = go names
    by true false go =
        go (further names tag)
        ∙ append_assoc names.npars (npar_of tag.attributes ∷ [])
        (map npar_in (macros form chunks (further names tag) more))
    by false h go = go names

-- macros and rules

abbrev counts : PlainRules → Counts
counts r = record {
  attributes = length r.attributes;
  variables = length r.variables;
  lists =
      length r.lists;
}

record Named (names : Defined) (r : PlainRules) : Type 0 where
  attributes : length names.attrs ≤ length r.attributes
  variables : length names.vars ≤ length r.variables
  lists : length names.lists ≤ length r.lists

abbrev scope_with : Form → Bool → Defined → Reach → Scope
scope_with form chunks names reach =
    record { form = form; chunks = chunks; names = names; reach = reach }

abbrev bounds_with : (r : PlainRules) → Bool → List ℕ → Reach → Bounds
bounds_with r chunks npars reach =
    record {
      form = r.form;
      chunks = chunks;
      attributes = length r.attributes;
      variables =
          length r.variables;
      lists = length r.lists;
      npars = npars;
      reach = reach;
    }

fits_scope : (r : PlainRules) (s : Scope) → Named s.names r → Fits s (counts r)
fits_scope r s f = record { attributes = f.attributes; variables = f.variables; lists = f.lists }

sound_in : (r : PlainRules) (chunks : Bool) (names : Defined) (npars : List ℕ) (reach : Reach)
    (own : Children) → have_chunks r.form r.default ≡ chunks → names.npars ≡ npars → Named names r
    → Each (IsSoundStatement (bounds_in r npars reach))
    (statements (scope_with r.form chunks names reach) own)
sound_in r chunks names npars reach own e n f =
    subst (λ (b : Bounds). Each (IsSoundStatement b)
    (statements (scope_with r.form chunks names reach) own))
    (ap (λ (k : List ℕ). bounds_with r chunks k reach) n
    ∙ ap (λ (c : Bool). bounds_with r c npars reach) (sym e))
    (statements_sound (scope_with r.form chunks names reach) (counts r) own
    (fits_scope r (scope_with r.form chunks names reach) f))

small : (o : Option ℕ) → Opt (IsWithin 0 64) o → unwrap_or o 0 ≤ 64
small None h = omega arith
small (Some n) h = h.1

macros_sound : (r : PlainRules) (chunks : Bool) (names : Defined) (own : Children) →
    have_chunks r.form r.default ≡ chunks → Named names r →
    AreSoundMacros r names.npars (macros r.form chunks names own)
macros_sound r chunks names nothing e f = tt
macros_sound r chunks names (element tag inner more) e f =
    by (is_named (codes "def-macro") tag) (has_name names.macros (name_of tag.attributes))
    (λ ns g. macros_sound r chunks ns more e g)
  where
    body : Each (IsSoundStatement
        (bounds_in r names.npars (reach_to r.form (npar_of tag.attributes))))
        (statements (macro_scope r.form chunks names tag) inner)
    body = sound_in r chunks names names.npars (reach_to r.form (npar_of tag.attributes))
        inner e refl f

    by : (t h : Bool) → ((ns : Defined) → Named ns r →
        AreSoundMacros r ns.npars (macros r.form chunks ns more)) →
        AreSoundMacros r names.npars
        (cond (t && not h) (macro r.form chunks names tag inner
        ∷ macros r.form chunks (cond h names (further names tag)) more)
        (macros r.form chunks names more))
    by true true go = go names f
    by true false go = (
      small (number_in 0 64 (value_of (codes "npar") tag.attributes))
          (number_within 0 64 (value_of (codes "npar") tag.attributes)),
      body,
      go (further names tag) (record {
        attributes = f.attributes;
        variables =
            f.variables;
        lists = f.lists;
      }),
    )
    by false h go = go names f

pattern_item_sound : (bound : ℕ) (o : Option ℕ) → Opt (λ n. n < bound) o →
    Opt (IsSoundPatternItem bound) (pattern_item o)
pattern_item_sound bound None h = tt
pattern_item_sound bound (Some n) h = h

pattern_sound : (cats : List (List ℕ)) (bound : ℕ) (own : Children) → length cats ≤ bound →
    Each (IsSoundPatternItem bound) (pattern_items cats own)
pattern_sound cats bound nothing le = tt
pattern_sound cats bound (element tag inner more) le =
    let P = IsSoundPatternItem bound in
    let o = pattern_item (number_of cats (name_of tag.attributes)) in
    each_if P (is_named (codes "pattern-item") tag) (option_to_list o ++ pattern_items cats more)
    (pattern_items cats more)
    (each_both P (option_to_list o) (pattern_items cats more)
    (each_opt P o (pattern_item_sound bound (number_of cats (name_of tag.attributes))
    (number_below cats (name_of tag.attributes) bound le))) (pattern_sound cats bound more le))
    (pattern_sound cats bound more le)

rule_sound : (r : PlainRules) (chunks : Bool) (names : Defined) (tag : Tag)
    (pattern : List PatternItem) (action : Children) → have_chunks r.form r.default ≡ chunks →
    names.npars ≡ map npar_in r.macros → Named names r
    → Each (IsSoundPatternItem (length r.categories)) pattern →
    Opt (IsSoundRule r) (rule_with (rules_scope r.form chunks names) tag pattern action)
rule_sound r chunks names tag pattern action e n f h = by (is_length r.form (length pattern)) refl
  where
    made : PlainRule
    made = record {
      line = tag.line;
      pattern = pattern;
      action =
          statements (rule_scope (rules_scope r.form chunks names) (length pattern)) action;
    }

    body : Each (IsSoundStatement
        (bounds_in r (map npar_in r.macros) (rule_reach r.form (length pattern))))
        (statements (rule_scope (rules_scope r.form chunks names) (length pattern)) action)
    body = sound_in r chunks names (map npar_in r.macros)
        (rule_reach r.form (length pattern)) action e n f

    by : (t : Bool) → is_length r.form (length pattern) ≡ t →
        Opt (IsSoundRule r) (cond t (Some made) None)
    by true k = record { fits = k; pattern = h; action = body }
    by false k = tt

rules_sound : (r : PlainRules) (chunks : Bool) (names : Defined) (own : Children) →
    have_chunks r.form r.default ≡ chunks → names.npars ≡ map npar_in r.macros → Named names r →
    length names.cats ≤ length r.categories →
    Each (IsSoundRule r) (rules (rules_scope r.form chunks names) own)
rules_sound r chunks names nothing e n f le = tt
rules_sound r chunks names (element tag inner more) e n f le =
    let s = rules_scope r.form chunks names in
    let P = IsSoundRule r in
    let o = rule s tag inner in
    each_if P (is_named (codes "rule") tag) (option_to_list o ++ rules s more) (rules s more)
    (each_both P (option_to_list o) (rules s more)
    (each_opt P o (rule_sound r chunks names tag
    (pattern_items names.cats (within (codes "pattern") inner)) (within (codes "action") inner)
    e n f (pattern_sound names.cats (length r.categories) (within (codes "pattern") inner) le)))
    (rules_sound r chunks names more e n f le))
    (rules_sound r chunks names more e n f le)

-- the whole

chosen : (t : Bool) → have_chunks Transfer (cond t Chunk Lu) ≡ t
chosen true = refl
chosen false = refl

chunks_same : (form : Form) (v : Option (List ℕ)) → have_chunks form (default_of form v)
    ≡ holds_chunks form v
chunks_same Transfer v = chosen (is_chunk v)
chunks_same Interchunk v = refl
chunks_same Postchunk v = refl

pub file_sound : (form : Form) (tag : Tag) (own : Children) → IsSound (rules_of form tag own)
file_sound form tag own =
    let r = rules_of form tag own in
    let chunks = holds_chunks form (value_of (codes "default") tag.attributes) in
    let names = section_names own in
    let part = within (codes "section-def-macros") own in
    let all = past_macros names part in
    let e : have_chunks r.form r.default ≡ chunks =
    chunks_same form (value_of (codes "default") tag.attributes) in
    let cats = within (codes "section-def-cats") own in
    let attrs = within (codes "section-def-attrs") own in
    let vars = within (codes "section-def-vars") own in
    let list_part = within (codes "section-def-lists") own in
    let kept = macros_keep names part in
    let a : length names.attrs ≤ length r.attributes =
    omega (arith, names_few (codes "def-attr") [] attrs, attributes_count attrs) in
    let v : length names.vars ≤ length r.variables =
    omega (arith, names_few (codes "def-var") [] vars, variables_count vars) in
    let l : length names.lists ≤ length r.lists =
    omega (arith, names_few (codes "def-list") [] list_part, lists_count list_part) in
    let c : length names.cats ≤ length r.categories =
    omega (arith, names_few (codes "def-cat") [] cats, categories_count form cats) in
    let before : Named names r = record { attributes = a; variables = v; lists = l } in
    let after : Named all r = record {
      attributes = subst (λ (ns : List (List ℕ)). length ns ≤ length r.attributes)
          (sym kept.attrs) a;
      variables = subst (λ (ns : List (List ℕ)). length ns ≤ length r.variables) (sym kept.vars) v;
      lists = subst (λ (ns : List (List ℕ)). length ns ≤ length r.lists) (sym kept.lists) l;
    } in
    record {
      categories = categories_sound form cats;
      attributes = attributes_sound attrs;
      macros = macros_sound r chunks names part e before;
      rules = rules_sound r chunks all (within (codes "section-rules") own) e
          (macros_npars form chunks names part) after
          (subst (λ (ns : List (List ℕ)). length ns ≤ length r.categories) (sym kept.cats) c);
    }

tree_sound : (form : Form) (tree : Children) → IsSound (rules_in form tree)
tree_sound form nothing = file_sound form no_tag nothing
tree_sound form (element tag own more) = file_sound form tag own

decided_sound : (form : Form) (tree : Children) (first : Option RuleMark) (r : PlainRules) →
    decided form tree first ≡ Ok r → IsSound r
decided_sound form tree None r e = let same : rules_in form tree ≡ r = cc in
    subst IsSound same (tree_sound form tree)
decided_sound form tree (Some m) r e = absurd (let no : ⊥ = cc in no)

judged_sound : (form : Form) (read : Spelled) (r : PlainRules) → judged form read ≡ Ok r → IsSound r
judged_sound form (Ok tree) r e =
    decided_sound form (children tree.0)
    (sooner (mark_order kind_number) (option_map mark_of tree.1)
    (first_mark form (children tree.0))) r e
judged_sound form (Err f) r e = absurd (let no : ⊥ = cc in no)

-- the rules that a text spells are sound
pub spelled_sound : (form : Form) (text : List ℕ) (r : PlainRules) → Spells form text r → IsSound r
unfolding spelled
spelled_sound form text r e = judged_sound form (elements text (table_of form)) r e
