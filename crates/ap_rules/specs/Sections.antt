-- What the sections of a rule file define, and its rules.
use Rattle.std.specs.Prelude.{ℕ, Bool, true, false, not, ◌&&◌, List, [], ◌∷◌, ◌++◌, length, Option, Some, None, codes, if◌then◌else◌}
use Rattle.std.specs.Option.{option_map, option_to_list}
use Rattle.ap_symbol.specs.declared.symbol.Symbol.{Symbol}
use Rattle.ap_markup.specs.NameLists.{has_name, with_name, number_of}
use Rattle.ap_markup.specs.Pieces.{Pair}
use Rattle.ap_markup.specs.Said.{value_of, name_of, is_named}
use Rattle.ap_markup.specs.Tree.{Tag}
use Rattle.ap_rules.specs.Children.{Children, nothing, element, within}
use Rattle.ap_rules.specs.Defining.{none_defined, npar_of, with_macro}
use Rattle.ap_rules.specs.Faults.{is_transfer, is_length, reach_to, rule_reach, is_chunk, holds_chunks}
use Rattle.ap_rules.specs.Pieces.{word_given}
use Rattle.ap_rules.specs.Plain.{PlainMacro, PlainRule, PlainRules}
use Rattle.ap_rules.specs.Statements.{statements}
use Rattle.ap_rules.specs.Texts.{word_of, tags_of, given_text}
use Rattle.ap_rules.specs.Values.{Scope}
use Rattle.ap_rules.specs.declared.defined.Defined.{Defined}
use Rattle.ap_rules.specs.declared.attribute.AttrItem.{AttrItem}
use Rattle.ap_rules.specs.declared.rules.CatItem.{CatItem}
use Rattle.ap_rules.specs.declared.rules.DefCat.{DefCat}
use Rattle.ap_rules.specs.declared.rules.DefList.{DefList}
use Rattle.ap_rules.specs.declared.rules.DefVar.{DefVar}
use Rattle.ap_rules.specs.declared.rules.DefaultPiece.{DefaultPiece}
use Rattle.ap_rules.specs.declared.rules.DefaultPiece.TheVariants.{Chunk, Lu}
use Rattle.ap_rules.specs.declared.rules.Form.{Form}
use Rattle.ap_rules.specs.declared.rules.Form.TheVariants.{Transfer, Interchunk, Postchunk}
use Rattle.ap_rules.specs.declared.rules.ListItem.{ListItem}
use Rattle.ap_rules.specs.declared.rules.PatternItem.{PatternItem}

-- the names of the elements of this kind that stand side by side, behind these
abbrev pub names_behind : List ℕ → List (List ℕ) → Children → List (List ℕ)
names_behind kind names nothing = names
names_behind kind names (element tag own more) =
    names_behind kind (if is_named kind tag then with_name names (name_of tag.attributes)
    else names) more

-- the item whose tags these are
abbrev pub tagged : List Pair → Option (List Symbol) → Option CatItem
tagged given None = None
tagged given (Some tags) =
    Some (record { tags = tags; lemma = word_given (value_of (codes "lemma") given); name = [] })

-- in postchunk an item has a name, elsewhere tags and maybe a lemma
abbrev pub item_of : Form → List Pair → Option CatItem
item_of Postchunk given =
    Some (record {
      tags = [];
      lemma = None;
      name =
          word_of (given_text (value_of (codes "name") given));
    })
item_of Transfer given = tagged given (tags_of true (given_text (value_of (codes "tags") given)))
item_of Interchunk given = tagged given (tags_of true (given_text (value_of (codes "tags") given)))

abbrev pub cat_items : Form → Children → List CatItem
cat_items form nothing = []
cat_items form (element tag own more) =
    if is_named (codes "cat-item") tag then option_to_list (item_of form tag.attributes)
    ++ cat_items form more else cat_items form more

abbrev pub categories : Form → Children → List DefCat
categories form nothing = []
categories form (element tag own more) =
    if is_named (codes "def-cat") tag then record { items = cat_items form own }
    ∷ categories form more else categories form more

abbrev pub attr_item : Option (List Symbol) → Option AttrItem
attr_item None = None
attr_item (Some tags) = Some (record { tags = tags })

abbrev pub attr_items : Children → List AttrItem
attr_items nothing = []
attr_items (element tag own more) =
    if is_named (codes "attr-item") tag
    then option_to_list (attr_item
    (tags_of false (given_text (value_of (codes "tags") tag.attributes)))) ++ attr_items more
    else attr_items more

abbrev pub attributes : Children → List (List AttrItem)
attributes nothing = []
attributes (element tag own more) = if is_named (codes "def-attr") tag
    then attr_items own ∷ attributes more else attributes more

-- the word of `v`, which is empty where it isn't given
abbrev pub word_of_v : Tag → List Symbol
word_of_v tag = word_of (given_text (value_of (codes "v") tag.attributes))

abbrev pub variables : Children → List DefVar
variables nothing = []
variables (element tag own more) = if is_named (codes "def-var") tag
    then record { v = word_of_v tag } ∷ variables more else variables more

abbrev pub list_items : Children → List ListItem
list_items nothing = []
list_items (element tag own more) = if is_named (codes "list-item") tag
    then record { v = word_of_v tag } ∷ list_items more else list_items more

abbrev pub lists : Children → List DefList
lists nothing = []
lists (element tag own more) = if is_named (codes "def-list") tag
    then record { items = list_items own } ∷ lists more else lists more

-- what a macro is read with: the macros above it have numbers, and its positions are those of the
-- units that it is given
abbrev pub macro_scope : Form → Bool → Defined → Tag → Scope
macro_scope form chunks names tag =
    record {
      form = form;
      chunks = chunks;
      names = names;
      reach =
          reach_to form (npar_of tag.attributes);
    }

abbrev pub macro : Form → Bool → Defined → Tag → Children → PlainMacro
macro form chunks names tag own =
    record {
      npar = npar_of tag.attributes;
      statements =
          statements (macro_scope form chunks names tag) own;
    }

-- the names with that of a further macro
abbrev pub past_macro : Tag → Defined → Defined
past_macro tag names = with_macro (name_of tag.attributes) (npar_of tag.attributes) names

-- it is a macro, and none of these has its name
abbrev pub is_macro : Defined → Tag → Bool
is_macro names tag = is_named (codes "def-macro") tag
    && not (has_name names.macros (name_of tag.attributes))

-- the macros, each with the names of those above it
abbrev pub macros : Form → Bool → Defined → Children → List PlainMacro
macros form chunks names nothing = []
macros form chunks names (element tag own more) =
    if is_macro names tag then macro form chunks names tag own
    ∷ macros form chunks (past_macro tag names) more else macros form chunks names more

-- the names with those of all macros
abbrev pub past_macros : Defined → Children → Defined
past_macros names nothing = names
past_macros names (element tag own more) =
    past_macros (if is_macro names tag then past_macro tag names else names) more

abbrev pub pattern_item : Option ℕ → Option PatternItem
pattern_item None = None
pattern_item (Some n) = Some (record { n = n })

abbrev pub pattern_items : List (List ℕ) → Children → List PatternItem
pattern_items cats nothing = []
pattern_items cats (element tag own more) =
    if is_named (codes "pattern-item") tag
    then option_to_list (pattern_item (number_of cats (name_of tag.attributes)))
    ++ pattern_items cats more
    else pattern_items cats more

-- what the statements of a rule with so many items are read with
abbrev pub rule_scope : Scope → ℕ → Scope
rule_scope s items = record {
  form = s.form;
  chunks = s.chunks;
  names = s.names;
  reach =
      rule_reach s.form items;
}

-- a rule with this pattern, which has a length that it may have
abbrev pub rule_with : Scope → Tag → List PatternItem → Children → Option PlainRule
rule_with s tag pattern action =
    if is_length s.form (length pattern)
    then Some (record {
      line = tag.line;
      pattern = pattern;
      action =
          statements (rule_scope s (length pattern)) action;
    }) else None

abbrev pub rule : Scope → Tag → Children → Option PlainRule
rule s tag own = rule_with s tag (pattern_items s.names.cats (within (codes "pattern") own))
    (within (codes "action") own)

abbrev pub rules : Scope → Children → List PlainRule
rules s nothing = []
rules s (element tag own more) = if is_named (codes "rule") tag then option_to_list (rule s tag own)
    ++ rules s more else rules s more

-- the default: chunks in transfer alone, where the root says so
abbrev pub default_of : Form → Option (List ℕ) → DefaultPiece
default_of Transfer value = if is_chunk value then Chunk else Lu
default_of Interchunk value = Lu
default_of Postchunk value = Lu

-- the names with those that the sections define, without those of macros
abbrev pub with_sections : Defined → Children → Defined
with_sections d own = record {
  cats = names_behind (codes "def-cat") d.cats (within (codes "section-def-cats") own);
  attrs = names_behind (codes "def-attr") d.attrs (within (codes "section-def-attrs") own);
  vars = names_behind (codes "def-var") d.vars (within (codes "section-def-vars") own);
  lists = names_behind (codes "def-list") d.lists (within (codes "section-def-lists") own);
  macros = d.macros;
  npars = d.npars;
}

abbrev pub section_names : Children → Defined
section_names own = with_sections none_defined own

-- what the rules are read with
abbrev pub rules_scope : Form → Bool → Defined → Scope
rules_scope form chunks names =
    record { form = form; chunks = chunks; names = names; reach = reach_to form 0 }

-- the rules of the file whose root this is
abbrev pub rules_of : Form → Tag → Children → PlainRules
rules_of form tag own =
    let chunks = holds_chunks form (value_of (codes "default") tag.attributes) in
    let names = section_names own in
    let macro_part = within (codes "section-def-macros") own in
    record {
      form = form;
      line = tag.line;
      default = default_of form (value_of (codes "default") tag.attributes);
      categories = categories form (within (codes "section-def-cats") own);
      attributes = attributes (within (codes "section-def-attrs") own);
      variables = variables (within (codes "section-def-vars") own);
      lists = lists (within (codes "section-def-lists") own);
      macros = macros form chunks names macro_part;
      rules = rules (rules_scope form chunks (past_macros names macro_part))
          (within (codes "section-rules") own);
    }
