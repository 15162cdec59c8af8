-- The definitions of a tree without fault are definitions by the table, and what they define is
-- what stands above what follows.
use Rattle.std.proofs.Common.{◌≡◌, ℕ, ◌+◌, Bool, true, false, cond, List, [], ◌∷◌, ◌++◌, refl, sym, ap, ◌∙◌, subst, Option, Some, None, is_some, codes}
use Rattle.std.specs.Option.{unwrap_or}
use Rattle.ap_markup.specs.Faults.{have_all}
use Rattle.ap_markup.specs.NameLists.{has_name, with_name}
use Rattle.ap_markup.specs.Pieces.{Pair}
use Rattle.ap_markup.specs.Said.{value_of, name_of}
use Rattle.ap_markup.specs.TableRows.{any_of, needs_n}
use Rattle.ap_markup.specs.Tree.{Tag}
use Rattle.ap_rules.specs.Children.{Children, nothing, element}
use Rattle.ap_rules.specs.Defining.{defined_named, defined_after, defined_in}
use Rattle.ap_rules.specs.Faults.{Around, has_attribute}
use Rattle.ap_rules.specs.Pieces.{word_given}
use Rattle.ap_rules.specs.SectionRows.{AreEach, AreNames, IsItemOf, IsCatItem, IsCategory, IsAttrItem, IsAttribute, IsVariable, IsListItem, IsList}
use Rattle.ap_rules.specs.Texts.{word_of, tags_of, given_text}
use Rattle.ap_rules.specs.declared.defined.Defined.{Defined}
use Rattle.ap_rules.specs.declared.rules.CatItem.{CatItem}
use Rattle.ap_rules.specs.declared.rules.Form.{Form}
use Rattle.ap_rules.specs.declared.rules.Form.TheVariants.{Transfer, Interchunk, Postchunk}
use Rattle.ap_rules.proofs.Faultless.{Clean, Stands, false_true, neither, both}
use Rattle.ap_rules.proofs.PiecesStand.{one_given}
use Rattle.ap_rules.proofs.Placing.{among_each, in_last, behind_one, as_row, are_inner, quiet}
use Rattle.ap_rules.proofs.ValuesRead.{tag_as}
use Rattle.ap_rules.proofs.ValuesStand.{there}

-- elements of one name that define nothing, each of which is something
pub each_stand : {A : Type 0} (kind : List ℕ) (Is : Tag → Children → A → Type 0) (a : Around)
    (d : Defined) (own : Children) (used : ℕ) → are_inner (any_of (kind ∷ []) ∷ []) ≡ true →
    ((tag : Tag) (inner : Children) → Stands a d (tag_as kind tag) inner →
    (x : A) × Is (tag_as kind tag) inner x) →
    Clean a d (any_of (kind ∷ []) ∷ [], used) own → (xs : List A) × AreEach Is own xs
each_stand kind Is a d nothing used inner each c = ([], tt)
each_stand {A = A} kind Is a d (element tag own more) used inner each (here, (n, is, later)) =
    let g = any_of (kind ∷ []) in
    let y = in_last tag.name g used n is in
    let x = among_each (λ word. Stands a d (tag_as word tag) own →
    (x : A) × Is (tag_as word tag) own x) (kind ∷ []) tag.name (λ z. each tag own z, tt) y.0 here in
    let same = quiet a d (g ∷ [], used) (element tag own nothing) d inner (here, (n, is, tt)) in
    let xs = each_stand kind Is a d more (used + 1) inner each
    (subst (λ (z : Defined). Clean a z (g ∷ [], used + 1) more) same
    (behind_one a d (g ∷ [], used + 1) own more tag n y.2 later)) in
    (x.0 ∷ xs.0, (x.1, xs.1))

-- a name that has to be given
pub name_given : (given : List Pair) → has_attribute (codes "n") given ≡ true →
    (name : List ℕ) × (value_of (codes "n") given ≡ Some name)
name_given given h = by (value_of (codes "n") given) refl h
  where
    by : (o : Option (List ℕ)) → value_of (codes "n") given ≡ o → is_some o ≡ true →
        (name : List ℕ) × (value_of (codes "n") given ≡ Some name)
    by None e k = false_true k
    by (Some name) e k = (name, e)

pub needed_name : (given : List Pair) (more : List (List (List ℕ))) →
    have_all ((codes "n" ∷ []) ∷ more) given ≡ true →
    (name : List ℕ) × (value_of (codes "n") given ≡ Some name)
needed_name given more h =
    let one = one_given (codes "n" ∷ []) given (both _ _ h).0 in
    name_given given (among_each (λ name. has_attribute name given ≡ true →
    has_attribute (codes "n") given ≡ true) (codes "n" ∷ []) one.0 (λ k. k, tt) one.1 one.2)

-- What elements of one name define: what they add to the names above, and what each of them is.
pub record Definers {A : Type 0} (kind : List ℕ) (get : Defined → List (List ℕ))
    (set : Defined → List (List ℕ) → Defined) (Is : Tag → Children → A → Type 0)
    (a : Around) : Type 0 where
  pub same : (d : Defined) → d ≡ set d (get d)
  pub got : (d : Defined) (names : List (List ℕ)) → get (set d names) ≡ names
  pub twice : (d : Defined) (names more : List (List ℕ)) → set (set d names) more ≡ set d more
  pub sets : (name : List ℕ) (tag : Tag) (d : Defined) → defined_named (Some name) (tag_as kind
      tag) d
      ≡ set d (with_name (get d) name)
  pub named : (d : Defined) (tag : Tag) (own : Children) → Stands a d (tag_as kind tag) own →
      have_all needs_n tag.attributes ≡ true
  pub fresh : (d : Defined) (tag : Tag) (own : Children) → Stands a d (tag_as kind tag) own →
      has_name (get d) (name_of tag.attributes) ≡ false
  pub still : (d : Defined) (tag : Tag) (own : Children) → Stands a d (tag_as kind tag) own →
      defined_in d own ≡ d
  pub each : (d : Defined) (tag : Tag) (own : Children) → Stands a d (tag_as kind tag) own →
      (x : A) × Is (tag_as kind tag) own x

pub record Defining {A : Type 0} (kind : List ℕ) (get : Defined → List (List ℕ))
    (set : Defined → List (List ℕ) → Defined) (Is : Tag → Children → A → Type 0) (d : Defined)
    (own : Children) : Type 0 where
  pub names : List (List ℕ)
  pub things : List A
  pub names_are : AreNames kind (get d) own names
  pub things_are : AreEach Is own things
  pub after : defined_in d own ≡ set d names

-- one element that defines a name
record Definer {A : Type 0} (kind : List ℕ) (get : Defined → List (List ℕ))
    (set : Defined → List (List ℕ) → Defined) (Is : Tag → Children → A → Type 0) (d : Defined)
    (tag : Tag) (own : Children) : Type 0 where
  name : List ℕ
  thing : A
  kind_is : tag.name ≡ kind
  given : value_of (codes "n") tag.attributes ≡ Some name
  fresh : has_name (get d) name ≡ false
  after : defined_after tag (defined_in d own) ≡ set d (get d ++ name ∷ [])
  is : Is tag own thing

definer : {A : Type 0} (kind : List ℕ) (get : Defined → List (List ℕ))
    (set : Defined → List (List ℕ) → Defined) (Is : Tag → Children → A → Type 0) (a : Around)
    (d : Defined) (tag : Tag) (own : Children) → Definers kind get set Is a →
    Stands a d (tag_as kind tag) own → Definer kind get set Is d (tag_as kind tag) own
definer kind get set Is a d tag own all z =
    let name = needed_name tag.attributes [] (all.named d tag own z) in
    let x = all.each d tag own z in
    let new : has_name (get d) name.0 ≡ false =
    sym (ap (λ (o : Option (List ℕ)). has_name (get d) (unwrap_or o [])) name.1)
    ∙ all.fresh d tag own z in
    record {
      name = name.0;
      thing = x.0;
      kind_is = refl;
      given = name.1;
      fresh = new;
      after = ap (λ (e : Defined). defined_after (tag_as kind tag) e) (all.still d tag own z)
          ∙ ap (λ (o : Option (List ℕ)). defined_named o (tag_as kind tag) d) name.1
          ∙ all.sets name.0 tag d
          ∙ ap (λ (b : Bool). set d (cond b (get d) (get d ++ name.0 ∷ []))) new;
      is = x.1;
    }

pub definitions_stand : {A : Type 0} (kind : List ℕ) (get : Defined → List (List ℕ))
    (set : Defined → List (List ℕ) → Defined) (Is : Tag → Children → A → Type 0) (a : Around)
    (d : Defined) (own : Children) (used : ℕ) → Definers kind get set Is a →
    Clean a d (any_of (kind ∷ []) ∷ [], used) own → Defining kind get set Is d own
definitions_stand kind get set Is a d nothing used all c = record {
  names = get d;
  things = [];
  names_are = refl;
  things_are = tt;
  after = all.same d;
}
definitions_stand kind get set Is a d (element tag own more) used all (here, (n, is, later)) =
    let g = any_of (kind ∷ []) in
    let y = in_last tag.name g used n is in
    let one = among_each (λ word. Stands a d (tag_as word tag) own →
    Definer kind get set Is d (tag_as word tag) own) (kind ∷ []) tag.name
    (λ z. definer kind get set Is a d tag own all z, tt) y.0 here in
    let ahead = set d (get d ++ one.name ∷ []) in
    let rest = definitions_stand kind get set Is a ahead more (used + 1) all
    (subst (λ (z : Defined). Clean a z (g ∷ [], used + 1) more) one.after
    (behind_one a d (g ∷ [], used + 1) own more tag n y.2 later)) in
    record {
      names = rest.names;
      things = one.thing ∷ rest.things;
      names_are = (
        one.name,
        one.kind_is,
        one.given,
        one.fresh,
        subst (λ (before : List (List ℕ)). AreNames kind before more rest.names)
            (all.got d (get d ++ one.name ∷ [])) rest.names_are,
      );
      things_are = (one.is, rest.things_are);
      after = ap (λ (z : Defined). defined_in z more) one.after ∙ rest.after
          ∙ all.twice d (get d ++ one.name ∷ []) rest.names;
    }

-- categories

cat_item : (form : Form) (given : List Pair) → (tags : List _) →
    tags_of true (given_text (value_of (codes "tags") given)) ≡ Some tags →
    (item : CatItem) × IsItemOf form given item
cat_item Postchunk given tags e = (
  record {
    tags = [];
    lemma = None;
    name = word_of (given_text (value_of (codes "name") given));
  },
  (refl, refl, refl),
)
cat_item Transfer given tags e = (
  record { tags = tags; lemma = word_given (value_of (codes "lemma") given); name = [] },
  (e, refl, refl),
)
cat_item Interchunk given tags e = (
  record { tags = tags; lemma = word_given (value_of (codes "lemma") given); name = [] },
  (e, refl, refl),
)

pub categories_define : (a : Around) → Definers (codes "def-cat") (λ d. d.cats)
    (λ d names. record d { cats = names }) (IsCategory a.form) a
categories_define a = record {
  same = λ d. refl;
  got = λ d names. refl;
  twice = λ d names more. refl;
  sets = λ name tag d. refl;
  named = λ d tag own z. (as_row a d (tag_as (codes "def-cat") tag) own _ refl z).0.needs;
  fresh = λ d tag own z. z.1.right.fresh;
  still = λ d tag own z. (let r = as_row a d (tag_as (codes "def-cat") tag) own _ refl z in
      quiet _ d (any_of (codes "cat-item" ∷ []) ∷ [], 0) own d refl r.1);
  each = λ d tag own z. (let r = as_row a d (tag_as (codes "def-cat") tag) own _ refl z in
      let items = each_stand (codes "cat-item") (IsCatItem a.form) _ d own 0 refl
      (λ t i w. (let tags = there (tags_of true (given_text (value_of (codes "tags") t.attributes)))
      (neither _ _ (neither _ _ w.1.right.tagged).0).0 in
      let item = cat_item a.form t.attributes tags.0 tags.1 in (item.0, (refl, item.1)))) r.1 in
      (record { items = items.0 }, (refl, items.1)));
}

-- attributes

pub attributes_define : (a : Around) → Definers (codes "def-attr") (λ d. d.attrs)
    (λ d names. record d { attrs = names }) IsAttribute a
attributes_define a = record {
  same = λ d. refl;
  got = λ d names. refl;
  twice = λ d names more. refl;
  sets = λ name tag d. refl;
  named = λ d tag own z. (as_row a d (tag_as (codes "def-attr") tag) own _ refl z).0.needs;
  fresh = λ d tag own z. (neither _ _ z.1.right.fresh).1;
  still = λ d tag own z. (let r = as_row a d (tag_as (codes "def-attr") tag) own _ refl z in
      quiet _ d (any_of (codes "attr-item" ∷ []) ∷ [], 0) own d refl r.1);
  each = λ d tag own z. (let r = as_row a d (tag_as (codes "def-attr") tag) own _ refl z in
      let items = each_stand (codes "attr-item") IsAttrItem _ d own 0 refl
      (λ t i w. (let tags = there (tags_of false (given_text (value_of (codes "tags")
      t.attributes)))
      (neither _ _ w.1.right.tagged).0 in (record { tags = tags.0 }, (refl, tags.1)))) r.1 in
      (items.0, (refl, items.1)));
}

-- variables and lists

pub variables_define : (a : Around) → Definers (codes "def-var") (λ d. d.vars)
    (λ d names. record d { vars = names }) IsVariable a
variables_define a = record {
  same = λ d. refl;
  got = λ d names. refl;
  twice = λ d names more. refl;
  sets = λ name tag d. refl;
  named = λ d tag own z. (as_row a d (tag_as (codes "def-var") tag) own _ refl z).0.needs;
  fresh = λ d tag own z. z.1.right.fresh;
  still = λ d tag own z. (let r = as_row a d (tag_as (codes "def-var") tag) own _ refl z in
      quiet _ d ([], 0) own d refl r.1);
  each = λ d tag own z. (
    record {
      v = word_of (given_text (value_of (codes "v") tag.attributes));
    },
    (refl, refl),
  );
}

pub lists_define : (a : Around) → Definers (codes "def-list") (λ d. d.lists)
    (λ d names. record d { lists = names }) IsList a
lists_define a = record {
  same = λ d. refl;
  got = λ d names. refl;
  twice = λ d names more. refl;
  sets = λ name tag d. refl;
  named = λ d tag own z. (as_row a d (tag_as (codes "def-list") tag) own _ refl z).0.needs;
  fresh = λ d tag own z. z.1.right.fresh;
  still = λ d tag own z. (let r = as_row a d (tag_as (codes "def-list") tag) own _ refl z in
      quiet _ d (any_of (codes "list-item" ∷ []) ∷ [], 0) own d refl r.1);
  each = λ d tag own z. (let r = as_row a d (tag_as (codes "def-list") tag) own _ refl z in
      let items = each_stand (codes "list-item") IsListItem _ d own 0 refl
      (λ t i w. (
        record { v = word_of (given_text (value_of (codes "v") t.attributes)) },
        (refl, refl),
      )) r.1 in
      (record { items = items.0 }, (refl, items.1)));
}
