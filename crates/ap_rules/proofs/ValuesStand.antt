-- Elements that are to be values, in a tree without fault, are values by the table.
use Rattle.std.proofs.Common.{◌≡◌, ℕ, ◌+◌, Bool, true, false, not, ◌&&◌, List, [], ◌∷◌, refl, sym, ap, ◌∙◌, subst, Option, Some, None, is_none, codes}
use Rattle.std.specs.Str.{bytes_eq}
use Rattle.std.proofs.lemmas.Slice.Eq.{bytes_eq-Decides}
use Rattle.ap_symbol.specs.declared.symbol.Symbol.{Symbol}
use Rattle.ap_markup.specs.NameLists.{has_name, number_of}
use Rattle.ap_markup.specs.Names.{is_among}
use Rattle.ap_markup.specs.Pieces.{Pair}
use Rattle.ap_markup.specs.Rules.{values as value_names}
use Rattle.ap_markup.specs.Said.{value_of, name_of}
use Rattle.ap_markup.specs.Table.{Content}
use Rattle.ap_markup.specs.TableRows.{any_of, one, free, needs_pos, element as line_of}
use Rattle.ap_markup.specs.Tree.{Tag}
use Rattle.ap_rules.specs.Children.{Children, nothing, element}
use Rattle.ap_rules.specs.Defining.{defined_after, defined_in}
use Rattle.ap_rules.specs.Faults.{Around, is_interchunk, is_plain_part, has_attribute, is_no_link}
use Rattle.ap_rules.specs.Plain.{PlainValue, clip, lit, lit_tag, var, get_case_from, case_of, concat, blank_value, values_of}
use Rattle.ap_rules.specs.Texts.{number_in, word_of, tags_of, given_text}
use Rattle.ap_rules.specs.ValueRows.{IsAlone, IsPart, IsLinkText, IsClip, IsCaseOf, IsBlankAt, IsValue, AreValues}
use Rattle.ap_rules.specs.Values.{Scope, position_of, side_of, is_value}
use Rattle.ap_rules.specs.declared.defined.Defined.{Defined}
use Rattle.ap_rules.specs.declared.value.CaseOf.{CaseOf}
use Rattle.ap_rules.specs.declared.value.Clip.{Clip}
use Rattle.ap_rules.specs.declared.value.ClipPart.{ClipPart}
use Rattle.ap_rules.specs.declared.value.ClipPart.TheVariants.{Lem, Lemh, Lemq, Tags, Whole, Content as ContentPart, Attribute}
use Rattle.ap_rules.proofs.Faultless.{Right, Clean, Stands, not_false, false_true, true_false, neither, both}
use Rattle.ap_rules.proofs.Links.{link_tags}
use Rattle.ap_rules.proofs.Placing.{among_each, in_last, single, behind_one, as_row, has_number}
use Rattle.ap_rules.proofs.ValuesRead.{tag_as}

-- what stands around elements that are read with this, by the names of the whole file and the name
-- of the element around
abbrev pub outside : Scope → Defined → List ℕ → Around
outside s all parent = record {
  form = s.form;
  chunks = s.chunks;
  all = all;
  parent = parent;
  reach = s.reach;
}

-- the names that have numbers are those of the whole file
pub record Numbers (all : Defined) (names : Defined) : Type 0 where
  pub cats : all.cats ≡ names.cats
  pub attrs : all.attrs ≡ names.attrs
  pub vars : all.vars ≡ names.vars
  pub lists : all.lists ≡ names.lists

-- the content of a chunk may be read wherever it is no fault
abbrev pub Reads : Scope → Bool → List ℕ → Type 0
Reads s content parent = is_interchunk s.form ≡ true → bytes_eq (codes "chunk") parent ≡ true →
    content ≡ true

pub there : {A : Type 0} (o : Option A) → is_none o ≡ false → (x : A) × (o ≡ Some x)
there None e = true_false e
there (Some x) e = (x, refl)

-- the number of a name that is used, if it is no fault
pub numbered : (all names : List (List ℕ)) (name : List ℕ) → all ≡ names →
    not (has_name all name) ≡ false → (n : ℕ) × (number_of names name ≡ Some n)
numbered all names name e h =
    has_number names name (subst (λ (ns : List (List ℕ)). has_name ns name ≡ true) e
    (not_false (has_name all name) h))

-- a part of a word
part_stands : (content : Bool) (all attrs : List (List ℕ)) (name : List ℕ) → all ≡ attrs →
    (not (is_plain_part name) && not (has_name all name)) ≡ false →
    (bytes_eq (codes "chcontent") name ≡ true → content ≡ true) →
    (p : ClipPart) × IsPart content attrs name p
part_stands content all attrs name same known may =
    by (bytes_eq (codes "lem") name) (bytes_eq (codes "lemh") name) (bytes_eq (codes "lemq") name)
    (bytes_eq (codes "whole") name) (bytes_eq (codes "tags") name)
    (bytes_eq (codes "chcontent") name) refl refl refl refl refl refl
  where
    is : (text : List ℕ) → bytes_eq text name ≡ true → name ≡ text
    is text e = sym ((bytes_eq-Decides text name).0 e)

    by : (a b c d f g : Bool) → bytes_eq (codes "lem") name ≡ a → bytes_eq (codes "lemh") name ≡ b →
        bytes_eq (codes "lemq") name ≡ c → bytes_eq (codes "whole") name ≡ d →
        bytes_eq (codes "tags") name ≡ f → bytes_eq (codes "chcontent") name ≡ g →
        (p : ClipPart) × IsPart content attrs name p
    by true b c d f g ae be ce de fe ge = (Lem, is (codes "lem") ae)
    by false true c d f g ae be ce de fe ge = (Lemh, is (codes "lemh") be)
    by false false true d f g ae be ce de fe ge = (Lemq, is (codes "lemq") ce)
    by false false false true f g ae be ce de fe ge = (Whole, is (codes "whole") de)
    by false false false false true g ae be ce de fe ge = (Tags, is (codes "tags") fe)
    by false false false false false true ae be ce de fe ge =
        (ContentPart, (is (codes "chcontent") ge, may ge))
    by false false false false false false ae be ce de fe ge =
        let plain : is_plain_part name ≡ false = rw (ae, be, ce, de, fe, ge) refl in
        let n = numbered all attrs name same
        (sym (ap (λ (b : Bool). not b && not (has_name all name)) plain) ∙ known) in
        (Attribute n.0, (plain, n.1))

-- a link
link_stands : (given : Option (List ℕ)) → is_no_link given ≡ false →
    (word : Option (List Symbol)) × IsLinkText given word
link_stands None e = (None, refl)
link_stands (Some text) e =
    let n = there (number_in 1 99 (Some text)) e in
    (Some _, (text, n.0, refl, n.1, link_tags text n.0 n.1))

-- where the content of a chunk is read without fault, it may be read
may_read : (b c : Bool) → (b && not c) ≡ false → b ≡ true → c ≡ true
may_read true true e h = refl
may_read true false e h = true_false e
may_read false c e h = false_true h

pub clip_stands : (s : Scope) (all : Defined) (content : Bool) (parent : List ℕ) (above : Defined)
    (tag : Tag) (own : Children) → Numbers all s.names → Reads s content parent →
    Right (outside s all parent) above (tag_as (codes "clip") tag) own →
    (c : Clip) × IsClip s content tag.attributes c
clip_stands s all content parent above tag own same reads r =
    let given = tag.attributes in
    let name = given_text (value_of (codes "part") given) in
    let linked = has_attribute (codes "link-to") given in
    let shape = neither _ _ (neither _ _ r.numbered).0 in
    let first = neither _ _ shape.0 in
    let pos = there (position_of s given) (neither _ _ first.0).0 in
    let link = link_stands (value_of (codes "link-to") given) first.1 in
    let misread = (neither _ _ (neither _ _ r.used).0).1 in
    let part = part_stands (content && not linked) all.attrs s.names.attrs name same.attrs r.defined
    (λ e. may (may_read (bytes_eq (codes "chcontent") name)
    (is_interchunk s.form && bytes_eq (codes "chunk") parent && not linked) misread e)) in (
      record {
        pos = pos.0;
        part = part.0;
        side = side_of s.form given;
        queue = not (is_value (codes "no") (value_of (codes "queue") given));
        link_to = link.0;
      },
      record { pos = pos.1; part = part.1; side = refl; queue = refl; link = link.1 },
    )
  where
    may : (is_interchunk s.form && bytes_eq (codes "chunk") parent
        && not (has_attribute (codes "link-to") tag.attributes)) ≡ true →
        (content && not (has_attribute (codes "link-to") tag.attributes)) ≡ true
    may h =
        let x = both (is_interchunk s.form && bytes_eq (codes "chunk") parent)
        (not (has_attribute (codes "link-to") tag.attributes)) h in
        let y = both (is_interchunk s.form) (bytes_eq (codes "chunk") parent) x.0 in
        rw (reads y.0 y.1, x.1) refl

case_stands : (s : Scope) (all : Defined) (parent : List ℕ) (above : Defined) (tag : Tag)
    (own : Children) → Numbers all s.names →
    Right (outside s all parent) above (tag_as (codes "case-of") tag) own →
    (c : CaseOf) × IsCaseOf s tag.attributes c
case_stands s all parent above tag own same r =
    let given = tag.attributes in
    let name = given_text (value_of (codes "part") given) in
    let first = neither _ _ (neither _ _ (neither _ _ r.numbered).0).0 in
    let pos = there (position_of s given) (neither _ _ first.0).0 in
    let misread = (neither _ _ (neither _ _ r.used).0).1 in
    let part = part_stands false all.attrs s.names.attrs name same.attrs r.defined
    (λ e. false_true (may_read (bytes_eq (codes "chcontent") name) false misread e)) in (
      record { pos = pos.0; part = part.0; side = side_of s.form given },
      record { pos = pos.1; part = part.1; side = refl },
    )

-- a blank
pub blank_stands : (given : List Pair) → is_no_link (value_of (codes "pos") given) ≡ false →
    (pos : Option ℕ) × IsBlankAt given pos
blank_stands given h = by (value_of (codes "pos") given) refl h
  where
    by : (o : Option (List ℕ)) → value_of (codes "pos") given ≡ o → is_no_link o ≡ false →
        (pos : Option ℕ) × IsBlankAt given pos
    by None e k = (None, e)
    by (Some text) e k =
        let n = there (number_in 1 99 (Some text)) k in (Some n.0, ap (number_in 1 99) e ∙ n.1)

-- values
abbrev pub Value : Scope → Bool → Tag → Children → Type 0
Value s content tag own = (v : PlainValue) × IsValue s content tag own v

-- a group of so many values
abbrev pub values_group : ℕ → Option ℕ → List Content
values_group least most = record { names = value_names; least = least; most = most } ∷ []

-- the values of elements, with what is expected so far
abbrev pub Values : Scope → Defined → Defined → Bool → List ℕ → Children → Type 0
Values s all above content parent own = (least : ℕ) (most : Option ℕ) (used : ℕ) →
    Clean (outside s all parent) above (values_group least most, used) own →
    (vs : List PlainValue) × AreValues s content own (values_of vs)

alone_value : (s : Scope) (own inner : Children) (tag : Tag) (vs : List PlainValue) →
    own ≡ element tag inner nothing → AreValues s false own (values_of vs) →
    (v : PlainValue) × IsAlone own (λ (one : Tag) (its : Children). IsValue s false one its v)
alone_value s own inner tag vs e h =
    subst (λ (k : Children). (v : PlainValue)
    × IsAlone k (λ (one : Tag) (its : Children). IsValue s false one its v)) (sym e)
    (by vs (subst (λ (k : Children). AreValues s false k (values_of vs)) e h))
  where
    by : (vs : List PlainValue) → AreValues s false (element tag inner nothing) (values_of vs) →
        (v : PlainValue) × IsValue s false tag inner v
    by [] k = absurd k
    by (v ∷ []) k = (v, k.0)
    by (v ∷ w ∷ more) k = absurd k.1

-- what is to be shown of an element of a name
abbrev Case : Scope → Defined → Defined → Bool → List ℕ → Tag → Children → List ℕ → Type 0
Case s all above content parent tag own name =
    Stands (outside s all parent) above (tag_as name tag) own → Value s content (tag_as name tag)
    own

value_stands : (s : Scope) (all above : Defined) (content : Bool) (parent : List ℕ) (tag : Tag)
    (own : Children) → Numbers all s.names → Reads s content parent →
    ((name : List ℕ) → Reads s false name → Values s all above false name own) →
    is_among tag.name value_names ≡ true → Stands (outside s all parent) above tag own →
    Value s content tag own
value_stands s all above content parent tag own same reads within h x =
    among_each (λ name. Stands (outside s all parent) above (tag_as name tag) own →
    Value s content (tag_as name tag) own) value_names tag.name (
      of_clip,
      (
        of_lit,
        (
          of_lit_tag,
          (of_var, (of_get_case_from, (of_case_of, (of_concat, (of_b, tt))))),
        ),
      ),
    ) h x
  where
    of_clip : Case s all above content parent tag own (codes "clip")
    of_clip z =
        let c = clip_stands s all content parent above tag own same reads z.1.right in
        (clip c.0, (refl, c.1))

    of_lit : Case s all above content parent tag own (codes "lit")
    of_lit z =
        (lit (word_of (given_text (value_of (codes "v") tag.attributes))), (refl, refl))

    of_lit_tag : Case s all above content parent tag own (codes "lit-tag")
    of_lit_tag z =
        let w = there (tags_of false (given_text (value_of (codes "v") tag.attributes)))
        z.1.right.tagged in (lit_tag w.0, (refl, w.1))

    of_var : Case s all above content parent tag own (codes "var")
    of_var z =
        let n = numbered all.vars s.names.vars (name_of tag.attributes) same.vars
        z.1.right.defined in (var n.0, (refl, n.1))

    of_case_of : Case s all above content parent tag own (codes "case-of")
    of_case_of z =
        let c = case_stands s all parent above tag own same z.1.right in
        (case_of c.0, (refl, c.1))

    of_concat : Case s all above content parent tag own (codes "concat")
    of_concat z =
        let r = as_row (outside s all parent) above (tag_as (codes "concat") tag) own
        (line_of (codes "concat") [] [] (any_of value_names ∷ [])) refl z in
        let vs = within (codes "concat") (λ e k. false_true k) 0 None 0 r.1 in
        (concat (values_of vs.0), (refl, vs.1))

    of_b : Case s all above content parent tag own (codes "b")
    of_b z =
        let pos = blank_stands tag.attributes
        (neither _ _ (neither _ _ (neither _ _ z.1.right.numbered).0).0).0 in
        (blank_value pos.0, (refl, pos.1))

    of_get_case_from : Case s all above content parent tag own (codes "get-case-from")
    of_get_case_from z =
        let r = as_row (outside s all parent) above (tag_as (codes "get-case-from") tag) own
        (line_of (codes "get-case-from") (free (codes "pos") ∷ []) needs_pos (one value_names ∷ []))
        refl z in
        let it = single (outside s all (codes "get-case-from")) above value_names own refl
        r.0.enough r.1 in
        let vs = within (codes "get-case-from") (λ e k. false_true k) 1 (Some 1) 0 r.1 in
        let v = alone_value s own it.1 it.0 vs.0 it.2 vs.1 in
        let pos = there (position_of s tag.attributes)
        (neither _ _ (neither _ _ (neither _ _ (neither _ _ r.0.right.numbered).0).0).0).0 in
        (get_case_from pos.0 v.0, (refl, pos.1, v.1))

pub values_stand : (s : Scope) (all above : Defined) (content : Bool) (parent : List ℕ)
    (own : Children) → Numbers all s.names → Reads s content parent →
    Values s all above content parent own
values_stand s all above content parent nothing same reads least most used c = ([], tt)
values_stand s all above content parent (element tag own more) same reads least most used
    (here, (n, is, later)) =
    let g : Content = record { names = value_names; least = least; most = most } in
    let y = in_last tag.name g used n is in
    let v = value_stands s all above content parent tag own same reads
    (λ name may. values_stand s all above false name own same may) y.0 here in
    let vs = values_stand s all (defined_after tag (defined_in above own)) content parent more same
    reads least most (used + 1)
    (behind_one (outside s all parent) above (g ∷ [], used + 1) own more tag n y.2 later) in
    (v.0 ∷ vs.0, (v.1, vs.1))

-- one value
pub value_alone : (s : Scope) (all above : Defined) (parent : List ℕ) (tag : Tag)
    (own : Children) → Numbers all s.names → Reads s false parent →
    is_among tag.name value_names ≡ true → Stands (outside s all parent) above tag own →
    Value s false tag own
value_alone s all above parent tag own same reads =
    value_stands s all above false parent tag own same reads
    (λ name may. values_stand s all above false name own same may)
