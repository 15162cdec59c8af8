-- An element that is a value by the table is read as this value.
use Rattle.std.proofs.Common.{◌≡◌, ℕ, Bool, true, false, not, ◌&&◌, ◌||◌, cond, List, [], ◌∷◌, ◌++◌, refl, sym, ap, ◌∙◌, subst, Option, Some, None, codes}
use Rattle.std.specs.Option.{option_map, option_to_list}
use Rattle.std.specs.Str.{bytes_eq}
use Rattle.ap_symbol.specs.declared.symbol.Symbol.{Symbol}
use Rattle.ap_markup.specs.NameLists.{number_of}
use Rattle.ap_markup.specs.Pieces.{Pair}
use Rattle.ap_markup.specs.Said.{value_of, name_of, is_named}
use Rattle.ap_markup.specs.Tree.{Tag}
use Rattle.ap_rules.specs.Children.{Children, nothing, element}
use Rattle.ap_rules.specs.Faults.{is_plain_part, has_attribute}
use Rattle.ap_rules.specs.Plain.{PlainValue, PlainValues, clip, lit, lit_tag, var, get_case_from, case_of, concat, blank_value, no_values, then_value, values_of}
use Rattle.ap_rules.specs.Texts.{number_in, word_of, tags_of, given_text}
use Rattle.ap_rules.specs.ValueRows.{IsNamed, IsPart, IsLinkText, IsClip, IsCaseOf, IsBlankAt, IsAlone, IsValue, AreValues}
use Rattle.ap_rules.specs.Values.{Scope, on_some, position_of, part_named, part_given, side_of, is_value, link_of, clip_of, case_given, recased, simple_value, value, values}
use Rattle.ap_rules.specs.declared.defined.Defined.{Defined}
use Rattle.ap_rules.specs.declared.value.CaseOf.{CaseOf}
use Rattle.ap_rules.specs.declared.value.Clip.{Clip}
use Rattle.ap_rules.specs.declared.value.ClipPart.{ClipPart}
use Rattle.ap_rules.specs.declared.value.ClipPart.TheVariants.{Lem, Lemh, Lemq, Tags, Whole, Content, Attribute}

no_true : ◌≡◌ {A = Bool} true false → ⊥
no_true e = let no : ◌≡◌ {A = Bool} false true = sym e in cc

-- a tag of this name instead
abbrev pub tag_as : List ℕ → Tag → Tag
tag_as name tag = record {
  name = name;
  attributes = tag.attributes;
  place = tag.place;
  line = tag.line;
}

-- what holds of the tag with its name written out holds of it
pub by_name : (P : Tag → Type 0) (tag : Tag) (name : List ℕ) → tag.name ≡ name →
    P (tag_as name tag) → P tag
by_name P tag name e p = subst (λ (n : List ℕ). P (tag_as n tag)) (sym e) p

-- rows of values
pub row_one : (xs ys : List PlainValue) → values_of xs ≡ values_of ys → xs ≡ ys
row_one [] [] e = refl
row_one [] (y ∷ ys) e = absurd (let no : ⊥ = cc in no)
row_one (x ∷ xs) [] e = absurd (let no : ⊥ = cc in no)
row_one (x ∷ xs) (y ∷ ys) e =
    let first : x ≡ y = cc in
    let rest : values_of xs ≡ values_of ys = cc in
    rw first (ap (λ (zs : List PlainValue). y ∷ zs) (row_one xs ys rest))

-- parts of a word

part_read : (content : Bool) (names : Defined) (name : List ℕ) (part : ClipPart) →
    IsPart content names.attrs name part → part_named content names name ≡ Some part
part_read content names name Lem e =
    subst (λ (n : List ℕ). part_named content names n ≡ Some Lem) (sym e) refl
part_read content names name Lemh e =
    subst (λ (n : List ℕ). part_named content names n ≡ Some Lemh) (sym e) refl
part_read content names name Lemq e =
    subst (λ (n : List ℕ). part_named content names n ≡ Some Lemq) (sym e) refl
part_read content names name Tags e =
    subst (λ (n : List ℕ). part_named content names n ≡ Some Tags) (sym e) refl
part_read content names name Whole e =
    subst (λ (n : List ℕ). part_named content names n ≡ Some Whole) (sym e) refl
part_read content names name Content (e, c) =
    subst (λ (n : List ℕ). part_named content names n ≡ Some Content) (sym e)
    (subst (λ (b : Bool). cond b (Some Content) None ≡ Some Content) (sym c) refl)
part_read content names name (Attribute k) (plain, e) =
    by (bytes_eq (codes "lem") name) (bytes_eq (codes "lemh") name) (bytes_eq (codes "lemq") name)
    (bytes_eq (codes "whole") name) (bytes_eq (codes "tags") name)
    (bytes_eq (codes "chcontent") name) plain
  where
    last : option_map {U = ClipPart} Attribute (number_of names.attrs name) ≡ Some (Attribute k)
    last = ap (option_map {U = ClipPart} Attribute) e

    by : (a b c d f g : Bool) → (a || b || c || d || f || g) ≡ false →
        cond a (Some Lem) (cond b (Some Lemh) (cond c (Some Lemq) (cond f (Some Tags)
        (cond d (Some Whole) (cond g (cond {A = Option ClipPart} content (Some Content) None)
        (option_map {U = ClipPart} Attribute (number_of names.attrs name)))))))
        ≡ Some (Attribute k)
    by false false false false false false h = last
    by true b c d f g h = absurd (no_true h)
    by false true c d f g h = absurd (no_true h)
    by false false true d f g h = absurd (no_true h)
    by false false false true f g h = absurd (no_true h)
    by false false false false true g h = absurd (no_true h)
    by false false false false false true h = absurd (no_true h)

link_read : (given : Option (List ℕ)) (link : Option (List Symbol)) → IsLinkText given link →
    link_of given ≡ Some link
link_read given None e = rw e refl
link_read given (Some word) (text, n, is, number, tags) =
    rw is (rw number (ap (option_map {U = Option (List Symbol)} Some) tags))

some_on : {A B : Type 0} (o : Option A) (a : A) (f : A → Option B) (b : B) → o ≡ Some a →
    f a ≡ Some b → on_some o f ≡ Some b
some_on o a f b e h = rw e h

clip_read : (s : Scope) (content : Bool) (given : List Pair) (c : Clip) → IsClip s content given c →
    clip_of s content given ≡ Some c
clip_read s content given c is =
    some_on (position_of s given) c.pos _ c is.pos
    (some_on (part_given (content && not (has_attribute (codes "link-to") given)) s.names given)
    c.part _ c
    (part_read (content && not (has_attribute (codes "link-to") given)) s.names
    (given_text (value_of (codes "part") given)) c.part is.part)
    (some_on (link_of (value_of (codes "link-to") given)) c.link_to _ c
    (link_read (value_of (codes "link-to") given) c.link_to is.link)
    (rw (sym is.side, sym is.queue) refl)))

case_read : (s : Scope) (given : List Pair) (c : CaseOf) → IsCaseOf s given c →
    case_given s given ≡ Some c
case_read s given c is =
    some_on (position_of s given) c.pos _ c is.pos
    (some_on (part_given false s.names given) c.part _ c
    (part_read false s.names (given_text (value_of (codes "part") given)) c.part is.part)
    (rw (sym is.side) refl))

pub blank_read : (given : List Pair) (pos : Option ℕ) → IsBlankAt given pos →
    number_in 1 99 (value_of (codes "pos") given) ≡ pos
blank_read given None e = rw e refl
blank_read given (Some n) e = e

-- what is read of an element, and of those behind it
pub one_more : {A : Type 0} (o : Option A) (x : A) (xs ys : List A) → o ≡ Some x → xs ≡ ys →
    option_to_list o ++ xs ≡ x ∷ ys
one_more o x xs ys e h = rw (e, h) refl

-- one element alone
alone_read : (s : Scope) (own : Children) (v : PlainValue) → ((tag : Tag) (inner : Children) →
    IsValue s false tag inner v → value s false tag (values s false inner) ≡ Some v) →
    IsAlone own (λ (one : Tag) (its : Children). IsValue s false one its v) →
    values s false own ≡ v ∷ []
alone_read s nothing v read is = absurd is
alone_read s (element tag own nothing) v read is =
    one_more (value s false tag (values s false own)) v [] [] (read tag own is) refl
alone_read s (element tag own (element next inner more)) v read is = absurd is

mutual
  pub value_read : (s : Scope) (content : Bool) (tag : Tag) (own : Children) (v : PlainValue) →
      IsValue s content tag own v → value s content tag (values s false own) ≡ Some v
  value_read s content tag own (clip c) (name, is) =
      by_name (λ t. value s content t (values s false own) ≡ Some (clip c)) tag (codes "clip") name
      (ap (option_map clip) (clip_read s content tag.attributes c is))
  value_read s content tag own (lit w) (name, is) =
      by_name (λ t. value s content t (values s false own) ≡ Some (lit w)) tag (codes "lit") name
      (ap (λ (z : List Symbol). Some (lit z)) (sym is))
  value_read s content tag own (lit_tag w) (name, is) =
      by_name (λ t. value s content t (values s false own) ≡ Some (lit_tag w)) tag (codes "lit-tag")
      name (ap (option_map lit_tag) is)
  value_read s content tag own (var n) (name, is) =
      by_name (λ t. value s content t (values s false own) ≡ Some (var n)) tag (codes "var") name
      (ap (option_map var) is)
  value_read s content tag own (get_case_from pos v) (name, at, is) =
      by_name (λ t. value s content t (values s false own) ≡ Some (get_case_from pos v)) tag
      (codes "get-case-from") name
      (subst (λ (o : Option ℕ). recased o (values s false own) ≡ Some (get_case_from pos v)) (sym at)
      (ap (recased (Some pos)) (alone_read s own v (λ t o h. value_read s false t o v h) is)))
  value_read s content tag own (case_of c) (name, is) =
      by_name (λ t. value s content t (values s false own) ≡ Some (case_of c)) tag (codes "case-of")
      name (ap (option_map case_of) (case_read s tag.attributes c is))
  value_read s content tag own (concat vs) (name, is) =
      by_name (λ t. value s content t (values s false own) ≡ Some (concat vs)) tag (codes "concat")
      name (ap (λ (z : PlainValues). Some (concat z)) (values_read s false own vs is))
  value_read s content tag own (blank_value pos) (name, is) =
      by_name (λ t. value s content t (values s false own) ≡ Some (blank_value pos)) tag (codes "b")
      name (ap (λ (z : Option ℕ). Some (blank_value z)) (blank_read tag.attributes pos is))

  pub values_read : (s : Scope) (content : Bool) (own : Children) (vs : PlainValues) →
      AreValues s content own vs → values_of (values s content own) ≡ vs
  values_read s content nothing no_values is = refl
  values_read s content nothing (then_value v vs) is = absurd is
  values_read s content (element tag own more) no_values is = absurd is
  values_read s content (element tag own more) (then_value v vs) (first, rest) =
      ap values_of (one_more (value s content tag (values s false own)) v (values s content more)
      (values s content more) (value_read s content tag own v first) refl)
      ∙ ap (then_value v) (values_read s content more vs rest)

-- the values of a list
pub list_read : (s : Scope) (content : Bool) (own : Children) (vs : List PlainValue) →
    AreValues s content own (values_of vs) → values s content own ≡ vs
list_read s content own vs is =
    row_one (values s content own) vs (values_read s content own (values_of vs) is)
