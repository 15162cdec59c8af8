-- What a tree spells is sound.
use Rattle.std.proofs.Common.{◌≡◌, ℕ, ◌<◌, ◌≤◌, Bool, true, false, not, ◌&&◌, ◌==◌, cond, ltb, nat_le, List, [], ◌∷◌, ◌++◌, length, refl, sym, ap, arith, Option, Some, None, codes, is_none, is_some}
use Rattle.std.specs.Prelude.{slice_get}
use Rattle.std.specs.Option.{option_map, option_to_list}
use Rattle.std.specs.List.{position_or_len}
use Rattle.std.specs.Str.{bytes_eq, encode_utf8_all}
use Rattle.std.proofs.lemmas.Bool.Decides.{nat_tests}
use Rattle.ap_symbol.specs.TagNames.{is_tag_name}
use Rattle.ap_symbol.specs.declared.symbol.Symbol.{Symbol}
use Rattle.ap_symbol.specs.declared.symbol.Symbol.TheVariants.{Tag as tag_symbol_of, Star}
use Rattle.ap_markup.specs.NameLists.{number_of}
use Rattle.ap_markup.specs.Pieces.{Pair}
use Rattle.ap_markup.specs.Said.{value_of, name_of, is_named}
use Rattle.ap_markup.specs.Tree.{Tag}
use Rattle.ap_rules.specs.Children.{Children, nothing, element, within, tag_within}
use Rattle.ap_rules.specs.Conditions.{comparison, membership, list_number, list_in, conjunction, disjunction, negation, simple_condition, condition, conditions}
use Rattle.ap_rules.specs.Faults.{is_transfer}
use Rattle.ap_rules.specs.Pieces.{rows_named, chunk_piece, chunk_pieces, variable_given, word_given, is_named_once, chunk_of, any_chunk, piece, pieces}
use Rattle.ap_rules.specs.Plain.{PlainValue, clip, lit, lit_tag, var, get_case_from, case_of, concat, blank_value, values_of, PlainComparison, PlainMembership, PlainCondition, equal, begins_with, ends_with, contains_substring, is_in, begins_with_list, ends_with_list, conditions_of, PlainChunkPiece, chunk_unit, chunk_units, chunk_blank, PlainChunk, PlainPiece, blank, unit, units, chunk, value_chunk, PlainStatement, out, PlainWhen, assign, modify_case, call_macro, statements_of, whens_of}
use Rattle.ap_rules.specs.Soundness.{Opt, Each, Bounds, IsWithin, IsPosition, IsTag, IsLink, IsSoundPart, IsSoundClip, IsSoundCase, IsSoundBlank, IsSoundValue, AreSoundValues, AreSound, IsSoundComparison, IsSoundMembership, IsSoundCondition, AreSoundConditions, IsSoundChunkPiece, IsVariable, IsSoundChunk, IsSoundPiece, IsSoundPlace, IsSoundStatement, AreSoundStatements, AreSoundWhens}
use Rattle.ap_rules.specs.Statements.{place_of, placed, setting, params, is_given, call_of, appended, choice, simple_statement, statement, tested, when_of, statements, whens, otherwise}
use Rattle.ap_rules.specs.Texts.{decimal, bounded, number_in, word_of, tag_named, tag_symbol, parts_after, with_symbol, tag_symbols, tags_of, given_text}
use Rattle.ap_rules.specs.Values.{Scope, on_some, position_of, part_named, part_given, side_of, is_value, link_of, clip_of, case_given, recased, simple_value, value, values}
use Rattle.ap_rules.specs.declared.defined.Defined.{Defined}
use Rattle.ap_rules.specs.declared.statement.Place.{Place}
use Rattle.ap_rules.specs.declared.value.Clip.{Clip}
use Rattle.ap_rules.specs.declared.value.ClipPart.{ClipPart}
use Rattle.ap_rules.specs.declared.value.ClipPart.TheVariants.{Lem, Lemh, Lemq, Tags, Whole, Content, Attribute}
use Rattle.ap_rules.proofs.Links.{link_sound}

-- what holds of options and lists

pub opt_if : {A : Type 0} (P : A → Type 0) (b : Bool) (x y : Option A) → Opt P x → Opt P y →
    Opt P (cond b x y)
opt_if P true x y p q = p
opt_if P false x y p q = q

pub opt_map : {A B : Type 0} (P : A → Type 0) (Q : B → Type 0) (f : A → B) (o : Option A) →
    ((a : A) → P a → Q (f a)) → Opt P o → Opt Q (option_map f o)
opt_map P Q f None h p = tt
opt_map P Q f (Some a) h p = h a p

pub opt_bind : {A B : Type 0} (P : A → Type 0) (Q : B → Type 0) (f : A → Option B) (o : Option A) →
    ((a : A) → P a → Opt Q (f a)) → Opt P o → Opt Q (on_some o f)
opt_bind P Q f None h p = tt
opt_bind P Q f (Some a) h p = h a p

pub each_opt : {A : Type 0} (P : A → Type 0) (o : Option A) → Opt P o → Each P (option_to_list o)
each_opt P None p = tt
each_opt P (Some a) p = (p, tt)

pub each_both : {A : Type 0} (P : A → Type 0) (xs ys : List A) → Each P xs → Each P ys →
    Each P (xs ++ ys)
each_both P [] ys p q = q
each_both P (x ∷ xs) ys p q = (p.0, each_both P xs ys p.1 q)

pub each_if : {A : Type 0} (P : A → Type 0) (b : Bool) (xs ys : List A) → Each P xs → Each P ys →
    Each P (cond b xs ys)
each_if P true xs ys p q = p
each_if P false xs ys p q = q

-- numbers

bounded_by : (least most n : ℕ) (p q : Bool) → nat_le least n ≡ p → nat_le n most ≡ q →
    Opt (IsWithin least most) (cond (p && q) (Some n) None)
bounded_by least most n true true e f = (grind (arith, nat_tests), grind (arith, nat_tests))
bounded_by least most n true false e f = tt
bounded_by least most n false q e f = tt

number_bounded : (least most : ℕ) (o : Option ℕ) → Opt (IsWithin least most) (bounded least most o)
number_bounded least most None = tt
number_bounded least most (Some n) =
    bounded_by least most n (nat_le least n) (nat_le n most) refl refl

pub number_within : (least most : ℕ) (o : Option (List ℕ)) →
    Opt (IsWithin least most) (number_in least most o)
number_within least most None = tt
number_within least most (Some text) = number_bounded least most (decimal text)

below : (b : Bool) (k len bound : ℕ) → ltb k len ≡ b → len ≤ bound →
    Opt (λ n. n < bound) (cond b (Some k) None)
below true k len bound e le = grind (arith, nat_tests)
below false k len bound e le = tt

pub number_below : (names : List (List ℕ)) (name : List ℕ) (bound : ℕ) → length names ≤ bound →
    Opt (λ n. n < bound) (number_of names name)
number_below names name bound le =
    below (ltb (position_or_len (bytes_eq name) names) (length names))
    (position_or_len (bytes_eq name) names) (length names) bound refl le

-- tags

abbrev AreTags : Bool → List Symbol → Type 0
AreTags stars word = Each (IsTag stars) word

star_sound : (stars b : Bool) → b ≡ stars → Opt (IsTag stars) (cond b (Some Star) None)
star_sound stars true e = sym e
star_sound stars false e = tt

named_sound : (stars b : Bool) (name : List ℕ) →
    Opt (IsTag stars) (cond b (Some (tag_symbol_of name)) None)
named_sound stars true name = tt
named_sound stars false name = tt

symbol_sound : (stars : Bool) (part : List ℕ) → Opt (IsTag stars) (tag_symbol stars part)
symbol_sound stars part =
    opt_if (IsTag stars) (bytes_eq (codes "*") part) (cond stars (Some Star) None)
    (tag_named (encode_utf8_all part)) (star_sound stars stars refl)
    (named_sound stars (is_tag_name (encode_utf8_all part)) (encode_utf8_all part))

with_sound : (stars : Bool) (o : Option Symbol) (p : Option (List Symbol)) → Opt (IsTag stars) o →
    Opt (AreTags stars) p → Opt (AreTags stars) (with_symbol o p)
with_sound stars None p h k = tt
with_sound stars (Some s) None h k = tt
with_sound stars (Some s) (Some ss) h k = (h, k)

symbols_sound : (stars : Bool) (parts : List (List ℕ)) →
    Opt (AreTags stars) (tag_symbols stars parts)
symbols_sound stars [] = tt
symbols_sound stars (part ∷ parts) =
    with_sound stars (tag_symbol stars part) (tag_symbols stars parts) (symbol_sound stars part)
    (symbols_sound stars parts)

pub tags_sound : (stars : Bool) (text : List ℕ) → Opt (AreTags stars) (tags_of stars text)
tags_sound stars text = opt_if (AreTags stars) (length text == 0) (Some [])
    (tag_symbols stars (parts_after [] text)) tt (symbols_sound stars (parts_after [] text))

-- what a scope lets be numbered
pub record Counts : Type 0 where
  pub attributes : ℕ
  pub variables : ℕ
  pub lists : ℕ

abbrev pub bounds : Scope → Counts → Bounds
bounds s n = record {
  form = s.form;
  chunks = s.chunks;
  attributes = n.attributes;
  variables =
      n.variables;
  lists = n.lists;
  npars = s.names.npars;
  reach = s.reach;
}

-- the names that have numbers are no more than what there is
pub record Fits (s : Scope) (n : Counts) : Type 0 where
  pub attributes : length s.names.attrs ≤ n.attributes
  pub variables : length s.names.vars ≤ n.variables
  pub lists : length s.names.lists ≤ n.lists

-- values

content_sound : (content : Bool) (bound : ℕ) (b : Bool) → b ≡ content →
    Opt (IsSoundPart content bound) (cond b (Some Content) None)
content_sound content bound true e = sym e
content_sound content bound false e = tt

part_sound : (content : Bool) (names : Defined) (part : List ℕ) (bound : ℕ) →
    length names.attrs ≤ bound → Opt (IsSoundPart content bound) (part_named content names part)
part_sound content names part bound le =
    let P = IsSoundPart content bound in
    let six = cond {A = Option ClipPart} content (Some Content) None in
    let last = option_map {U = ClipPart} Attribute (number_of names.attrs part) in
    let b6 = cond (bytes_eq (codes "chcontent") part) six last in
    let b5 = cond (bytes_eq (codes "whole") part) (Some Whole) b6 in
    let b4 = cond (bytes_eq (codes "tags") part) (Some Tags) b5 in
    let b3 = cond (bytes_eq (codes "lemq") part) (Some Lemq) b4 in
    let b2 = cond (bytes_eq (codes "lemh") part) (Some Lemh) b3 in
    opt_if P (bytes_eq (codes "lem") part) (Some Lem) b2 tt
    (opt_if P (bytes_eq (codes "lemh") part) (Some Lemh) b3 tt
    (opt_if P (bytes_eq (codes "lemq") part) (Some Lemq) b4 tt
    (opt_if P (bytes_eq (codes "tags") part) (Some Tags) b5 tt
    (opt_if P (bytes_eq (codes "whole") part) (Some Whole) b6 tt
    (opt_if P (bytes_eq (codes "chcontent") part) six last
    (content_sound content bound content refl)
    (opt_map (λ n. n < bound) P Attribute (number_of names.attrs part) (λ n h. h)
    (number_below names.attrs part bound le)))))))

clip_with : (s : Scope) (n : Counts) (content : Bool) (given : List Pair) (o : Option (List ℕ)) →
    Fits s n → Opt (IsSoundClip (bounds s n) content)
    (on_some (position_of s given) (λ (pos : ℕ).
    on_some (part_given (content && not (is_some o)) s.names given) (λ (part : ClipPart).
    on_some (link_of o) (λ (link : Option (List Symbol)).
    Some (record {
      pos = pos;
      part = part;
      side = side_of s.form given;
      queue =
          not (is_value (codes "no") (value_of (codes "queue") given));
      link_to = link;
    })))))
clip_with s n content given None f =
    opt_bind (IsPosition (bounds s n)) (IsSoundClip (bounds s n) content) _ (position_of s given)
    (λ pos at. opt_bind (IsSoundPart (content && true) n.attributes)
    (IsSoundClip (bounds s n) content) _ (part_given (content && true) s.names given)
    (λ part sound. (at, sound, tt))
    (part_sound (content && true) s.names (given_text (value_of (codes "part") given)) n.attributes
    f.attributes))
    (number_within s.reach.least s.reach.most (value_of (codes "pos") given))
clip_with s n content given (Some text) f =
    opt_bind (IsPosition (bounds s n)) (IsSoundClip (bounds s n) content) _ (position_of s given)
    (λ pos at. opt_bind (IsSoundPart (content && false) n.attributes)
    (IsSoundClip (bounds s n) content) _ (part_given (content && false) s.names given)
    (λ part sound. linked pos at part sound (is_none (number_in 1 99 (Some text))) refl)
    (part_sound (content && false) s.names (given_text (value_of (codes "part") given)) n.attributes
    f.attributes))
    (number_within s.reach.least s.reach.most (value_of (codes "pos") given))
  where
    clip_to : ℕ → ClipPart → Option (List Symbol) → Clip
    clip_to pos part link = record {
      pos = pos;
      part = part;
      side = side_of s.form given;
      queue =
          not (is_value (codes "no") (value_of (codes "queue") given));
      link_to = link;
    }

    linked : (pos : ℕ) → IsPosition (bounds s n) pos → (part : ClipPart) →
        IsSoundPart (content && false) n.attributes part → (b : Bool) →
        is_none (number_in 1 99 (Some text)) ≡ b →
        Opt (IsSoundClip (bounds s n) content)
        (on_some (cond {A = Option (Option (List Symbol))} b None
        (option_map Some (tags_of false text)))
        (λ (link : Option (List Symbol)). Some (clip_to pos part link)))
    linked pos at part sound true e = tt
    linked pos at part sound false e = tagged (tags_of false text) (is_link number refl e)
      where
        number : Option ℕ
        number = number_in 1 99 (Some text)

        is_link : (o : Option ℕ) → number_in 1 99 (Some text) ≡ o → is_none o ≡ false →
            Opt IsLink (tags_of false text)
        is_link None h k = absurd (let no : ⊥ = let q : ◌≡◌ {A = Bool} false true = sym k in cc in
            no)
        is_link (Some n) h k = link_sound text n h

        tagged : (o : Option (List Symbol)) → Opt IsLink o →
            Opt (IsSoundClip (bounds s n) content)
            (on_some (option_map Some o)
            (λ (link : Option (List Symbol)). Some (clip_to pos part link)))
        tagged None h = tt
        tagged (Some word) h = (at, sound, h)

clip_sound : (s : Scope) (n : Counts) (content : Bool) (given : List Pair) → Fits s n →
    Opt (IsSoundClip (bounds s n) content) (clip_of s content given)
clip_sound s n content given f = clip_with s n content given (value_of (codes "link-to") given) f

case_sound : (s : Scope) (n : Counts) (given : List Pair) → Fits s n →
    Opt (IsSoundCase (bounds s n)) (case_given s given)
case_sound s n given f =
    opt_bind (IsPosition (bounds s n)) (IsSoundCase (bounds s n)) _ (position_of s given)
    (λ pos at. opt_bind (IsSoundPart false n.attributes) (IsSoundCase (bounds s n)) _
    (part_given false s.names given)
    (λ part sound. (at, sound))
    (part_sound false s.names (given_text (value_of (codes "part") given)) n.attributes
    f.attributes))
    (number_within s.reach.least s.reach.most (value_of (codes "pos") given))

blank_sound : (given : List Pair) → IsSoundBlank (number_in 1 99 (value_of (codes "pos") given))
blank_sound given = number_within 1 99 (value_of (codes "pos") given)

recased_sound : (b : Bounds) (content : Bool) (o : Option ℕ) (inner : List PlainValue) →
    Opt (IsPosition b) o → AreSound b inner → Opt (IsSoundValue b content) (recased o inner)
recased_sound b content None inner h k = tt
recased_sound b content (Some pos) [] h k = tt
recased_sound b content (Some pos) (v ∷ []) h k = (h, k.0)
recased_sound b content (Some pos) (v ∷ w ∷ vs) h k = tt

row_sound : (b : Bounds) (vs : List PlainValue) → AreSound b vs → AreSoundValues b (values_of vs)
row_sound b [] h = tt
row_sound b (v ∷ vs) h = (h.0, row_sound b vs h.1)

simple_sound : (s : Scope) (n : Counts) (content : Bool) (tag : Tag) → Fits s n →
    Opt (IsSoundValue (bounds s n) content) (simple_value s content tag)
simple_sound s n content tag f =
    let b = bounds s n in
    let P = IsSoundValue b content in
    let given = tag.attributes in
    let text = given_text (value_of (codes "v") given) in
    let x1 : Option PlainValue = option_map clip (clip_of s content given) in
    let x2 : Option PlainValue = Some (lit (word_of text)) in
    let x3 : Option PlainValue = option_map lit_tag (tags_of false text) in
    let x4 : Option PlainValue = option_map var (number_of s.names.vars (name_of given)) in
    let x5 : Option PlainValue = option_map case_of (case_given s given) in
    let x6 : Option PlainValue =
    Some (blank_value (number_in 1 99 (value_of (codes "pos") given))) in
    let y6 = cond {A = Option PlainValue} (is_named (codes "b") tag) x6 None in
    let y5 = cond (is_named (codes "case-of") tag) x5 y6 in
    let y4 = cond (is_named (codes "var") tag) x4 y5 in
    let y3 = cond (is_named (codes "lit-tag") tag) x3 y4 in
    let y2 = cond (is_named (codes "lit") tag) x2 y3 in
    opt_if P (is_named (codes "clip") tag) x1 y2
    (opt_map (IsSoundClip b content) P clip (clip_of s content given) (λ c h. h)
    (clip_sound s n content given f))
    (opt_if P (is_named (codes "lit") tag) x2 y3 tt
    (opt_if P (is_named (codes "lit-tag") tag) x3 y4
    (opt_map (AreTags false) P lit_tag (tags_of false text) (λ w h. h) (tags_sound false text))
    (opt_if P (is_named (codes "var") tag) x4 y5
    (opt_map (λ k. k < n.variables) P var (number_of s.names.vars (name_of given)) (λ k h. h)
    (number_below s.names.vars (name_of given) n.variables f.variables))
    (opt_if P (is_named (codes "case-of") tag) x5 y6
    (opt_map (IsSoundCase b) P case_of (case_given s given) (λ c h. h) (case_sound s n given f))
    (opt_if P (is_named (codes "b") tag) x6 None (blank_sound given) tt)))))

value_sound : (s : Scope) (n : Counts) (content : Bool) (tag : Tag) (inner : List PlainValue) →
    Fits s n → AreSound (bounds s n) inner →
    Opt (IsSoundValue (bounds s n) content) (value s content tag inner)
value_sound s n content tag inner f h =
    let b = bounds s n in
    let P = IsSoundValue b content in
    opt_if P (is_named (codes "get-case-from") tag) (recased (position_of s tag.attributes) inner)
    (cond (is_named (codes "concat") tag) (Some (concat (values_of inner)))
    (simple_value s content tag))
    (recased_sound b content (position_of s tag.attributes) inner
    (number_within s.reach.least s.reach.most (value_of (codes "pos") tag.attributes)) h)
    (opt_if P (is_named (codes "concat") tag) (Some (concat (values_of inner)))
    (simple_value s content tag) (row_sound b inner h) (simple_sound s n content tag f))

pub values_sound : (s : Scope) (n : Counts) (content : Bool) (own : Children) → Fits s n →
    Each (IsSoundValue (bounds s n) content) (values s content own)
values_sound s n content nothing f = tt
values_sound s n content (element tag inner more) f =
    let P = IsSoundValue (bounds s n) content in
    let o = value s content tag (values s false inner) in
    each_both P (option_to_list o) (values s content more)
    (each_opt P o (value_sound s n content tag (values s false inner) f
    (values_sound s n false inner f))) (values_sound s n content more f)

-- conditions

comparison_sound : (b : Bounds) (given : List Pair) (vs : List PlainValue) → AreSound b vs →
    Opt (IsSoundComparison b) (comparison given vs)
comparison_sound b given [] h = tt
comparison_sound b given (v ∷ []) h = tt
comparison_sound b given (v ∷ w ∷ []) h = (h.0, h.1.0)
comparison_sound b given (v ∷ w ∷ x ∷ more) h = tt

membership_sound : (b : Bounds) (given : List Pair) (vs : List PlainValue) (list : Option ℕ) →
    AreSound b vs → Opt (λ k. k < b.lists) list →
    Opt (IsSoundMembership b) (membership given vs list)
membership_sound b given [] list h k = tt
membership_sound b given (v ∷ []) None h k = tt
membership_sound b given (v ∷ []) (Some m) h k = (h.0, k)
membership_sound b given (v ∷ w ∷ more) list h k = tt

list_sound : (s : Scope) (bound : ℕ) (o : Option Tag) → length s.names.lists ≤ bound →
    Opt (λ k. k < bound) (list_number s o)
list_sound s bound None le = tt
list_sound s bound (Some tag) le = number_below s.names.lists (name_of tag.attributes) bound le

conditions_row : (b : Bounds) (cs : List PlainCondition) → Each (IsSoundCondition b) cs →
    AreSoundConditions b (conditions_of cs)
conditions_row b [] h = tt
conditions_row b (c ∷ cs) h = (h.0, conditions_row b cs h.1)

conjunction_sound : (b : Bounds) (cs : List PlainCondition) → Each (IsSoundCondition b) cs →
    Opt (IsSoundCondition b) (conjunction cs)
conjunction_sound b [] h = tt
conjunction_sound b (c ∷ cs) h = (tt, (h.0, conditions_row b cs h.1))

disjunction_sound : (b : Bounds) (cs : List PlainCondition) → Each (IsSoundCondition b) cs →
    Opt (IsSoundCondition b) (disjunction cs)
disjunction_sound b [] h = tt
disjunction_sound b (c ∷ cs) h = (tt, (h.0, conditions_row b cs h.1))

negation_sound : (b : Bounds) (cs : List PlainCondition) → Each (IsSoundCondition b) cs →
    Opt (IsSoundCondition b) (negation cs)
negation_sound b [] h = tt
negation_sound b (c ∷ []) h = h.0
negation_sound b (c ∷ d ∷ more) h = tt

compared_sound : (s : Scope) (n : Counts) (given : List Pair) (own : Children)
    (f : PlainComparison → PlainCondition) →
    ((c : PlainComparison) → IsSoundComparison (bounds s n) c → IsSoundCondition (bounds s n) (f c))
    → Fits s n → Opt (IsSoundCondition (bounds s n))
    (option_map f (comparison given (values s false own)))
compared_sound s n given own make h f =
    opt_map (IsSoundComparison (bounds s n)) (IsSoundCondition (bounds s n)) make
    (comparison given (values s false own)) h
    (comparison_sound (bounds s n) given (values s false own) (values_sound s n false own f))

listed_sound : (s : Scope) (n : Counts) (given : List Pair) (own : Children) (f : PlainMembership →
    PlainCondition) → ((m : PlainMembership) → IsSoundMembership (bounds s n) m →
    IsSoundCondition (bounds s n) (f m)) → Fits s n →
    Opt (IsSoundCondition (bounds s n))
    (option_map f (membership given (values s false own) (list_in s own)))
listed_sound s n given own make h f =
    opt_map (IsSoundMembership (bounds s n)) (IsSoundCondition (bounds s n)) make
    (membership given (values s false own) (list_in s own)) h
    (membership_sound (bounds s n) given (values s false own) (list_in s own)
    (values_sound s n false own f)
    (list_sound s n.lists (tag_within (codes "list") own) f.lists))

simple_condition_sound : (s : Scope) (n : Counts) (tag : Tag) (own : Children) → Fits s n →
    Opt (IsSoundCondition (bounds s n)) (simple_condition s tag own)
simple_condition_sound s n tag own f =
    let P = IsSoundCondition (bounds s n) in
    let given = tag.attributes in
    let compared = comparison given (values s false own) in
    let listed = membership given (values s false own) (list_in s own) in
    let x1 : Option PlainCondition = option_map equal compared in
    let x2 : Option PlainCondition = option_map begins_with compared in
    let x3 : Option PlainCondition = option_map ends_with compared in
    let x4 : Option PlainCondition = option_map contains_substring compared in
    let x5 : Option PlainCondition = option_map is_in listed in
    let x6 : Option PlainCondition = option_map begins_with_list listed in
    let x7 : Option PlainCondition = option_map ends_with_list listed in
    let y7 = cond {A = Option PlainCondition} (is_named (codes "ends-with-list") tag) x7 None in
    let y6 = cond (is_named (codes "begins-with-list") tag) x6 y7 in
    let y5 = cond (is_named (codes "in") tag) x5 y6 in
    let y4 = cond (is_named (codes "contains-substring") tag) x4 y5 in
    let y3 = cond (is_named (codes "ends-with") tag) x3 y4 in
    let y2 = cond (is_named (codes "begins-with") tag) x2 y3 in
    opt_if P (is_named (codes "equal") tag) x1 y2 (compared_sound s n given own equal (λ c h. h) f)
    (opt_if P (is_named (codes "begins-with") tag) x2 y3
    (compared_sound s n given own begins_with (λ c h. h) f)
    (opt_if P (is_named (codes "ends-with") tag) x3 y4
    (compared_sound s n given own ends_with (λ c h. h) f)
    (opt_if P (is_named (codes "contains-substring") tag) x4 y5
    (compared_sound s n given own contains_substring (λ c h. h) f)
    (opt_if P (is_named (codes "in") tag) x5 y6 (listed_sound s n given own is_in (λ m h. h) f)
    (opt_if P (is_named (codes "begins-with-list") tag) x6 y7
    (listed_sound s n given own begins_with_list (λ m h. h) f)
    (opt_if P (is_named (codes "ends-with-list") tag) x7 None
    (listed_sound s n given own ends_with_list (λ m h. h) f) tt))))))

condition_sound : (s : Scope) (n : Counts) (tag : Tag) (own : Children)
    (inner : List PlainCondition) → Fits s n → Each (IsSoundCondition (bounds s n)) inner →
    Opt (IsSoundCondition (bounds s n)) (condition s tag own inner)
condition_sound s n tag own inner f h =
    let b = bounds s n in
    let P = IsSoundCondition b in
    let y3 = cond (is_named (codes "not") tag) (negation inner) (simple_condition s tag own) in
    let y2 = cond (is_named (codes "or") tag) (disjunction inner) y3 in
    opt_if P (is_named (codes "and") tag) (conjunction inner) y2 (conjunction_sound b inner h)
    (opt_if P (is_named (codes "or") tag) (disjunction inner) y3 (disjunction_sound b inner h)
    (opt_if P (is_named (codes "not") tag) (negation inner) (simple_condition s tag own)
    (negation_sound b inner h) (simple_condition_sound s n tag own f)))

pub conditions_sound : (s : Scope) (n : Counts) (own : Children) → Fits s n →
    Each (IsSoundCondition (bounds s n)) (conditions s own)
conditions_sound s n nothing f = tt
conditions_sound s n (element tag inner more) f =
    let P = IsSoundCondition (bounds s n) in
    let o = condition s tag inner (conditions s inner) in
    each_both P (option_to_list o) (conditions s more)
    (each_opt P o (condition_sound s n tag inner (conditions s inner) f
    (conditions_sound s n inner f))) (conditions_sound s n more f)

-- pieces

rows_sound : (name : List ℕ) (s : Scope) (n : Counts) (own : Children) → Fits s n →
    Each (AreSound (bounds s n)) (rows_named name s own)
rows_sound name s n nothing f = tt
rows_sound name s n (element tag inner more) f =
    each_if (AreSound (bounds s n)) (is_named name tag)
    (values s false inner ∷ rows_named name s more) (rows_named name s more)
    (values_sound s n false inner f, rows_sound name s n more f) (rows_sound name s n more f)

chunk_piece_sound : (s : Scope) (n : Counts) (tag : Tag) (own : Children) → Fits s n →
    Opt (IsSoundChunkPiece (bounds s n)) (chunk_piece s tag own)
chunk_piece_sound s n tag own f =
    by (is_named (codes "lu") tag) (is_named (codes "mlu") tag) (is_named (codes "b") tag)
  where
    by : (x y z : Bool) → Opt (IsSoundChunkPiece (bounds s n))
        (cond {A = Option PlainChunkPiece} x (Some (chunk_unit (values s false own)))
        (cond y (Some (chunk_units (rows_named (codes "lu") s own)))
        (cond z (Some (chunk_blank (number_in 1 99 (value_of (codes "pos") tag.attributes))))
        None)))
    by true y z = values_sound s n false own f
    by false true z = rows_sound (codes "lu") s n own f
    by false false true = blank_sound tag.attributes
    by false false false = tt

chunk_pieces_sound : (s : Scope) (n : Counts) (own : Children) → Fits s n →
    Each (IsSoundChunkPiece (bounds s n)) (chunk_pieces s own)
chunk_pieces_sound s n nothing f = tt
chunk_pieces_sound s n (element tag inner more) f =
    let P = IsSoundChunkPiece (bounds s n) in
    each_both P (option_to_list (chunk_piece s tag inner)) (chunk_pieces s more)
    (each_opt P (chunk_piece s tag inner) (chunk_piece_sound s n tag inner f))
    (chunk_pieces_sound s n more f)

-- a variable that is given has a number
variable_sound : (vars : List (List ℕ)) (bound : ℕ) (o : Option (List ℕ)) → length vars ≤ bound →
    Opt (Opt (λ k. k < bound)) (variable_given vars o)
variable_sound vars bound None le = tt
variable_sound vars bound (Some name) le =
    opt_map (λ k. k < bound) (Opt (λ k. k < bound)) Some (number_of vars name) (λ k h. h)
    (number_below vars name bound le)

chunk_sound : (s : Scope) (n : Counts) (given : List Pair) (own : Children) → Fits s n →
    Opt (IsSoundChunk (bounds s n)) (chunk_of s given own)
chunk_sound s n given own f =
    let b = bounds s n in
    let V = Opt (IsVariable b) in
    opt_bind V (IsSoundChunk b) _ (variable_given s.names.vars (value_of (codes "namefrom") given))
    (λ namefrom h. opt_bind V (IsSoundChunk b) _
    (variable_given s.names.vars (value_of (codes "case") given))
    (λ case k. by namefrom case h k
    (is_named_once (word_given (value_of (codes "name") given)) namefrom) refl)
    (variable_sound s.names.vars n.variables (value_of (codes "case") given) f.variables))
    (variable_sound s.names.vars n.variables (value_of (codes "namefrom") given) f.variables)
  where
    made : Option ℕ → Option ℕ → PlainChunk
    made namefrom case = record {
      name = word_given (value_of (codes "name") given);
      namefrom = namefrom;
      case = case;
      tags = rows_named (codes "tag") s (within (codes "tags") own);
      pieces = chunk_pieces s own;
    }

    by : (namefrom case : Option ℕ) → Opt (IsVariable (bounds s n)) namefrom →
        Opt (IsVariable (bounds s n)) case → (t : Bool) →
        is_named_once (word_given (value_of (codes "name") given)) namefrom ≡ t →
        Opt (IsSoundChunk (bounds s n))
        (cond {A = Option PlainChunk} t (Some (made namefrom case)) None)
    by namefrom case h k true e = record {
      named = e;
      namefrom = h;
      case = k;
      tags = rows_sound (codes "tag") s n (within (codes "tags") own) f;
      pieces = chunk_pieces_sound s n own f;
    }
    by namefrom case h k false e = tt

any_chunk_sound : (s : Scope) (n : Counts) (tag : Tag) (own : Children) → Fits s n →
    s.chunks ≡ true → Opt (IsSoundPiece (bounds s n)) (any_chunk s tag own)
any_chunk_sound s n tag own f chunks = by (is_transfer s.form) refl
  where
    by : (t : Bool) → is_transfer s.form ≡ t →
        Opt (IsSoundPiece (bounds s n))
        (cond {A = Option PlainPiece} t (option_map chunk (chunk_of s tag.attributes own))
        (Some (value_chunk (values s true own))))
    by true e = opt_map (IsSoundChunk (bounds s n)) (IsSoundPiece (bounds s n)) chunk
        (chunk_of s tag.attributes own) (λ c h. (chunks, e, h))
        (chunk_sound s n tag.attributes own f)
    by false e = (chunks, e, values_sound s n true own f)

piece_sound : (s : Scope) (n : Counts) (tag : Tag) (own : Children) → Fits s n →
    Opt (IsSoundPiece (bounds s n)) (piece s tag own)
piece_sound s n tag own f =
    by (is_named (codes "b") tag) (is_named (codes "chunk") tag) (is_named (codes "lu") tag)
    (is_named (codes "mlu") tag) s.chunks refl
  where
    by : (w x y z t : Bool) → s.chunks ≡ t →
        Opt (IsSoundPiece (bounds s n))
        (cond {A = Option PlainPiece} w
        (Some (blank (number_in 1 99 (value_of (codes "pos") tag.attributes))))
        (cond x (cond t (any_chunk s tag own) None)
        (cond y (cond t None (Some (unit (values s false own))))
        (cond z (cond t None (Some (units (rows_named (codes "lu") s own)))) None))))
    by true x y z t e = blank_sound tag.attributes
    by false true y z true e = any_chunk_sound s n tag own f e
    by false true y z false e = tt
    by false false true z true e = tt
    by false false true z false e = (e, values_sound s n false own f)
    by false false false true true e = tt
    by false false false true false e = (e, rows_sound (codes "lu") s n own f)
    by false false false false t e = tt

pub pieces_sound : (s : Scope) (n : Counts) (own : Children) → Fits s n →
    Each (IsSoundPiece (bounds s n)) (pieces s own)
pieces_sound s n nothing f = tt
pieces_sound s n (element tag inner more) f =
    let P = IsSoundPiece (bounds s n) in
    each_both P (option_to_list (piece s tag inner)) (pieces s more)
    (each_opt P (piece s tag inner) (piece_sound s n tag inner f)) (pieces_sound s n more f)

-- statements

abbrev IsSoundSetting : Bounds → Place × PlainValue → Type 0
IsSoundSetting b p = IsSoundPlace b p.0 × IsSoundValue b false p.1

place_sound : (b : Bounds) (v : PlainValue) → IsSoundValue b false v →
    Opt (IsSoundPlace b) (place_of v)
place_sound b (clip c) h = h
place_sound b (lit w) h = tt
place_sound b (lit_tag w) h = tt
place_sound b (var k) h = h
place_sound b (get_case_from pos v) h = tt
place_sound b (case_of c) h = tt
place_sound b (concat vs) h = tt
place_sound b (blank_value pos) h = tt

placed_sound : (b : Bounds) (o : Option Place) (v : PlainValue) → Opt (IsSoundPlace b) o →
    IsSoundValue b false v → Opt (IsSoundSetting b) (placed o v)
placed_sound b None v h k = tt
placed_sound b (Some p) v h k = (h, k)

setting_sound : (b : Bounds) (vs : List PlainValue) → AreSound b vs →
    Opt (IsSoundSetting b) (setting vs)
setting_sound b [] h = tt
setting_sound b (p ∷ []) h = tt
setting_sound b (p ∷ v ∷ []) h = placed_sound b (place_of p) v (place_sound b p h.0) h.1.0
setting_sound b (p ∷ v ∷ w ∷ more) h = tt

params_sound : (s : Scope) (n : Counts) (own : Children) →
    Each (IsPosition (bounds s n)) (params s own)
params_sound s n nothing = tt
params_sound s n (element tag inner more) =
    let P = IsPosition (bounds s n) in
    let o = position_of s tag.attributes in
    each_if P (is_named (codes "with-param") tag) (option_to_list o ++ params s more)
    (params s more)
    (each_both P (option_to_list o) (params s more)
    (each_opt P o (number_within s.reach.least s.reach.most
    (value_of (codes "pos") tag.attributes))) (params_sound s n more))
    (params_sound s n more)

nat_same : (m k : ℕ) → (m == k) ≡ true → m ≡ k
nat_same m k e = grind (arith, nat_tests)

given_same : (o : Option ℕ) (count : ℕ) → is_given o count ≡ true → o ≡ Some count
given_same None count e = absurd (let no : ⊥ = let q : ◌≡◌ {A = Bool} false true = e in cc in no)
given_same (Some k) count e = ap Some (nat_same k count e)

call_sound : (s : Scope) (n : Counts) (o : Option ℕ) (positions : List ℕ) →
    Each (IsPosition (bounds s n)) positions →
    Opt (IsSoundStatement (bounds s n)) (call_of s o positions)
call_sound s n None positions h = tt
call_sound s n (Some k) positions h =
    by (is_given (slice_get s.names.npars k) (length positions)) refl
  where
    by : (t : Bool) → is_given (slice_get s.names.npars k) (length positions) ≡ t →
        Opt (IsSoundStatement (bounds s n)) (cond t (Some (call_macro k positions)) None)
    by true e = (given_same (slice_get s.names.npars k) (length positions) e, h)
    by false e = tt

appended_sound : (b : Bounds) (o : Option ℕ) (vs : List PlainValue) → Opt (λ k. k < b.variables) o →
    AreSound b vs → Opt (IsSoundStatement b) (appended o vs)
appended_sound b None vs h k = tt
appended_sound b (Some m) [] h k = tt
appended_sound b (Some m) (v ∷ vs) h k = (h, tt, k)

simple_statement_sound : (s : Scope) (n : Counts) (tag : Tag) (own : Children) → Fits s n →
    Opt (IsSoundStatement (bounds s n)) (simple_statement s tag own)
simple_statement_sound s n tag own f =
    let b = bounds s n in
    let P = IsSoundStatement b in
    let vs = values s false own in
    let sound = values_sound s n false own f in
    let x1 : Option PlainStatement = option_map (λ p. assign p.0 p.1) (setting vs) in
    let x2 = appended (number_of s.names.vars (name_of tag.attributes)) vs in
    let x3 : Option PlainStatement = Some (out (pieces s own)) in
    let x4 : Option PlainStatement = option_map (λ p. modify_case p.0 p.1) (setting vs) in
    let x5 = call_of s (number_of s.names.macros (name_of tag.attributes)) (params s own) in
    let y5 = cond {A = Option PlainStatement} (is_named (codes "call-macro") tag) x5 None in
    let y4 = cond (is_named (codes "modify-case") tag) x4 y5 in
    let y3 = cond (is_named (codes "out") tag) x3 y4 in
    let y2 = cond (is_named (codes "append") tag) x2 y3 in
    opt_if P (is_named (codes "let") tag) x1 y2
    (opt_map (IsSoundSetting b) P (λ p. assign p.0 p.1) (setting vs) (λ p h. h)
    (setting_sound b vs sound))
    (opt_if P (is_named (codes "append") tag) x2 y3
    (appended_sound b (number_of s.names.vars (name_of tag.attributes)) vs
    (number_below s.names.vars (name_of tag.attributes) n.variables f.variables) sound)
    (opt_if P (is_named (codes "out") tag) x3 y4 (pieces_sound s n own f)
    (opt_if P (is_named (codes "modify-case") tag) x4 y5
    (opt_map (IsSoundSetting b) P (λ p. modify_case p.0 p.1) (setting vs) (λ p h. h)
    (setting_sound b vs sound))
    (opt_if P (is_named (codes "call-macro") tag) x5 None
    (call_sound s n (number_of s.names.macros (name_of tag.attributes)) (params s own)
    (params_sound s n own)) tt))))

abbrev IsSoundWhen : Bounds → PlainWhen → Type 0
IsSoundWhen b w = IsSoundCondition b w.0 × Each (IsSoundStatement b) w.1

statements_row : (b : Bounds) (ss : List PlainStatement) → Each (IsSoundStatement b) ss →
    AreSoundStatements b (statements_of ss)
statements_row b [] h = tt
statements_row b (s ∷ ss) h = (h.0, statements_row b ss h.1)

whens_row : (b : Bounds) (ws : List PlainWhen) → Each (IsSoundWhen b) ws →
    AreSoundWhens b (whens_of ws)
whens_row b [] h = tt
whens_row b (w ∷ ws) h = (h.0.0, statements_row b w.1 h.0.1, whens_row b ws h.1)

choice_sound : (b : Bounds) (ws : List PlainWhen) (last : List PlainStatement) →
    Each (IsSoundWhen b) ws → Each (IsSoundStatement b) last →
    Opt (IsSoundStatement b) (choice ws last)
choice_sound b [] last h k = tt
choice_sound b (w ∷ ws) last h k = (tt, whens_row b (w ∷ ws) h, statements_row b last k)

statement_sound : (s : Scope) (n : Counts) (tag : Tag) (own : Children) (ws : List PlainWhen)
    (last : List PlainStatement) → Fits s n → Each (IsSoundWhen (bounds s n)) ws →
    Each (IsSoundStatement (bounds s n)) last →
    Opt (IsSoundStatement (bounds s n)) (statement s tag own ws last)
statement_sound s n tag own ws last f h k =
    opt_if (IsSoundStatement (bounds s n)) (is_named (codes "choose") tag) (choice ws last)
    (simple_statement s tag own) (choice_sound (bounds s n) ws last h k)
    (simple_statement_sound s n tag own f)

tested_sound : (b : Bounds) (cs : List PlainCondition) (done : List PlainStatement) →
    Each (IsSoundCondition b) cs → Each (IsSoundStatement b) done →
    Opt (IsSoundWhen b) (tested cs done)
tested_sound b [] done h k = tt
tested_sound b (c ∷ []) done h k = (h.0, k)
tested_sound b (c ∷ d ∷ more) done h k = tt

when_sound : (s : Scope) (n : Counts) (tag : Tag) (own : Children) (done : List PlainStatement) →
    Fits s n → Each (IsSoundStatement (bounds s n)) done →
    Opt (IsSoundWhen (bounds s n)) (when_of s tag own done)
when_sound s n tag own done f k =
    opt_if (IsSoundWhen (bounds s n)) (is_named (codes "when") tag)
    (tested (conditions s (within (codes "test") own)) done) None
    (tested_sound (bounds s n) (conditions s (within (codes "test") own)) done
    (conditions_sound s n (within (codes "test") own) f) k) tt

mutual
  pub statements_sound : (s : Scope) (n : Counts) (own : Children) → Fits s n →
      Each (IsSoundStatement (bounds s n)) (statements s own)
  statements_sound s n nothing f = tt
  statements_sound s n (element tag inner more) f =
      let P = IsSoundStatement (bounds s n) in
      let o = statement s tag inner (whens s inner) (otherwise s inner) in
      each_both P (option_to_list o) (statements s more)
      (each_opt P o (statement_sound s n tag inner (whens s inner) (otherwise s inner) f
      (whens_sound s n inner f) (otherwise_sound s n inner f))) (statements_sound s n more f)

  whens_sound : (s : Scope) (n : Counts) (own : Children) → Fits s n →
      Each (IsSoundWhen (bounds s n)) (whens s own)
  whens_sound s n nothing f = tt
  whens_sound s n (element tag inner more) f =
      let P = IsSoundWhen (bounds s n) in
      let o = when_of s tag inner (statements s inner) in
      each_both P (option_to_list o) (whens s more)
      (each_opt P o (when_sound s n tag inner (statements s inner) f
      (statements_sound s n inner f))) (whens_sound s n more f)

  otherwise_sound : (s : Scope) (n : Counts) (own : Children) → Fits s n →
      Each (IsSoundStatement (bounds s n)) (otherwise s own)
  otherwise_sound s n nothing f = tt
  otherwise_sound s n (element tag inner more) f =
      each_if (IsSoundStatement (bounds s n)) (is_named (codes "otherwise") tag)
      (statements s inner) (otherwise s more) (statements_sound s n inner f)
      (otherwise_sound s n more f)
