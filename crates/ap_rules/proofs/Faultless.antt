-- What stands in a tree without fault: what is said of each of its elements, from no fault of the
-- notation and none of the names, positions, tags, patterns and uses.
use Rattle.std.proofs.Common.{◌≡◌, ℕ, ◌+◌, ◌-◌, Bool, true, false, not, ◌&&◌, ◌||◌, ◌==◌, cond, nat_lt, List, [], ◌∷◌, refl, sym, ap, ◌∙◌, subst, arith, Option, Some, None, codes}
use Rattle.std.specs.Prelude.{if◌then◌else◌, is_none}
use Rattle.std.specs.Str.{bytes_eq}
use Rattle.std.proofs.lemmas.Bool.Decides.{nat_tests}
use Rattle.ap_markup.specs.Deep.{pruned}
use Rattle.ap_markup.specs.Elements.{grammar}
use Rattle.ap_markup.specs.Faults.{Expected, Fault, order_of, next, needed, count_in, is_lacking, elements_only, expected, is_misplaced, expected_after, lacks, are_listed, have_all, mistake, element_fault, sooner, text_fault, first_in as first_within}
use Rattle.ap_markup.specs.Names.{is_among}
use Rattle.ap_markup.specs.Rules.{rule_sections, rule_tests, rule_values, transfer_rows, interchunk_rows, postchunk_rows}
use Rattle.ap_markup.specs.Sooner.{is_before, when}
use Rattle.ap_markup.specs.Said.{is_named}
use Rattle.ap_markup.specs.Table.{Grammar, Line, Content, line_in}
use Rattle.ap_markup.specs.Tree.{Tag, Parts, Done, Run, Element}
use Rattle.ap_markup.specs.declared.kind.MarkupKind.TheVariants.{UnknownElement, UnknownAttribute, MissingAttribute, Misplaced}
use Rattle.ap_rules.specs.Children.{Children, nothing, element, children}
use Rattle.ap_rules.specs.Defining.{defined_after, defined_in}
use Rattle.ap_rules.specs.Faults.{RuleMark, Around, is_duplicate, is_undefined, is_misnumbered, has_bad_tags, has_bad_length, is_misused, is_unsupported, tag_kind, marked, or_else, has_attribute, around_within, first_in}
use Rattle.ap_rules.specs.Spelling.{table_of}
use Rattle.ap_rules.specs.declared.defined.Defined.{Defined}
use Rattle.ap_rules.specs.declared.refusal.RuleKind.{RuleKind}
use Rattle.ap_rules.specs.declared.refusal.RuleKind.TheVariants.{DuplicateName, UndefinedName, BadPosition, BadTags, PatternLength, Misused, Unsupported}
use Rattle.ap_rules.specs.declared.rules.Form.{Form}
use Rattle.ap_rules.specs.declared.rules.Form.TheVariants.{Transfer, Interchunk, Postchunk}

-- the rows of the elements of a form
abbrev pub own_rows : Form → List Line
own_rows Transfer = transfer_rows
own_rows Interchunk = interchunk_rows
own_rows Postchunk = postchunk_rows

abbrev pub rows_of : Form → List (List Line)
rows_of form = rule_sections ∷ rule_tests ∷ rule_values ∷ own_rows form ∷ []

-- how many of the elements have one of these names
abbrev pub count_of : List (List ℕ) → Children → ℕ
count_of names nothing = 0
count_of names (element tag own more) =
    (if is_among tag.name names then 1 else 0) + count_of names more

-- of some group there are too few
abbrev pub lacks_some : List Content → List Content → Children → Bool
lacks_some all [] own = false
lacks_some all (g ∷ gs) own = nat_lt (count_of g.names own) (needed g.names all)
    || lacks_some all gs own

-- an element without a fault of its own
pub record Right (a : Around) (above : Defined) (tag : Tag) (own : Children) : Type 0 where
  pub fresh : is_duplicate above tag ≡ false
  pub defined : is_undefined a.all above tag ≡ false
  pub numbered : is_misnumbered a.reach above tag own ≡ false
  pub tagged : has_bad_tags tag ≡ false
  pub lengthy : has_bad_length a.form tag own ≡ false
  pub used : is_misused a tag ≡ false
  pub supported : is_unsupported tag ≡ false

-- what its row says of it
pub record Regular (a : Around) (above : Defined) (tag : Tag) (own : Children)
    (l : Line) : Type 0 where
  pub known : line_in tag.name (rows_of a.form) ≡ Some l
  pub needs : have_all l.needs tag.attributes ≡ true
  pub enough : lacks_some l.groups l.groups own ≡ false
  pub right : Right a above tag own

-- Elements side by side without fault, where so much is expected: each has its row, and may stand
-- where it stands; and so it is within it, and behind it.
abbrev pub Clean : Around → Defined → Expected → Children → Type 0
Clean a above e nothing = Unit {0}
Clean a above e (element tag own more) =
    ((l : Line) × Regular a above tag own l × Clean (around_within a tag own) above (l.groups, 0)
    own)
    × ((n : Expected) × (next tag.name e.0 e.1 ≡ Some n)
    × Clean a (defined_after tag (defined_in above own)) n more)

-- an element without fault, with what is within it
abbrev pub Stands : Around → Defined → Tag → Children → Type 0
Stands a above tag own =
    (l : Line) × Regular a above tag own l × Clean (around_within a tag own) above (l.groups, 0) own

-- tests

pub false_true : {A : Type 0} → ◌≡◌ {A = Bool} false true → A
false_true e = absurd (let no : ⊥ = cc in no)

pub true_false : {A : Type 0} → ◌≡◌ {A = Bool} true false → A
true_false e = false_true (sym e)

pub some_one : {A : Type 0} (a b : A) → Some a ≡ Some b → a ≡ b
some_one a b e = cc

pub none_some : {A B : Type 0} (a : A) → ◌≡◌ {A = Option A} None (Some a) → B
none_some a e = absurd (let no : ⊥ = cc in no)

pub neither : (a b : Bool) → (a || b) ≡ false → (a ≡ false) × (b ≡ false)
neither false b e = (refl, e)
neither true b e = true_false e

pub both : (a b : Bool) → (a && b) ≡ true → (a ≡ true) × (b ≡ true)
both true b e = (refl, e)
both false b e = false_true e

-- no fault

sooner_none : (f g : Option Fault) → sooner f g ≡ None → (f ≡ None) × (g ≡ None)
sooner_none None g e = (refl, e)
sooner_none (Some f) None e = none_some f (sym e)
sooner_none (Some f) (Some g) e = by (is_before order_of g f) e
  where
    by : (t : Bool) → cond {A = Option Fault} t (Some g) (Some f) ≡ None →
        (Some f ≡ None) × (Some g ≡ None)
    by true h = none_some g (sym h)
    by false h = none_some f (sym h)

when_none : (b : Bool) (f : Fault) → when b f ≡ None → b ≡ false
when_none true f e = none_some f (sym e)
when_none false f e = refl

pub or_none : (a b : Option RuleMark) → or_else a b ≡ None → (a ≡ None) × (b ≡ None)
or_none None b e = (refl, e)
or_none (Some m) b e = none_some m (sym e)

marked_none : (tag : Tag) (o : Option RuleKind) → marked tag o ≡ None → o ≡ None
marked_none tag None e = refl
marked_none tag (Some kind) e = none_some _ (sym e)

no_kind : (b : Bool) (k : RuleKind) (o : Option RuleKind) → cond {A = Option RuleKind} b (Some k) o
    ≡ None → (b ≡ false) × (o ≡ None)
no_kind true k o e = none_some k (sym e)
no_kind false k o e = (refl, e)

all_right : (a : Around) (above : Defined) (tag : Tag) (own : Children) →
    tag_kind a above tag own ≡ None → Right a above tag own
all_right a above tag own e =
    let x = no_kind (is_duplicate above tag) DuplicateName _ e in
    let y = no_kind (is_undefined a.all above tag) UndefinedName _ x.1 in
    let z = no_kind (is_misnumbered a.reach above tag own) BadPosition _ y.1 in
    let u = no_kind (has_bad_tags tag) BadTags _ z.1 in
    let v = no_kind (has_bad_length a.form tag own) PatternLength _ u.1 in
    let w = no_kind (is_misused a tag) Misused _ v.1 in
    let s = no_kind (is_unsupported tag) Unsupported _ w.1 in
    record {
      fresh = x.0;
      defined = y.0;
      numbered = z.0;
      tagged = u.0;
      lengthy = v.0;
      used = w.0;
      supported = s.0;
    }

-- counting

count_same : (names : List (List ℕ)) (parts : Parts) → count_in names parts
    ≡ count_of names (children parts)
unfolding children
count_same names Done = refl
count_same names (Run text at more) = count_same names more
count_same names (Element tag kids more) =
    ap (λ (k : ℕ). (cond (is_among tag.name names) 1 0) + k) (count_same names more)

lacking_same : (all gs : List Content) (parts : Parts) → is_lacking all gs parts
    ≡ lacks_some all gs (children parts)
lacking_same all [] parts = refl
lacking_same all (g ∷ gs) parts =
    ap (λ (k : ℕ). nat_lt k (needed g.names all) || is_lacking all gs parts)
    (count_same g.names parts)
    ∙ ap (λ (b : Bool). nat_lt (count_of g.names (children parts)) (needed g.names all) || b)
    (lacking_same all gs parts)

-- from no fault

unsupported_one : (a : Around) (above : Defined) (tag : Tag) (own : Children) →
    is_among tag.name (codes "reject-current-rule" ∷ []) ≡ true → Right a above tag own → ⊥
unsupported_one a above tag own h r =
    by (bytes_eq (codes "reject-current-rule") tag.name)
    (is_named (codes "rule") tag && has_attribute (codes "weight") tag.attributes) h r.supported
  where
    by : (b c : Bool) → (b || false) ≡ true → (b || c) ≡ false → ⊥
    by true c h k = true_false k
    by false c h k = false_true h

-- the grammar of the form
abbrev pub IsOf : Form → Grammar → Type 0
IsOf form t = (t.rows ≡ rows_of form) × (t.unsupported ≡ codes "reject-current-rule" ∷ [])

pub grammar_is : (form : Form) → IsOf form (grammar (table_of form))
grammar_is Transfer = (refl, refl)
grammar_is Interchunk = (refl, refl)
grammar_is Postchunk = (refl, refl)

pub not_false : (b : Bool) → not b ≡ false → b ≡ true
not_false true e = refl
not_false false e = true_false e

pub clean_parts : (t : Grammar) (room : ℕ) (only : Bool) (e : Expected) (a : Around) (above :
    Defined)
    (parts : Parts) → IsOf a.form t → first_within t room only (Some e) parts ≡ None →
    first_in a above (children parts) ≡ None → Clean a above e (children parts)
unfolding children first_within
clean_parts t room only e a above Done is f g = tt
clean_parts t room only e a above (Run text at more) is f g =
    clean_parts t room only e a above more is
    (sooner_none (text_fault only text at) (first_within t room only (Some e) more) f).1 g
clean_parts t room only e a above (Element tag kids more) is f g =
    let inside = children kids in
    let around = around_within a tag inside in
    let later = defined_after tag (defined_in above inside) in
    let row = line_in tag.name t.rows in
    let first = sooner_none (sooner (element_fault t row room (Some e) tag kids)
    (first_within t (room - 1) (elements_only row) (expected row) kids))
    (first_within t room only (expected_after row tag.name (Some e)) more) f in
    let own = sooner_none (element_fault t row room (Some e) tag kids)
    (first_within t (room - 1) (elements_only row) (expected row) kids) first.0 in
    let mine = or_none (marked tag (tag_kind a above tag inside))
    (or_else (first_in around above inside) (first_in a later (children more))) g in
    let rest = or_none (first_in around above inside) (first_in a later (children more)) mine.1 in
    let right = all_right a above tag inside
    (marked_none tag (tag_kind a above tag inside) mine.0) in
    by row refl own.0 own.1 first.1 right
    (λ x o h. clean_parts t (room - 1) o x around above kids is h rest.0)
    (λ x h. clean_parts t room only x a later more is h rest.1)
  where
    placed : (o : Option Expected) → is_none o ≡ false → (n : Expected) × (o ≡ Some n)
    placed None h = true_false h
    placed (Some n) h = (n, refl)

    by : (row : Option Line) → line_in tag.name t.rows ≡ row →
        element_fault t row room (Some e) tag kids ≡ None →
        first_within t (room - 1) (elements_only row) (expected row) kids ≡ None →
        first_within t room only (expected_after row tag.name (Some e)) more ≡ None →
        Right a above tag (children kids) →
        ((x : Expected) (o : Bool) → first_within t (room - 1) o (Some x) kids ≡ None →
        Clean (around_within a tag (children kids)) above x (children kids)) →
        ((x : Expected) → first_within t room only (Some x) more ≡ None →
        Clean a (defined_after tag (defined_in above (children kids))) x (children more)) →
        Clean a above e (element tag (children kids) (children more))
    by None row_is own inner rest right within behind =
        let x = sooner_none (mistake t None tag) _ own in
        absurd (unsupported_one a above tag (children kids)
        (subst (λ (names : List (List ℕ)). is_among tag.name names ≡ true) is.1
        (not_false (is_among tag.name t.unsupported)
        (when_none (not (is_among tag.name t.unsupported)) (tag.place, UnknownElement) x.0))) right)
    by (Some l) row_is own inner rest right within behind =
        let x = sooner_none (mistake t (Some l) tag)
        (when (is_misplaced (Some l) tag.name (Some e) || lacks (Some l) kids || room == 0)
        (tag.place, Misplaced)) own in
        let y = sooner_none
        (when (not (are_listed t.everywhere l.keys tag.attributes)) (tag.place, UnknownAttribute))
        (when (not (have_all l.needs tag.attributes)) (tag.place, MissingAttribute)) x.0 in
        let kept = neither (is_misplaced (Some l) tag.name (Some e) || lacks (Some l) kids)
        (room == 0) (when_none (is_misplaced (Some l) tag.name (Some e) || lacks (Some l) kids ||
        room == 0)
        (tag.place, Misplaced) x.1) in
        let here = neither (is_misplaced (Some l) tag.name (Some e)) (lacks (Some l) kids) kept.0 in
        let n = placed (next tag.name e.0 e.1) here.0 in (
          (
            l,
            record {
              known = ap (line_in tag.name) (sym is.0) ∙ row_is;
              needs = not_false (have_all l.needs tag.attributes)
                  (when_none (not (have_all l.needs tag.attributes)) (tag.place, MissingAttribute)
                  y.1);
              enough = sym (lacking_same l.groups l.groups kids) ∙ here.1;
              right = right;
            },
            within (l.groups, 0) (elements_only (Some l)) inner,
          ),
          (
            n.0,
            n.1,
            behind n.0 (subst (λ (z : Option Expected). first_within t room only z more ≡ None) n.1
                rest),
          ),
        )

-- no element is too deep
pub not_deep : (t : Grammar) (n room : ℕ) (only : Bool) (e : Option Expected) (parts : Parts) →
    n ≡ room + 1 → first_within t room only e (pruned n parts) ≡ None →
    pruned n parts ≡ pruned room parts
unfolding pruned first_within
not_deep t n room only e Done is f = refl
not_deep t n room only e (Run text at more) is f =
    ap (Run text at) (not_deep t n room only e more is
    (sooner_none (text_fault only text at) (first_within t room only e (pruned n more)) f).1)
not_deep t n room only e (Element tag kids more) is f =
    let some : (n == 0) ≡ false = grind (arith, nat_tests) in
    let row = line_in tag.name t.rows in
    let inside = pruned (n - 1) kids in
    let first = sooner_none (sooner (element_fault t row room e tag inside)
    (first_within t (room - 1) (elements_only row) (expected row) inside))
    (first_within t room only (expected_after row tag.name e) (pruned n more))
    (subst (λ (b : Bool). first_within t room only e
    (cond b (pruned n more) (Element tag inside (pruned n more))) ≡ None) some f) in
    let own = sooner_none (element_fault t row room e tag inside)
    (first_within t (room - 1) (elements_only row) (expected row) inside) first.0 in
    let x = sooner_none (mistake t row tag)
    (when (is_misplaced row tag.name e || lacks row inside || room == 0) (tag.place, Misplaced))
    own.0 in
    let kept = (neither (is_misplaced row tag.name e || lacks row inside) (room == 0)
    (when_none (is_misplaced row tag.name e || lacks row inside || room == 0) (tag.place, Misplaced)
    x.1)).1 in
    let one : n - 1 ≡ room - 1 + 1 = grind (arith, nat_tests) in
    ap (λ (b : Bool). cond b (pruned n more) (Element tag inside (pruned n more))) some
    ∙ ap (λ (k : Parts). Element tag k (pruned n more))
    (not_deep t (n - 1) (room - 1) (elements_only row) (expected row) kids one own.1)
    ∙ ap (Element tag (pruned (room - 1) kids))
    (not_deep t n room only (expected_after row tag.name e) more is first.1)
    ∙ ap (λ (b : Bool). cond b (pruned room more)
    (Element tag (pruned (room - 1) kids) (pruned room more))) (sym kept)
