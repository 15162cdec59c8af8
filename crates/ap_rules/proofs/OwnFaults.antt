-- The first fault of a start tag, and of a tree, is the least of those that the sentences say.
use Rattle.std.proofs.Common.{◌≡◌, ◌⊎◌, inl, inr, ℕ, ◌+◌, ◌<◌, ◌≤◌, Bool, true, false, cond, List, [], ◌∷◌, refl, sym, ap, ◌∙◌, arith, subst, Option, Some, None}
use Rattle.std.specs.Option.{option_map}
use Rattle.ap_markup.specs.Least.{IsNoLater, IsLeast}
use Rattle.ap_markup.specs.Tree.{Tag, Parts, Done, Run, Element}
use Rattle.ap_markup.proofs.LeastOf.{or_next, least_then, least_alike}
use Rattle.ap_markup.proofs.Ordered.{InOrder, order_within}
use Rattle.ap_rules.specs.Children.{Children, nothing, element, children}
use Rattle.ap_rules.specs.Defining.{none_defined, defined_after, defined_in}
use Rattle.ap_rules.specs.Faults.{RuleMark, Around, is_duplicate, is_undefined, is_misnumbered, has_bad_tags, has_bad_length, is_misused, is_unsupported, tag_kind, marked, or_else, around_root, around_within, first_in, first_below, first_mark}
use Rattle.ap_rules.specs.Mistakes.{IsMistake, duplicate, undefined, misnumbered, bad_tags, bad_length, misused, unsupported, Fault, order_of, IsAtTag, HasFault, HasRootFault}
use Rattle.ap_rules.specs.Refusals.{kind_number}
use Rattle.ap_rules.specs.declared.defined.Defined.{Defined}
use Rattle.ap_rules.specs.declared.refusal.RuleKind.{RuleKind}
use Rattle.ap_rules.specs.declared.refusal.RuleKind.TheVariants.{DuplicateName, UndefinedName, BadPosition, BadTags, PatternLength, Misused, Unsupported}
use Rattle.ap_rules.specs.declared.rules.Form.{Form}

-- tests at one place, in the order of the numbers of their kinds
abbrev pub Test : Type 0
Test = Bool × RuleKind

abbrev Holds : ℕ → List Test → Fault → Type 0
Holds place [] f = ⊥
Holds place (t ∷ ts) f = ((t.0 ≡ true) × (f ≡ (place, t.1))) ⊎ Holds place ts f

abbrev first_of : ℕ → List Test → Option Fault
first_of place [] = None
first_of place (t ∷ ts) = cond {A = Option Fault} t.0 (Some (place, t.1)) (first_of place ts)

abbrev Rises : ℕ → List Test → Type 0
Rises n [] = Unit {0}
Rises n (t ∷ ts) = (n ≤ kind_number t.1) × Rises (kind_number t.1) ts

held : (place : ℕ) (ts : List Test) (n : ℕ) (f : Fault) → Rises n ts → Holds place ts f →
    (f.0 ≡ place) × (n ≤ kind_number f.1)
held place [] n f rises h = absurd h
held place (t ∷ ts) n f rises (inl x) =
    (ap (λ (z : Fault). z.0) x.1, subst (λ (z : Fault). n ≤ kind_number z.1) (sym x.1) rises.0)
held place (t ∷ ts) n f rises (inr y) = let r = held place ts (kind_number t.1) f rises.1 y in
    (r.0, omega (arith, rises.0, r.1))

one_test : (b : Bool) (f : Fault) →
    IsLeast order_of (λ g. (b ≡ true) × (g ≡ f)) (cond {A = Option Fault} b (Some f) None)
one_test true f = (
  (refl, refl),
  λ g h. inr (
    ap (λ (z : Fault). z.0) (sym h.1),
    subst (λ (z : Fault). kind_number f.1 ≤ kind_number z.1) (sym h.1) (omega arith),
  ),
)
one_test false f = λ g h. let q : ◌≡◌ {A = Bool} false true = h.0 in cc

tests_least : (place : ℕ) (ts : List Test) (n : ℕ) → Rises n ts →
    IsLeast order_of (Holds place ts) (first_of place ts)
tests_least place [] n rises = λ f h. h
tests_least place (t ∷ ts) n rises =
    subst (IsLeast order_of (Holds place (t ∷ ts))) (next t.0 (place, t.1) (first_of place ts))
    (least_then order_of (λ g. (t.0 ≡ true) × (g ≡ (place, t.1))) (Holds place ts)
    (cond {A = Option Fault} t.0 (Some (place, t.1)) None) (first_of place ts)
    (λ f g x y. let r = held place ts (kind_number t.1) g rises.1 y in
    inr (
      ap (λ (z : Fault). z.0) x.1 ∙ sym r.0,
      subst (λ (z : Fault). kind_number z.1 ≤ kind_number g.1) (sym x.1) r.1,
    ))
    (one_test t.0 (place, t.1)) (tests_least place ts (kind_number t.1) rises.1))
  where
    next : (b : Bool) (f : Fault) (o : Option Fault) →
        or_next (cond {A = Option Fault} b (Some f) None) o ≡ cond {A = Option Fault} b (Some f) o
    next true f o = refl
    next false f o = refl

-- the tests of a start tag
abbrev tests : Around → Defined → Tag → Children → List Test
tests a above tag own =
    (is_duplicate above tag, DuplicateName)
    ∷ (is_undefined a.all above tag, UndefinedName)
    ∷ (is_misnumbered a.reach above tag own, BadPosition)
    ∷ (has_bad_tags tag, BadTags)
    ∷ (has_bad_length a.form tag own, PatternLength)
    ∷ (is_misused a tag, Misused)
    ∷ (is_unsupported tag, Unsupported)
    ∷ []

abbrev pub placed : RuleMark → Fault
placed m = (m.place, m.kind)

seven : (place : ℕ) (a b c d e f g : Bool) →
    first_of place ((a, DuplicateName) ∷ (b, UndefinedName) ∷ (c, BadPosition) ∷ (d, BadTags)
    ∷ (e, PatternLength) ∷ (f, Misused) ∷ (g, Unsupported) ∷ [])
    ≡ option_map {U = Fault} (λ (k : RuleKind). (place, k))
    (cond a (Some DuplicateName)
    (cond b (Some UndefinedName)
    (cond c (Some BadPosition)
    (cond d (Some BadTags) (cond e (Some PatternLength)
    (cond f (Some Misused) (cond g (Some Unsupported) None)))))))
seven place true b c d e f g = refl
seven place false true c d e f g = refl
seven place false false true d e f g = refl
seven place false false false true e f g = refl
seven place false false false false true f g = refl
seven place false false false false false true g = refl
seven place false false false false false false true = refl
seven place false false false false false false false = refl

mark_placed : (tag : Tag) (o : Option RuleKind) →
    option_map {U = Fault} (λ (k : RuleKind). (tag.place, k)) o ≡ option_map placed (marked tag o)
mark_placed tag None = refl
mark_placed tag (Some k) = refl

-- what the tests of a start tag say
tag_found : (a : Around) (above : Defined) (tag : Tag) (own : Children) (f : Fault) →
    Holds tag.place (tests a above tag own) f → IsAtTag a above tag own f
tag_found a above tag own f (inl x) = (DuplicateName, duplicate x.0 refl, x.1)
tag_found a above tag own f (inr (inl x)) = (UndefinedName, undefined x.0 refl, x.1)
tag_found a above tag own f (inr (inr (inl x))) = (BadPosition, misnumbered x.0 refl, x.1)
tag_found a above tag own f (inr (inr (inr (inl x)))) = (BadTags, bad_tags x.0 refl, x.1)
tag_found a above tag own f (inr (inr (inr (inr (inl x))))) =
    (PatternLength, bad_length x.0 refl, x.1)
tag_found a above tag own f (inr (inr (inr (inr (inr (inl x)))))) = (Misused, misused x.0 refl, x.1)
tag_found a above tag own f (inr (inr (inr (inr (inr (inr (inl x))))))) =
    (Unsupported, unsupported x.0 refl, x.1)
tag_found a above tag own f (inr (inr (inr (inr (inr (inr (inr x))))))) = absurd x

of_kind : (tag : Tag) (kind k : RuleKind) (f : Fault) → f ≡ (tag.place, kind) → kind ≡ k →
    f ≡ (tag.place, k)
of_kind tag kind k f e s = e ∙ ap (λ (z : RuleKind). (tag.place, z)) s

mistake_read : (a : Around) (above : Defined) (tag : Tag) (own : Children) (f : Fault)
    (kind : RuleKind) → f ≡ (tag.place, kind) → IsMistake a above tag own kind →
    Holds tag.place (tests a above tag own) f
mistake_read a above tag own f kind e (duplicate is k) =
    inl (is, of_kind tag kind DuplicateName f e k)
mistake_read a above tag own f kind e (undefined is k) =
    inr (inl (is, of_kind tag kind UndefinedName f e k))
mistake_read a above tag own f kind e (misnumbered is k) =
    inr (inr (inl (is, of_kind tag kind BadPosition f e k)))
mistake_read a above tag own f kind e (bad_tags is k) =
    inr (inr (inr (inl (is, of_kind tag kind BadTags f e k))))
mistake_read a above tag own f kind e (bad_length is k) =
    inr (inr (inr (inr (inl (is, of_kind tag kind PatternLength f e k)))))
mistake_read a above tag own f kind e (misused is k) =
    inr (inr (inr (inr (inr (inl (is, of_kind tag kind Misused f e k))))))
mistake_read a above tag own f kind e (unsupported is k) =
    inr (inr (inr (inr (inr (inr (inl (is, of_kind tag kind Unsupported f e k)))))))

pub tag_least : (a : Around) (above : Defined) (tag : Tag) (own : Children) →
    IsLeast order_of (IsAtTag a above tag own)
    (option_map placed (marked tag (tag_kind a above tag own)))
tag_least a above tag own =
    let ts = tests a above tag own in
    let rises : Rises 7 ts = (
      omega arith,
      (
        omega arith,
        (omega arith, (omega arith, (omega arith, (omega arith, (omega arith, tt))))),
      ),
    ) in
    subst (IsLeast order_of (IsAtTag a above tag own))
    (seven tag.place (is_duplicate above tag) (is_undefined a.all above tag)
    (is_misnumbered a.reach above tag own) (has_bad_tags tag) (has_bad_length a.form tag own)
    (is_misused a tag) (is_unsupported tag)
    ∙ mark_placed tag (tag_kind a above tag own))
    (least_alike order_of (Holds tag.place ts) (IsAtTag a above tag own) (first_of tag.place ts)
    (tag_found a above tag own)
    (λ f h. mistake_read a above tag own f h.0 h.2 h.1)
    (tests_least tag.place ts 7 rises))

-- where the faults of parts stand
pub fault_within : (text : List ℕ) (parts : Parts) (a : Around) (above : Defined) (lo hi : ℕ)
    (f : Fault) → InOrder text lo parts hi → HasFault a above (children parts) f →
    (lo ≤ f.0) × (f.0 < hi)
unfolding children
fault_within text Done a above lo hi f o h = absurd h
fault_within text (Run run at more) a above lo hi f o h = let r =
    fault_within text more a above at hi f o.1 h in (omega (arith, o.0, r.0), r.1)
fault_within text (Element tag kids more) a above lo hi f o (inl x) =
    let here : f.0 ≡ tag.place = ap (λ (z : Fault). z.0) x.2 in
    let inner = order_within text kids (tag.place + 1) o.0 o.3 in
    let later = order_within text more o.0 hi o.4 in
    (omega (arith, here, o.1), omega (arith, here, inner, later))
fault_within text (Element tag kids more) a above lo hi f o (inr (inl x)) =
    let r = fault_within text kids (around_within a tag (children kids)) above (tag.place + 1)
    o.0 f o.3 x in
    let later = order_within text more o.0 hi o.4 in
    (omega (arith, r.0, o.1), omega (arith, r.1, later))
fault_within text (Element tag kids more) a above lo hi f o (inr (inr x)) =
    let r = fault_within text more a (defined_after tag (defined_in above (children kids))) o.0
    hi f o.4 x in
    let inner = order_within text kids (tag.place + 1) o.0 o.3 in
    (omega (arith, r.0, inner, o.1), r.1)

pub or_placed : (a b : Option RuleMark) → option_map placed (or_else a b)
    ≡ or_next (option_map placed a) (option_map placed b)
or_placed None b = refl
or_placed (Some m) b = refl

pub own_least : (text : List ℕ) (parts : Parts) (a : Around) (above : Defined) (lo hi : ℕ) →
    InOrder text lo parts hi →
    IsLeast order_of (HasFault a above (children parts))
    (option_map placed (first_in a above (children parts)))
unfolding children
own_least text Done a above lo hi o = λ f h. h
own_least text (Run run at more) a above lo hi o = own_least text more a above at hi o.1
own_least text (Element tag kids more) a above lo hi o =
    let inside = children kids in
    let around = around_within a tag inside in
    let next = defined_after tag (defined_in above inside) in
    let own = marked tag (tag_kind a above tag inside) in
    let inner = first_in around above inside in
    let later = first_in a next (children more) in
    let A = IsAtTag a above tag inside in
    let B = HasFault around above inside in
    let C = HasFault a next (children more) in
    let two : IsLeast order_of (λ f. B f ⊎ C f)
    (or_next (option_map placed inner) (option_map placed later)) =
    least_then order_of B C (option_map placed inner) (option_map placed later)
    (λ f g x y. let p = fault_within text kids around above (tag.place + 1) o.0 f o.3 x in let q =
    fault_within text more a next o.0 hi g o.4 y in inl (omega (arith, p.1, q.0)))
    (own_least text kids around above (tag.place + 1) o.0 o.3)
    (own_least text more a next o.0 hi o.4) in
    subst (IsLeast order_of (HasFault a above (element tag inside (children more))))
    (ap (or_next (option_map placed own)) (sym (or_placed inner later))
    ∙ sym (or_placed own (or_else inner later)))
    (least_then order_of A (λ f. B f ⊎ C f) (option_map placed own)
    (or_next (option_map placed inner) (option_map placed later))
    (λ f g x y. inl (behind f g x y))
    (tag_least a above tag inside) two)
  where
    behind : (f g : Fault) → IsAtTag a above tag (children kids) f →
        HasFault (around_within a tag (children kids)) above (children kids) g
        ⊎ HasFault a (defined_after tag (defined_in above (children kids))) (children more)
        g → f.0 < g.0
    behind f g x (inl y) =
        let here : f.0 ≡ tag.place = ap (λ (z : Fault). z.0) x.2 in
        let r = fault_within text kids (around_within a tag (children kids)) above (tag.place + 1)
        o.0 g o.3 y in
        omega (arith, here, r.0)
    behind f g x (inr y) =
        let here : f.0 ≡ tag.place = ap (λ (z : Fault). z.0) x.2 in
        let r = fault_within text more a (defined_after tag (defined_in above (children kids))) o.0
        hi g o.4 y in
        let inner = order_within text kids (tag.place + 1) o.0 o.3 in
        omega (arith, here, r.0, inner)

abbrev pub IsRoot : Parts → Type 0
IsRoot Done = ⊥
IsRoot (Run chars at more) = ⊥
IsRoot (Element tag kids more) = more ≡ Done

pub root_least : (form : Form) (text : List ℕ) (root : Parts) (hi : ℕ) → InOrder text 0 root hi →
    IsRoot root → IsLeast order_of (HasRootFault form (children root))
    (option_map placed (first_mark form (children root)))
unfolding children
root_least form text Done hi o r = absurd r
root_least form text (Run chars at more) hi o r = absurd r
root_least form text (Element tag kids more) hi o r =
    let inside = children kids in
    let outside = around_root form tag inside in
    let around = around_within outside tag inside in
    let own = marked tag (tag_kind outside none_defined tag inside) in
    let inner = first_in around none_defined inside in
    let A = IsAtTag outside none_defined tag inside in
    let B = HasFault around none_defined inside in
    subst (IsLeast order_of (λ f. A f ⊎ B f)) (sym (or_placed own inner))
    (least_then order_of A B (option_map placed own) (option_map placed inner)
    (λ f g x y.
    let here : f.0 ≡ tag.place = ap (λ (z : Fault). z.0) x.2 in
    let w = fault_within text kids around none_defined (tag.place + 1) o.0 g o.3 y in
    inl (omega (arith, here, w.0)))
    (tag_least outside none_defined tag inside)
    (own_least text kids around none_defined (tag.place + 1) o.0 o.3))
