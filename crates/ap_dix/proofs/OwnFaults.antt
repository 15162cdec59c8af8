-- The first fault of a start tag, and of a tree, is the least of those that the sentences say.
use Rattle.std.proofs.Common.{◌≡◌, ◌⊎◌, inl, inr, ℕ, ◌+◌, ◌<◌, ◌≤◌, Bool, true, false, not, cond, ◌&&◌, ◌||◌, List, [], ◌∷◌, refl, sym, ap, ◌∙◌, arith, subst, Option, Some, None, is_some, codes}
use Rattle.std.specs.Option.{option_map}
use Rattle.std.specs.Str.{bytes_eq}
use Rattle.std.proofs.lemmas.Slice.Eq.{bytes_eq-Decides}
use Rattle.ap_markup.specs.Least.{IsLeast}
use Rattle.ap_markup.specs.NameLists.{has_name}
use Rattle.ap_markup.specs.Pieces.{Pair}
use Rattle.ap_markup.specs.Said.{value_of, name_of, is_named}
use Rattle.ap_markup.specs.Tree.{Tag, Parts, Done, Run, Element}
use Rattle.ap_markup.proofs.LeastOf.{or_next, least_then, least_alike}
use Rattle.ap_markup.proofs.Ordered.{InOrder, order_within}
use Rattle.ap_dix.specs.Faults.{DixMark, has_attribute, has_unsupported, is_unsupported, is_bad_regex, tag_kind, marked, or_else, defined_after, defined_in, first_in}
use Rattle.ap_dix.specs.Forms.{Form}
use Rattle.ap_dix.specs.Grammar.{SpellsExpr}
use Rattle.ap_dix.specs.Machines.{expression}
use Rattle.ap_dix.specs.Mistakes.{HasNamed, Gives, GivesOne, unsupported_names, IsMistake, duplicate, undeclared, undefined, bad_regex, weighted, ignored, extended, Fault, order_of, IsAtTag, HasFault}
use Rattle.ap_dix.specs.Refusals.{kind_number}
use Rattle.ap_dix.specs.WordText.{texts}
use Rattle.ap_dix.specs.declared.refusal.DixKind.{DixKind}
use Rattle.ap_dix.specs.declared.refusal.DixKind.TheVariants.{DuplicateName, UndeclaredSymbol, UndefinedParadigm, BadRegex, Weighted, Unsupported}
use Rattle.ap_dix.proofs.ExprLaws.{expression_exact}
use Rattle.ap_dix.proofs.NamesAbove.{defined_found, defined_kept, defined_read}

-- tests at one place, in the order of the numbers of their kinds
abbrev pub Test : Type 0
Test = Bool × DixKind

abbrev Holds : ℕ → List Test → Fault → Type 0
Holds place [] f = ⊥
Holds place (t ∷ ts) f = ((t.0 ≡ true) × (f ≡ (place, t.1))) ⊎ Holds place ts f

abbrev first_of : ℕ → List Test → Option Fault
first_of place [] = None
first_of place (t ∷ ts) = cond {A = Option Fault} t.0 (Some (place, t.1)) (first_of place ts)

abbrev Rises : ℕ → List Test → Type 0
Rises n [] = Unit {0}
Rises n (t ∷ ts) = (n ≤ kind_number t.1) × Rises (kind_number t.1) ts

held : (place : ℕ) (ts : List Test) (n : ℕ) (f : Fault) → Rises n ts → Holds place ts f →
    (f.0 ≡ place) × (n ≤ kind_number f.1)
held place [] n f rises h = absurd h
held place (t ∷ ts) n f rises (inl x) =
    (ap (λ (z : Fault). z.0) x.1, subst (λ (z : Fault). n ≤ kind_number z.1) (sym x.1) rises.0)
held place (t ∷ ts) n f rises (inr y) = let r = held place ts (kind_number t.1) f rises.1 y in
    (r.0, omega (arith, rises.0, r.1))

one_test : (b : Bool) (f : Fault) →
    IsLeast order_of (λ g. (b ≡ true) × (g ≡ f)) (cond {A = Option Fault} b (Some f) None)
one_test true f = (
  (refl, refl),
  λ g h. inr (
    ap (λ (z : Fault). z.0) (sym h.1),
    subst (λ (z : Fault). kind_number f.1 ≤ kind_number z.1) (sym h.1) (omega arith),
  ),
)
one_test false f = λ g h. let q : ◌≡◌ {A = Bool} false true = h.0 in cc

tests_least : (place : ℕ) (ts : List Test) (n : ℕ) → Rises n ts →
    IsLeast order_of (Holds place ts) (first_of place ts)
tests_least place [] n rises = λ f h. h
tests_least place (t ∷ ts) n rises =
    subst (IsLeast order_of (Holds place (t ∷ ts))) (next t.0 (place, t.1) (first_of place ts))
    (least_then order_of (λ g. (t.0 ≡ true) × (g ≡ (place, t.1))) (Holds place ts)
    (cond {A = Option Fault} t.0 (Some (place, t.1)) None) (first_of place ts)
    (λ f g x y. let r = held place ts (kind_number t.1) g rises.1 y in
    inr (
      ap (λ (z : Fault). z.0) x.1 ∙ sym r.0,
      subst (λ (z : Fault). kind_number z.1 ≤ kind_number g.1) (sym x.1) r.1,
    ))
    (one_test t.0 (place, t.1)) (tests_least place ts (kind_number t.1) rises.1))
  where
    next : (b : Bool) (f : Fault) (o : Option Fault) →
        or_next (cond {A = Option Fault} b (Some f) None) o ≡ cond {A = Option Fault} b (Some f) o
    next true f o = refl
    next false f o = refl

-- the tests of a start tag
abbrev tests : List (List ℕ) → List (List ℕ) → Tag → Parts → List Test
tests declared defined tag kids =
    (is_named (codes "pardef") tag && has_name defined (name_of tag.attributes), DuplicateName)
    ∷ (
      is_named (codes "s") tag && not (has_name declared (name_of tag.attributes)),
      UndeclaredSymbol,
    )
    ∷ (
      is_named (codes "par") tag && not (has_name defined (name_of tag.attributes)),
      UndefinedParadigm,
    )
    ∷ (is_bad_regex tag kids, BadRegex)
    ∷ (has_attribute (codes "w") tag.attributes, Weighted)
    ∷ (is_unsupported tag, Unsupported)
    ∷ []

abbrev pub placed : DixMark → Fault
placed m = (m.place, m.kind)

six : (place : ℕ) (a b c d e f : Bool) →
    first_of place ((a, DuplicateName) ∷ (b, UndeclaredSymbol) ∷ (c, UndefinedParadigm)
    ∷ (d, BadRegex) ∷ (e, Weighted) ∷ (f, Unsupported) ∷ [])
    ≡ option_map {U = Fault} (λ (k : DixKind). (place, k))
    (cond a (Some DuplicateName)
    (cond b (Some UndeclaredSymbol)
    (cond c (Some UndefinedParadigm)
    (cond d (Some BadRegex) (cond e (Some Weighted) (cond f (Some Unsupported) None))))))
six place true b c d e f = refl
six place false true c d e f = refl
six place false false true d e f = refl
six place false false false true e f = refl
six place false false false false true f = refl
six place false false false false false true = refl
six place false false false false false false = refl

mark_placed : (tag : Tag) (o : Option DixKind) →
    option_map {U = Fault} (λ (k : DixKind). (tag.place, k)) o ≡ option_map placed (marked tag o)
mark_placed tag None = refl
mark_placed tag (Some k) = refl

-- names that are kept, and those that the sentences speak of
pub record SameNames (names : List (List ℕ)) (kind : List ℕ) (parts : Parts) : Type 0 where
  pub found : (name : List ℕ) → has_name names name ≡ true → HasNamed kind name parts
  pub read : (name : List ℕ) → HasNamed kind name parts → has_name names name ≡ true

both : (a b : Bool) → (a && b) ≡ true → (a ≡ true) × (b ≡ true)
both true true h = (refl, refl)
both true false h = cc
both false b h = cc

and_true : (a b : Bool) → a ≡ true → b ≡ true → (a && b) ≡ true
and_true a b x y = rw (x, y) refl

no_yes : (b : Bool) → b ≡ true → not b ≡ true → ⊥
no_yes true x y = let q : ◌≡◌ {A = Bool} false true = y in cc
no_yes false x y = let q : ◌≡◌ {A = Bool} false true = x in cc

not_when : (b : Bool) → (b ≡ true → ⊥) → not b ≡ true
not_when true h = absurd (h refl)
not_when false h = refl

or_found : (a b : Bool) → (a || b) ≡ true → (a ≡ true) ⊎ (b ≡ true)
or_found true b h = inl refl
or_found false b h = inr h

or_left : (a b : Bool) → a ≡ true → (a || b) ≡ true
or_left true b h = refl
or_left false b h = cc

or_right : (a b : Bool) → b ≡ true → (a || b) ≡ true
or_right true b h = refl
or_right false b h = h

gives_found : (name : List ℕ) (given : List Pair) → has_attribute name given ≡ true →
    Gives name given
gives_found name [] h = let q : ◌≡◌ {A = Bool} false true = h in cc
gives_found name (a ∷ more) h = by (bytes_eq name a.0) refl (gives_found name more) h
  where
    by : (t : Bool) → bytes_eq name a.0 ≡ t → (has_attribute name more ≡ true → Gives name more) →
        is_some (cond t (Some a.1) (value_of name more)) ≡ true → Gives name (a ∷ more)
    by true e on k = inl (sym ((bytes_eq-Decides name a.0).0 e))
    by false e on k = inr (on k)

gives_read : (name : List ℕ) (given : List Pair) → Gives name given →
    has_attribute name given ≡ true
gives_read name [] h = absurd h
gives_read name (a ∷ more) (inl x) =
    ap (λ t. is_some (cond t (Some a.1) (value_of name more)))
    ((bytes_eq-Decides name a.0).1 (sym x))
gives_read name (a ∷ more) (inr y) = by (bytes_eq name a.0) (gives_read name more y)
  where
    by : (t : Bool) → has_attribute name more ≡ true →
        is_some (cond t (Some a.1) (value_of name more)) ≡ true
    by true k = refl
    by false k = k

-- one of the names
some_given : List (List ℕ) → List Pair → Bool
some_given [] given = false
some_given (n ∷ ns) given = has_attribute n given || some_given ns given

some_found : (names : List (List ℕ)) (given : List Pair) → some_given names given ≡ true →
    GivesOne names given
unfolding some_given
some_found [] given h = let q : ◌≡◌ {A = Bool} false true = h in cc
some_found (n ∷ ns) given h = elim (or_found (has_attribute n given) (some_given ns given) h) [
  | inl x ↦ inl (gives_found n given x)
  | inr y ↦ inr (some_found ns given y)
]

some_read : (names : List (List ℕ)) (given : List Pair) → GivesOne names given →
    some_given names given ≡ true
unfolding some_given
some_read [] given h = absurd h
some_read (n ∷ ns) given (inl x) =
    or_left (has_attribute n given) (some_given ns given) (gives_read n given x)
some_read (n ∷ ns) given (inr y) =
    or_right (has_attribute n given) (some_given ns given) (some_read ns given y)

grouped : (a b c d e f : Bool) → (((((a || b) || c) || d) || e) || f)
    ≡ (a || (b || (c || (d || (e || (f || false))))))
grouped true b c d e f = refl
grouped false true c d e f = refl
grouped false false true d e f = refl
grouped false false false true e f = refl
grouped false false false false true f = refl
grouped false false false false false true = refl
grouped false false false false false false = refl

unsupported_is : (given : List Pair) → has_unsupported given ≡ some_given unsupported_names given
unfolding some_given
unsupported_is given = grouped (has_attribute (codes "alt") given) (has_attribute (codes "v") given)
    (has_attribute (codes "vl") given) (has_attribute (codes "vr") given)
    (has_attribute (codes "srl") given) (has_attribute (codes "slr") given)

spelled_not : (text : List ℕ) → not (is_some (expression text)) ≡ true → (e : Form) →
    SpellsExpr text e → ⊥
spelled_not text h e s =
    no_yes (is_some (expression text)) (ap is_some ((expression_exact text e).1 s)) h

none_spelled : (text : List ℕ) → ((e : Form) → SpellsExpr text e → ⊥) →
    not (is_some (expression text)) ≡ true
none_spelled text never = by (expression text) refl
  where
    by : (o : Option Form) → expression text ≡ o → not (is_some o) ≡ true
    by None e = refl
    by (Some f) e = absurd (never f ((expression_exact text f).0 e))

-- what the tests of a start tag say
tag_found : (root above : Parts) (declared defined : List (List ℕ)) (tag : Tag) (kids : Parts) →
    SameNames declared (codes "sdef") root → SameNames defined (codes "pardef") above →
    (f : Fault) → Holds tag.place (tests declared defined tag kids) f →
    IsAtTag root above tag kids f
tag_found root above declared defined tag kids s d f (inl x) =
    let t = both (is_named (codes "pardef") tag) (has_name defined (name_of tag.attributes)) x.0 in
    (DuplicateName, duplicate t.0 (d.found (name_of tag.attributes) t.1) refl, x.1)
tag_found root above declared defined tag kids s d f (inr (inl x)) =
    let t = both (is_named (codes "s") tag)
    (not (has_name declared (name_of tag.attributes))) x.0 in (
      UndeclaredSymbol,
      undeclared t.0
          (λ h. no_yes (has_name declared (name_of tag.attributes))
          (s.read (name_of tag.attributes) h) t.1) refl,
      x.1,
    )
tag_found root above declared defined tag kids s d f (inr (inr (inl x))) =
    let t = both (is_named (codes "par") tag)
    (not (has_name defined (name_of tag.attributes))) x.0 in (
      UndefinedParadigm,
      undefined t.0
          (λ h. no_yes (has_name defined (name_of tag.attributes))
          (d.read (name_of tag.attributes) h)
          t.1) refl,
      x.1,
    )
tag_found root above declared defined tag kids s d f (inr (inr (inr (inl x)))) =
    let t = both (is_named (codes "re") tag) (not (is_some (expression (texts kids)))) x.0 in
    (BadRegex, bad_regex t.0 (spelled_not (texts kids) t.1) refl, x.1)
tag_found root above declared defined tag kids s d f (inr (inr (inr (inr (inl x))))) =
    (Weighted, weighted (gives_found (codes "w") tag.attributes x.0) refl, x.1)
tag_found root above declared defined tag kids s d f (inr (inr (inr (inr (inr (inl x)))))) =
    elim (or_found (is_named (codes "ig") tag) (is_named (codes "e") tag
    && has_unsupported tag.attributes) x.0) [
      | inl y ↦ (Unsupported, ignored y refl, x.1)
      | inr y ↦
          let t = both (is_named (codes "e") tag) (has_unsupported tag.attributes) y in (
            Unsupported,
            extended t.0
                (some_found unsupported_names tag.attributes (sym (unsupported_is tag.attributes)
                ∙ t.1)) refl,
            x.1,
          )
    ]
tag_found root above declared defined tag kids s d f
    (inr (inr (inr (inr (inr (inr x)))))) = absurd x

of_kind : (tag : Tag) (kind k : DixKind) (f : Fault) → f ≡ (tag.place, kind) → kind ≡ k →
    f ≡ (tag.place, k)
of_kind tag kind k f e s = e ∙ ap (λ (z : DixKind). (tag.place, z)) s

mistake_read : (root above : Parts) (declared defined : List (List ℕ)) (tag : Tag) (kids : Parts) →
    SameNames declared (codes "sdef") root → SameNames defined (codes "pardef") above →
    (f : Fault) (kind : DixKind) → f ≡ (tag.place, kind) → IsMistake root above tag kids kind →
    Holds tag.place (tests declared defined tag kids) f
mistake_read root above declared defined tag kids s d f kind e (duplicate is h k) =
    inl (
      and_true (is_named (codes "pardef") tag) (has_name defined (name_of tag.attributes)) is
          (d.read (name_of tag.attributes) h),
      of_kind tag kind DuplicateName f e k,
    )
mistake_read root above declared defined tag kids s d f kind e (undeclared is h k) =
    inr (inl (
      and_true (is_named (codes "s") tag) (not (has_name declared (name_of tag.attributes)))
          is (not_when (has_name declared (name_of tag.attributes))
          (λ b. h (s.found (name_of tag.attributes) b))),
      of_kind tag kind UndeclaredSymbol f e k,
    ))
mistake_read root above declared defined tag kids s d f kind e (undefined is h k) =
    inr (inr (inl (
      and_true (is_named (codes "par") tag)
          (not (has_name defined (name_of tag.attributes))) is
          (not_when (has_name defined (name_of tag.attributes))
          (λ b. h (d.found (name_of tag.attributes) b))),
      of_kind tag kind UndefinedParadigm f e k,
    )))
mistake_read root above declared defined tag kids s d f kind e (bad_regex is h k) =
    inr (inr (inr (inl (
      and_true (is_named (codes "re") tag)
          (not (is_some (expression (texts kids)))) is (none_spelled (texts kids) h),
      of_kind tag kind BadRegex f e k,
    ))))
mistake_read root above declared defined tag kids s d f kind e (weighted h k) =
    inr (inr (inr (inr (inl (
      gives_read (codes "w") tag.attributes h,
      of_kind tag kind Weighted f e k,
    )))))
mistake_read root above declared defined tag kids s d f kind e (ignored is k) =
    inr (inr (inr (inr (inr (inl (
      or_left (is_named (codes "ig") tag) (is_named (codes "e") tag
          && has_unsupported tag.attributes) is,
      of_kind tag kind Unsupported f e k,
    ))))))
mistake_read root above declared defined tag kids s d f kind e (extended is h k) =
    inr (inr (inr (inr (inr (inl (
      or_right (is_named (codes "ig") tag) (is_named (codes "e") tag
          && has_unsupported tag.attributes)
          (and_true (is_named (codes "e") tag) (has_unsupported tag.attributes) is
          (unsupported_is tag.attributes ∙ some_read unsupported_names tag.attributes h)),
      of_kind tag kind Unsupported f e k,
    ))))))

pub tag_least : (root above : Parts) (declared defined : List (List ℕ)) (tag : Tag) (kids : Parts) →
    SameNames declared (codes "sdef") root → SameNames defined (codes "pardef") above →
    IsLeast order_of (IsAtTag root above tag kids)
    (option_map placed (marked tag (tag_kind declared defined tag kids)))
tag_least root above declared defined tag kids s d =
    let ts = tests declared defined tag kids in
    let rises : Rises 7 ts =
    (omega arith, (omega arith, (omega arith, (omega arith, (omega arith, (omega arith, tt))))))
    in
    subst (IsLeast order_of (IsAtTag root above tag kids))
    (six tag.place (is_named (codes "pardef") tag && has_name defined (name_of tag.attributes))
    (is_named (codes "s") tag && not (has_name declared (name_of tag.attributes)))
    (is_named (codes "par") tag && not (has_name defined (name_of tag.attributes)))
    (is_bad_regex tag kids) (has_attribute (codes "w") tag.attributes) (is_unsupported tag)
    ∙ mark_placed tag (tag_kind declared defined tag kids))
    (least_alike order_of (Holds tag.place ts) (IsAtTag root above tag kids) (first_of tag.place ts)
    (tag_found root above declared defined tag kids s d)
    (λ f h. mistake_read root above declared defined tag kids s d f h.0 h.2 h.1)
    (tests_least tag.place ts 7 rises))

-- where the faults of parts stand
pub fault_within : (text : List ℕ) (root : Parts) (parts above : Parts) (lo hi : ℕ) (f : Fault) →
    InOrder text lo parts hi → HasFault root above parts f → (lo ≤ f.0) × (f.0 < hi)
fault_within text root Done above lo hi f o h = absurd h
fault_within text root (Run run at more) above lo hi f o h = let r =
    fault_within text root more above at hi f o.1 h in (omega (arith, o.0, r.0), r.1)
fault_within text root (Element tag kids more) above lo hi f o (inl x) =
    let here : f.0 ≡ tag.place = ap (λ (z : Fault). z.0) x.2 in
    let a = order_within text kids (tag.place + 1) o.0 o.3 in
    let b = order_within text more o.0 hi o.4 in
    (omega (arith, here, o.1), omega (arith, here, a, b))
fault_within text root (Element tag kids more) above lo hi f o (inr (inl x)) =
    let r = fault_within text root kids above (tag.place + 1) o.0 f o.3 x in
    let b = order_within text more o.0 hi o.4 in
    (omega (arith, r.0, o.1), omega (arith, r.1, b))
fault_within text root (Element tag kids more) above lo hi f o (inr (inr x)) =
    let r = fault_within text root more (Element tag kids above) o.0 hi f o.4 x in
    let a = order_within text kids (tag.place + 1) o.0 o.3 in
    (omega (arith, r.0, a, o.1), r.1)

pub or_placed : (a b : Option DixMark) → option_map placed (or_else a b)
    ≡ or_next (option_map placed a) (option_map placed b)
or_placed None b = refl
or_placed (Some m) b = refl

after_one : (tag : Tag) (kids : Parts) (names : List (List ℕ)) →
    defined_after tag (defined_in names kids) ≡ defined_in names (Element tag kids Done)
unfolding defined_in
after_one tag kids names = refl

-- the names of the paradigms above what comes next
names_on : (tag : Tag) (kids above : Parts) (defined : List (List ℕ)) →
    SameNames defined (codes "pardef") above →
    SameNames (defined_after tag (defined_in defined kids)) (codes "pardef")
    (Element tag kids above)
names_on tag kids above defined d = record {
  found = λ name h. found name
      (defined_found (Element tag kids Done) defined name
      (sym (ap (λ ns. has_name ns name) (after_one tag kids defined)) ∙ h));
  read = λ name h. ap (λ ns. has_name ns name) (after_one tag kids defined) ∙ read name h;
}
  where
    found : (name : List ℕ) → (has_name defined name ≡ true)
        ⊎ HasNamed (codes "pardef") name (Element tag kids Done) →
        HasNamed (codes "pardef") name (Element tag kids above)
    found name (inl x) = inr (inr (d.found name x))
    found name (inr (inl x)) = inl x
    found name (inr (inr (inl x))) = inr (inl x)
    found name (inr (inr (inr x))) = absurd x

    read : (name : List ℕ) → HasNamed (codes "pardef") name (Element tag kids above) →
        has_name (defined_in defined (Element tag kids Done)) name ≡ true
    read name (inl x) = defined_read (Element tag kids Done) defined name (inl x)
    read name (inr (inl x)) = defined_read (Element tag kids Done) defined name (inr (inl x))
    read name (inr (inr x)) = defined_kept (Element tag kids Done) defined name (d.read name x)

pub own_least : (text : List ℕ) (root : Parts) (declared : List (List ℕ)) →
    SameNames declared (codes "sdef") root →
    (parts above : Parts) (defined : List (List ℕ)) (lo hi : ℕ) → InOrder text lo parts hi →
    SameNames defined (codes "pardef") above →
    IsLeast order_of (HasFault root above parts)
    (option_map placed (first_in declared defined parts))
unfolding first_in
own_least text root declared s Done above defined lo hi o d = λ f h. h
own_least text root declared s (Run run at more) above defined lo hi o d =
    own_least text root declared s more above defined at hi o.1 d
own_least text root declared s (Element tag kids more) above defined lo hi o d =
    let own = marked tag (tag_kind declared defined tag kids) in
    let inner = first_in declared defined kids in
    let next = defined_after tag (defined_in defined kids) in
    let later = first_in declared next more in
    let A = IsAtTag root above tag kids in
    let B = HasFault root above kids in
    let C = HasFault root (Element tag kids above) more in
    let two : IsLeast order_of (λ f. B f ⊎ C f)
    (or_next (option_map placed inner) (option_map placed later)) =
    least_then order_of B C (option_map placed inner) (option_map placed later)
    (λ f g x y. let a = fault_within text root kids above (tag.place + 1) o.0 f o.3 x in let b =
    fault_within text root more (Element tag kids above) o.0 hi g o.4 y in
    inl (omega (arith, a.1, b.0)))
    (own_least text root declared s kids above defined (tag.place + 1) o.0 o.3 d)
    (own_least text root declared s more (Element tag kids above) next o.0 hi o.4
    (names_on tag kids above defined d)) in
    subst (IsLeast order_of (HasFault root above (Element tag kids more)))
    (ap (or_next (option_map placed own)) (sym (or_placed inner later))
    ∙ sym (or_placed own (or_else inner later)))
    (least_then order_of A (λ f. B f ⊎ C f) (option_map placed own)
    (or_next (option_map placed inner) (option_map placed later))
    (λ f g x y. inl (behind f g x y))
    (tag_least root above declared defined tag kids s d) two)
  where
    behind : (f g : Fault) → IsAtTag root above tag kids f → HasFault root above kids g
        ⊎ HasFault root (Element tag kids above) more g → f.0 < g.0
    behind f g x (inl y) =
        let here : f.0 ≡ tag.place = ap (λ (z : Fault). z.0) x.2 in
        let r = fault_within text root kids above (tag.place + 1) o.0 g o.3 y in
        omega (arith, here, r.0)
    behind f g x (inr y) =
        let here : f.0 ≡ tag.place = ap (λ (z : Fault). z.0) x.2 in
        let r = fault_within text root more (Element tag kids above) o.0 hi g o.4 y in
        let a = order_within text kids (tag.place + 1) o.0 o.3 in
        omega (arith, here, r.0, a)
