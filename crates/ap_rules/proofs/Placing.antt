-- What a row of the table says of the elements within one, and which elements define names.
use Rattle.std.proofs.Common.{◌≡◌, ◌⊎◌, inl, inr, ℕ, suc, ◌+◌, ◌<◌, Bool, true, false, not, ◌&&◌, ◌||◌, cond, nat_lt, nat_le, List, [], ◌∷◌, length, refl, sym, ap, ◌∙◌, subst, arith, Option, Some, None, codes}
use Rattle.std.specs.List.{list_all, position_or_len}
use Rattle.std.specs.Str.{bytes_eq}
use Rattle.std.proofs.lemmas.Bool.Decides.{nat_tests}
use Rattle.std.proofs.lemmas.Slice.Eq.{bytes_eq-Decides}
use Rattle.ap_markup.specs.Faults.{Expected, next, has_room}
use Rattle.ap_markup.specs.NameLists.{has_name, number_of}
use Rattle.ap_markup.specs.Names.{is_among}
use Rattle.ap_markup.specs.Said.{value_of, is_named}
use Rattle.ap_markup.specs.Table.{Content, Line, line_in, line_named, or_else}
use Rattle.ap_markup.specs.TableRows.{one, two}
use Rattle.ap_markup.specs.Tree.{Tag}
use Rattle.ap_rules.specs.Children.{Children, nothing, element}
use Rattle.ap_rules.specs.Defining.{defined_named, defined_after, defined_in}
use Rattle.ap_rules.specs.Faults.{Around, around_within}
use Rattle.ap_rules.specs.declared.defined.Defined.{Defined}
use Rattle.ap_rules.specs.declared.rules.Form.{Form}
use Rattle.ap_rules.specs.declared.rules.Form.TheVariants.{Transfer, Interchunk, Postchunk}
use Rattle.ap_rules.proofs.Faultless.{rows_of, lacks_some, Regular, Clean, Stands, false_true, true_false, some_one, none_some, both}
use Rattle.ap_rules.proofs.ValuesRead.{tag_as}

-- what holds of each of the names holds of one among them
abbrev pub AllNames : (List ℕ → Type 0) → List (List ℕ) → Type 0
AllNames P [] = Unit {0}
AllNames P (n ∷ ns) = P n × AllNames P ns

pub among_each : (P : List ℕ → Type 0) (names : List (List ℕ)) (name : List ℕ) → AllNames P names →
    is_among name names ≡ true → P name
among_each P [] name all h = false_true h
among_each P (n ∷ ns) name all h =
    by (bytes_eq n name) refl h (λ k. among_each P ns name all.1 k)
  where
    by : (b : Bool) → bytes_eq n name ≡ b → (b || is_among name ns) ≡ true →
        (is_among name ns ≡ true → P name) → P name
    by true e k later = subst P ((bytes_eq-Decides n name).0 e) all.0
    by false e k later = later k

-- what is expected next: more of the first group, or what stands behind it
pub step : (name : List ℕ) (g : Content) (gs : List Content) (used : ℕ) (n : Expected) →
    next name (g ∷ gs) used ≡ Some n →
    ((is_among name g.names ≡ true) × (has_room used g.most ≡ true) × ((g ∷ gs, used + 1) ≡ n))
    ⊎ ((nat_le g.least used ≡ true) × (next name gs 0 ≡ Some n))
step name g gs used n e = by (is_among name g.names) (has_room used g.most) (nat_le g.least used)
    refl refl refl e
  where
    by : (p q r : Bool) → is_among name g.names ≡ p → has_room used g.most ≡ q →
        nat_le g.least used ≡ r →
        cond {A = Option Expected} (p && q) (Some (g ∷ gs, used + 1))
        (cond r (next name gs 0) None) ≡ Some n →
        ((is_among name g.names ≡ true) × (has_room used g.most ≡ true) × ((g ∷ gs, used + 1) ≡ n))
        ⊎ ((nat_le g.least used ≡ true) × (next name gs 0 ≡ Some n))
    by true true r pe qe re h = inl (pe, qe, some_one (g ∷ gs, used + 1) n h)
    by true false true pe qe re h = inr (re, h)
    by true false false pe qe re h = none_some n h
    by false q true pe qe re h = inr (re, h)
    by false q false pe qe re h = none_some n h

-- where one group is left
pub in_last : (name : List ℕ) (g : Content) (used : ℕ) (n : Expected) →
    next name (g ∷ []) used ≡ Some n →
    (is_among name g.names ≡ true) × (has_room used g.most ≡ true) × ((g ∷ [], used + 1) ≡ n)
in_last name g used n e = elim (step name g [] used n e) [
  | inl x ↦ x
  | inr y ↦ none_some n y.1
]

-- nothing more stands where a group is full
pub full : (a : Around) (above : Defined) (g : Content) (used : ℕ) (own : Children) →
    has_room used g.most ≡ false → Clean a above (g ∷ [], used) own → own ≡ nothing
full a above g used nothing room c = refl
full a above g used (element tag inner more) room (here, (n, is, later)) =
    true_false (sym (in_last tag.name g used n is).1 ∙ room)

-- what stands behind a full group is of the next ones
pub past : (a : Around) (above : Defined) (g : Content) (gs : List Content) (used : ℕ)
    (own : Children) → has_room used g.most ≡ false → Clean a above (g ∷ gs, used) own →
    Clean a above (gs, 0) own
past a above g gs used nothing room c = tt
past a above g gs used (element tag inner more) room (here, (n, is, later)) =
    elim (step tag.name g gs used n is) [
      | inl x ↦ true_false (sym x.1 ∙ room)
      | inr y ↦ (here, (n, y.1, later))
    ]

-- what stands behind an element of a group
pub behind_one : (a : Around) (above : Defined) (e : Expected) (own more : Children) (tag : Tag)
    (n : Expected) → e ≡ n → Clean a (defined_after tag (defined_in above own)) n more →
    Clean a (defined_after tag (defined_in above own)) e more
behind_one a above e own more tag n same c =
    subst (λ (z : Expected). Clean a (defined_after tag (defined_in above own)) z more) (sym same) c

-- one element, of a group of which one has to be there
pub single : (a : Around) (above : Defined) (names : List (List ℕ)) (own : Children) →
    lacks_some (one names ∷ []) (one names ∷ []) nothing ≡ true →
    lacks_some (one names ∷ []) (one names ∷ []) own ≡ false →
    Clean a above (one names ∷ [], 0) own → (tag : Tag) × (inner : Children)
    × (own ≡ element tag inner nothing) × (is_among tag.name names ≡ true)
    × Stands a above tag inner
single a above names nothing none some c = true_false (sym none ∙ some)
single a above names (element tag inner more) none some (here, (n, is, later)) =
    let y = in_last tag.name (one names) 0 n is in
    let last = full a (defined_after tag (defined_in above inner)) (one names) 1 more refl
    (behind_one a above (one names ∷ [], 1) inner more tag n y.2 later) in
    (tag, inner, ap (element tag inner) last, y.0, here)

-- with one element of these names something is lacking
abbrev pub AreFew : List Content → List (List ℕ) → Type 0
AreFew all names = AllNames (λ name. (tag : Tag) (own : Children) →
    lacks_some all all (element (tag_as name tag) own nothing) ≡ true) names

few : (all : List Content) (names : List (List ℕ)) (tag : Tag) (own : Children) →
    AreFew all names → is_among tag.name names ≡ true →
    lacks_some all all (element tag own nothing) ≡ true
few all names tag own fewer h =
    among_each (λ name. (tag : Tag) (own : Children) →
    lacks_some all all (element (tag_as name tag) own nothing) ≡ true) names tag.name fewer h tag
    own

-- two elements side by side
pub record AreTwo (a : Around) (above : Defined) (first second : List (List ℕ))
    (own : Children) : Type 0 where
  pub tag : Tag
  pub inner : Children
  pub other : Tag
  pub within : Children
  pub own_is : own ≡ element tag inner (element other within nothing)
  pub tag_in : is_among tag.name first ≡ true
  pub other_in : is_among other.name second ≡ true
  pub tag_stands : Stands a above tag inner
  pub other_stands : Stands a (defined_after tag (defined_in above inner)) other within

-- of one group
pub pair : (a : Around) (above : Defined) (names : List (List ℕ)) (own : Children) →
    lacks_some (two names ∷ []) (two names ∷ []) nothing ≡ true → AreFew (two names ∷ []) names →
    lacks_some (two names ∷ []) (two names ∷ []) own ≡ false →
    Clean a above (two names ∷ [], 0) own → AreTwo a above names names own
pair a above names nothing none fewer some c = true_false (sym none ∙ some)
pair a above names (element tag inner nothing) none fewer some (here, (n, is, later)) =
    let y = in_last tag.name (two names) 0 n is in
    true_false (sym (few (two names ∷ []) names tag inner fewer y.0) ∙ some)
pair a above names (element tag inner (element other within more)) none fewer some
    (here, (n, is, later)) =
    let y = in_last tag.name (two names) 0 n is in
    let behind = defined_after tag (defined_in above inner) in
    let second = behind_one a above (two names ∷ [], 1) inner (element other within more) tag n y.2
    later in
    let m = second.1 in
    let z = in_last other.name (two names) 1 m.0 m.1 in
    let last = full a (defined_after other (defined_in behind within)) (two names) 2 more refl
    (behind_one a behind (two names ∷ [], 2) within more other m.0 z.2 m.2) in
    record {
      tag = tag;
      inner = inner;
      other = other;
      within = within;
      own_is = ap (λ (k : Children). element tag inner (element other within k)) last;
      tag_in = y.0;
      other_in = z.0;
      tag_stands = here;
      other_stands = second.0;
    }

-- of two groups
pub one_each : (a : Around) (above : Defined) (first second : List (List ℕ)) (own : Children) →
    lacks_some (one first ∷ one second ∷ []) (one first ∷ one second ∷ []) nothing ≡ true →
    AreFew (one first ∷ one second ∷ []) first →
    lacks_some (one first ∷ one second ∷ []) (one first ∷ one second ∷ []) own ≡ false →
    Clean a above (one first ∷ one second ∷ [], 0) own → AreTwo a above first second own
one_each a above first second nothing none fewer some c = true_false (sym none ∙ some)
one_each a above first second (element tag inner more) none fewer some (here, (n, is, later)) =
    elim (step tag.name (one first) (one second ∷ []) 0 n is) [
      | inl y ↦ rest more some (past a (defined_after tag (defined_in above inner)) (one first)
          (one second ∷ []) 1 more refl
          (behind_one a above (one first ∷ one second ∷ [], 1) inner more tag n y.2 later)) y.0
      | inr y ↦ false_true y.0
    ]
  where
    rest : (more : Children) →
        lacks_some (one first ∷ one second ∷ []) (one first ∷ one second ∷ [])
        (element tag inner more) ≡ false →
        Clean a (defined_after tag (defined_in above inner)) (one second ∷ [], 0) more →
        is_among tag.name first ≡ true → AreTwo a above first second (element tag inner more)
    rest nothing some c h =
        true_false (sym (few (one first ∷ one second ∷ []) first tag inner fewer h) ∙ some)
    rest (element other within more) some (there, (m, is, later)) h =
        let behind = defined_after tag (defined_in above inner) in
        let z = in_last other.name (one second) 0 m is in
        let last = full a (defined_after other (defined_in behind within)) (one second) 1 more refl
        (behind_one a behind (one second ∷ [], 1) within more other m z.2 later) in
        record {
          tag = tag;
          inner = inner;
          other = other;
          within = within;
          own_is = ap (λ (k : Children). element tag inner (element other within k)) last;
          tag_in = h;
          other_in = z.0;
          tag_stands = here;
          other_stands = there;
        }

-- the row of an element whose name is known
pub as_row : (a : Around) (above : Defined) (tag : Tag) (own : Children) (m : Line) →
    line_in tag.name (rows_of a.form) ≡ Some m → Stands a above tag own →
    Regular a above tag own m × Clean (around_within a tag own) above (m.groups, 0) own
as_row a above tag own m e (l, r, c) =
    subst (λ (z : Line). Regular a above tag own z
    × Clean (around_within a tag own) above (z.groups, 0) own) (some_one l m (sym r.known ∙ e))
    (r, c)

-- the number of a name that is there
some_place : (name : List ℕ) (names : List (List ℕ)) → has_name names name ≡ true →
    position_or_len (bytes_eq name) names < length names
some_place name [] h = false_true h
some_place name (x ∷ xs) h = by (bytes_eq name x) h (λ k. some_place name xs k)
  where
    by : (b : Bool) → (b || has_name xs name) ≡ true →
        (has_name xs name ≡ true → position_or_len (bytes_eq name) xs < length xs) →
        cond (not b) (1 + position_or_len (bytes_eq name) xs) 0 < suc (length xs)
    by true k later = omega arith
    by false k later = let lt = later k in omega (arith, lt)

pub has_number : (names : List (List ℕ)) (name : List ℕ) → has_name names name ≡ true →
    (n : ℕ) × (number_of names name ≡ Some n)
has_number names name h =
    let lt = some_place name names h in
    let k = position_or_len (bytes_eq name) names in
    let less : nat_lt k (length names) ≡ true = grind (arith, nat_tests) in
    (k, ap (λ (b : Bool). cond {A = Option ℕ} b (Some k) None) less)

-- The elements that define names, those in which they may stand, and the roots. Within any other
-- element none of them stands.
abbrev pub outer_names : List (List ℕ)
outer_names = codes "def-cat" ∷ codes "def-attr" ∷ codes "def-var" ∷ codes "def-list"
    ∷ codes "def-macro" ∷ codes "section-def-cats" ∷ codes "section-def-attrs"
    ∷ codes "section-def-vars" ∷ codes "section-def-lists" ∷ codes "section-def-macros"
    ∷ codes "transfer" ∷ codes "interchunk" ∷ codes "postchunk" ∷ []

abbrev pub is_inner : List ℕ → Bool
is_inner name = not (is_among name outer_names)

abbrev pub are_inner : List Content → Bool
are_inner [] = true
are_inner (g ∷ gs) = list_all is_inner g.names && are_inner gs

inner_line : Line → Bool
inner_line l = cond (is_inner l.name) (are_inner l.groups) true

all_inner : List (List Line) → Bool
all_inner [] = true
all_inner (ls ∷ more) = list_all inner_line ls && all_inner more

rows_inner : (form : Form) → all_inner (rows_of form) ≡ true
unfolding all_inner inner_line
rows_inner Transfer = refl
rows_inner Interchunk = refl
rows_inner Postchunk = refl

in_lines : (name : List ℕ) (ls : List Line) (l : Line) → list_all inner_line ls ≡ true →
    is_inner name ≡ true → line_named name ls ≡ Some l → are_inner l.groups ≡ true
unfolding inner_line
in_lines name [] l all inner e = none_some l e
in_lines name (x ∷ xs) l all inner e =
    by (bytes_eq x.name name) refl e (λ h. in_lines name xs l
    (both (inner_line x) (list_all inner_line xs) all).1 inner h)
  where
    by : (b : Bool) → bytes_eq x.name name ≡ b →
        cond {A = Option Line} b (Some x) (line_named name xs) ≡ Some l →
        (line_named name xs ≡ Some l → are_inner l.groups ≡ true) → are_inner l.groups ≡ true
    by true is h later =
        let one : is_inner x.name ≡ true =
        ap is_inner ((bytes_eq-Decides x.name name).0 is) ∙ inner in
        subst (λ (z : Line). are_inner z.groups ≡ true) (some_one x l h)
        (sym (ap (λ (b : Bool). cond b (are_inner x.groups) true) one)
        ∙ (both (inner_line x) (list_all inner_line xs) all).0)
    by false is h later = later h

in_rows : (name : List ℕ) (rows : List (List Line)) (l : Line) → all_inner rows ≡ true →
    is_inner name ≡ true → line_in name rows ≡ Some l → are_inner l.groups ≡ true
unfolding all_inner
in_rows name [] l all inner e = none_some l e
in_rows name (ls ∷ more) l all inner e =
    let two = both (list_all inner_line ls) (all_inner more) all in
    by (line_named name ls) refl e (λ h. in_rows name more l two.1 inner h)
  where
    by : (o : Option Line) → line_named name ls ≡ o → or_else o (line_in name more) ≡ Some l →
        (line_in name more ≡ Some l → are_inner l.groups ≡ true) → are_inner l.groups ≡ true
    by (Some x) is h later = in_lines name ls l
        (both (list_all inner_line ls) (all_inner more) all).0 inner (is ∙ h)
    by None is h later = later h

among_inner : (names : List (List ℕ)) (name : List ℕ) → list_all is_inner names ≡ true →
    is_among name names ≡ true → is_inner name ≡ true
among_inner [] name all h = false_true h
among_inner (n ∷ ns) name all h =
    let two = both (is_inner n) (list_all is_inner ns) all in
    by (bytes_eq n name) refl h (λ k. among_inner ns name two.1 k)
  where
    by : (b : Bool) → bytes_eq n name ≡ b → (b || is_among name ns) ≡ true →
        (is_among name ns ≡ true → is_inner name ≡ true) → is_inner name ≡ true
    by true e k later = ap is_inner (sym ((bytes_eq-Decides n name).0 e))
        ∙ (both (is_inner n) (list_all is_inner ns) all).0
    by false e k later = later k

-- what may stand next is an inner element, and so is what may stand behind it
next_inner : (name : List ℕ) (gs : List Content) (used : ℕ) (n : Expected) →
    are_inner gs ≡ true → next name gs used ≡ Some n →
    (is_inner name ≡ true) × (are_inner n.0 ≡ true)
next_inner name [] used n all e = none_some n e
next_inner name (g ∷ gs) used n all e =
    let two = both (list_all is_inner g.names) (are_inner gs) all in
    elim (step name g gs used n e) [
      | inl x ↦ (
        among_inner g.names name two.0 x.0,
        subst (λ (z : Expected). are_inner z.0 ≡ true) x.2 all,
      )
      | inr y ↦ next_inner name gs 0 n two.1 y.1
    ]

-- an inner element defines nothing
pub defines_nothing : (tag : Tag) (d : Defined) → is_inner tag.name ≡ true → defined_after tag d ≡ d
defines_nothing tag d h = named (value_of (codes "n") tag.attributes)
  where
    by : (a b c e f r : Bool) (x y z u v : Defined) → not (a || (b || (c || (e || (f || r)))))
        ≡ true → cond a x (cond b y (cond c z (cond e u (cond f v d)))) ≡ d
    by false false false false false r x y z u v k = refl
    by true b c e f r x y z u v k = false_true k
    by false true c e f r x y z u v k = false_true k
    by false false true e f r x y z u v k = false_true k
    by false false false true f r x y z u v k = false_true k
    by false false false false true r x y z u v k = false_true k

    named : (o : Option (List ℕ)) → defined_named o tag d ≡ d
    named None = refl
    named (Some name) = by (is_named (codes "def-cat") tag) (is_named (codes "def-attr") tag)
        (is_named (codes "def-var") tag) (is_named (codes "def-list") tag)
        (is_named (codes "def-macro") tag) _ _ _ _ _ _ h

-- nor do inner elements one after another
pub quiet : (a : Around) (above : Defined) (e : Expected) (own : Children) (d : Defined) →
    are_inner e.0 ≡ true → Clean a above e own → defined_in d own ≡ d
quiet a above e nothing d inner c = refl
quiet a above e (element tag own more) d inner ((l, r, inside), (n, is, later)) =
    let two = next_inner tag.name e.0 e.1 n inner is in
    let within = in_rows tag.name (rows_of a.form) l (rows_inner a.form) two.0 r.known in
    ap (λ (x : Defined). defined_in (defined_after tag x) more)
    (quiet (around_within a tag own) above (l.groups, 0) own d within inside)
    ∙ ap (λ (x : Defined). defined_in x more) (defines_nothing tag d two.0)
    ∙ quiet a (defined_after tag (defined_in above own)) n more d two.1 later
