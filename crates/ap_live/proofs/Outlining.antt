-- The outline of a transducer has its edges.
use Rattle.std.proofs.Common.{◌≡◌, ◌⊎◌, length-append, inl, inr, ℕ, ◌+◌, ◌-◌, ◌<◌, ◌≤◌, true, List, [], ◌∷◌, ◌++◌, refl, sym, ◌∙◌, ap, subst, arith, Option, Some, None, slice_get, length, get_or, suc, zero}
use Rattle.std.proofs.lemmas.Bool.{cases_lt}
use Rattle.std.proofs.lemmas.Option.{same_Some, slice_get-get_or, slice_get_within, get_or_from_slice_get}
use Rattle.std.specs.List.Sorted.{IsNonDecreasingBy}
use Rattle.std.specs.Int.{bit_at}
use Rattle.std.specs.Ordering.{nat_cmp, ordering_then, ordering_index, ordering_reverse}
use Rattle.std.specs.declared.cmp.Ordering.{Ordering}
use Rattle.std.specs.declared.cmp.Ordering.TheVariants.{Less, Equal, Greater}
use Rattle.ap_symbol.specs.declared.symbol.Symbol.{Symbol}
use Rattle.ap_symbol.specs.declared.symbol.Symbol.TheVariants.{Letter, Tag, Blank, Join, Queue, Alarm, Star, At}
use Rattle.ap_fst.specs.Lists.{Ascends}
use Rattle.ap_fst.specs.Machines.{edge_from, IsSpan}
use Rattle.ap_fst.specs.Order.{side_class, side_cmp, edge_cmp, left_place}
use Rattle.ap_fst.specs.declared.label.Edge.{Edge}
use Rattle.ap_fst.proofs.LeftLaws.{places_sorted}
use Rattle.ap_fst.proofs.OrderLaws.{side_total}
use Rattle.ap_fst.proofs.PlaceLaws.{cmp_less, cmp_same}
use Rattle.ap_live.specs.Outlines.{side_code, IsBit, IsFirstPlace, AreCodes, AreFirsts, SoFar, IsEntry, AreEntries, IsOutline, Rises, IsCut, IsCoded}
use Rattle.ap_live.specs.Fitting.{Input, picks, is_empty_side}
use Rattle.ap_live.specs.Spreads.{SpreadOne, Picked, AnyPlace, HasLeft, HasLeftBelow, IsPlace}
use Rattle.ap_live.specs.declared.arrivals.Arrival.{Arrival}
use Rattle.ap_live.specs.declared.outline.Entry.{Entry}
use Rattle.ap_live.specs.declared.outline.First.{First}
use Rattle.ap_live.specs.declared.outline.Outline.{Outline}
use Rattle.ap_live.proofs.Others.{place_has, side_none}
use Rattle.ap_live.proofs.RowLaws.{snoc_get}
use Rattle.ap_live.proofs.Spreading.{spread_none, spread_seen, spread_more, below_or_at}

-- ---- where the edges of a state begin

-- later keys are no smaller
rises : {X : Type 0} (key : X → ℕ) (xs : List X) (j k : ℕ) (d e : X) → IsNonDecreasingBy key xs
    → slice_get xs j ≡ Some d → slice_get xs k ≡ Some e → j ≤ k → key d ≤ key e
rises key xs j k d e sorted at at' le =
    let within : k < length xs = slice_get_within xs k e at' in
    let up : key (get_or xs j d) ≤ key (get_or xs k d) = sorted j k d le within in
    let one : key (get_or xs j d) ≡ key d = ap key (get_or_from_slice_get xs j d d at) in
    let two : key (get_or xs k d) ≡ key e = ap key (get_or_from_slice_get xs k e d at') in
    omega arith

-- before an edge that leaves a smaller state
pub all_smaller : (edges : List Edge) (place from : ℕ) (d : Edge) →
    IsNonDecreasingBy edge_from edges → 0 < place → slice_get edges (place - 1) ≡ Some d →
    d.from < from → (j : ℕ) (e : Edge) → slice_get edges j ≡ Some e → j < place → e.from < from
all_smaller edges place from d sorted some at less j e at' lt = let up : e.from ≤ d.from =
    rises edge_from edges j (place - 1) e d sorted at' at (omega arith) in omega arith

-- from an edge on that leaves no smaller state
pub none_smaller : (edges : List Edge) (place from : ℕ) (d : Edge) →
    IsNonDecreasingBy edge_from edges → slice_get edges place ≡ Some d → from ≤ d.from →
    (j : ℕ) (e : Edge) → slice_get edges j ≡ Some e → place ≤ j → from ≤ e.from
none_smaller edges place from d sorted at more j e at' le = let up : d.from ≤ e.from =
    rises edge_from edges place j d e sorted at at' le in omega arith

first_more : (edges : List Edge) (firsts firsts' : List First) (f : First) →
    firsts' ≡ firsts ++ f ∷ [] → AreFirsts edges firsts →
    IsFirstPlace edges (length firsts) f.place → (state : ℕ) (g : First) →
    slice_get firsts' state ≡ Some g → IsFirstPlace edges state g.place
first_more edges firsts firsts' f e are new state g h =
    elim (snoc_get firsts f g state (ap (λ (z : List First). slice_get z state) (sym e) ∙ h)) [
      | inl (lt, old) ↦ are.places state g old
      | inr both ↦
          subst (λ (z : First). IsFirstPlace edges state z.place) both.1
          (subst (λ (z : ℕ). IsFirstPlace edges z f.place) (sym both.0) new)
    ]

codes_more : (edges : List Edge) (firsts firsts' : List First) (f : First) →
    firsts' ≡ firsts ++ f ∷ [] → AreFirsts edges firsts →
    SoFar edges firsts f.place f.codes → (state : ℕ) (d g : First) →
    slice_get firsts' state ≡ Some d → slice_get firsts' (state + 1) ≡ Some g →
    AreCodes edges d.place g.place g.codes
codes_more edges firsts firsts' f e are so_far state d g h h' =
    elim (snoc_get firsts f g (state + 1)
    (ap (λ (z : List First). slice_get z (state + 1)) (sym e) ∙ h')) [
      | inl (lt', old') ↦
          elim (snoc_get firsts f d state
          (ap (λ (z : List First). slice_get z state) (sym e) ∙ h)) [
            | inl (lt, old) ↦ are.codes state d g old old'
            | inr both ↦ absurd (omega (arith, lt', both.0))
          ]
      | inr both' ↦
          elim (snoc_get firsts f d state
          (ap (λ (z : List First). slice_get z state) (sym e) ∙ h)) [
            | inl (lt, old) ↦
                subst (λ (z : First). AreCodes edges d.place z.place z.codes) both'.1
                (so_far state d old (sym both'.0))
            | inr both ↦ absurd (omega (arith, both.0, both'.0))
          ]
    ]

pub firsts_more : (edges : List Edge) (firsts firsts' : List First) (f : First) →
    firsts' ≡ firsts ++ f ∷ [] → IsFirstPlace edges (length firsts) f.place →
    AreFirsts edges firsts → SoFar edges firsts f.place f.codes → AreFirsts edges firsts'
firsts_more edges firsts firsts' f e new are so_far = record {
  places = first_more edges firsts firsts' f e are new;
  codes = codes_more edges firsts firsts' f e are so_far;
}

-- No edge stands between where a state's edges begin and there.
pub nothing_since : (edges : List Edge) (firsts firsts' : List First) (f : First) →
    firsts' ≡ firsts ++ f ∷ [] → (codes : ℕ) → SoFar edges firsts' f.place codes
nothing_since edges firsts firsts' f e codes state g h count j d there low high =
    elim (snoc_get firsts f g state (ap (λ (z : List First). slice_get z state) (sym e) ∙ h)) [
      | inl (lt, old) ↦
          let more : length firsts' ≡ length firsts + 1 =
          ap length e ∙ length-append firsts (f ∷ []) in
          absurd (omega arith)
      | inr last ↦
          let same : f.place ≡ g.place = ap (λ (z : First). z.place) last.1 in
          absurd (omega arith)
    ]

-- More codes are told.
pub so_far_kept : (edges : List Edge) (firsts : List First) (place codes codes' : ℕ) →
    ((b : ℕ) → bit_at codes b ≡ 1 → bit_at codes' b ≡ 1) → SoFar edges firsts place codes →
    SoFar edges firsts place codes'
so_far_kept edges firsts place codes codes' kept so_far state f there count j e at low high b is =
    kept b (so_far state f there count j e at low high b is)

-- The codes with that of one edge more are those of the edges so far.
pub so_far_more : (edges : List Edge) (firsts : List First) (place codes codes' : ℕ) (e : Edge) →
    slice_get edges place ≡ Some e → SoFar edges firsts place codes →
    ((b : ℕ) → bit_at codes b ≡ 1 → bit_at codes' b ≡ 1) →
    ((b : ℕ) → IsBit (side_code e.label.left) b → bit_at codes' b ≡ 1) →
    SoFar edges firsts (place + 1) codes'
so_far_more edges firsts place codes codes' e at so_far kept has state f there count j d at' low
    high b is =
    elim (cases_lt j place) [
      | inl lt ↦ kept b (so_far state f there count j d at' low lt b is)
      | inr ge ↦
          let same : j ≡ place = omega arith in
          let same_edge : d ≡ e =
          same_Some d e (sym at' ∙ ap (slice_get edges) same ∙ at) in
          has b (subst (λ (z : Edge). IsBit (side_code z.label.left) b) same_edge is)
    ]

pub entries_more : (edges : List Edge) (entries entries' : List Entry) (e : Edge) (entry : Entry) →
    entries' ≡ entries ++ entry ∷ [] → AreEntries edges entries →
    slice_get edges (length entries) ≡ Some e → IsEntry edges e entry → AreEntries edges entries'
entries_more edges entries entries' e entry same are at is j d x there h =
    elim (snoc_get entries entry x j (ap (λ (z : List Entry). slice_get z j) (sym same) ∙ h)) [
      | inl (lt, old) ↦ are j d x there old
      | inr both ↦
          let same_edge : e ≡ d =
          same_Some e d (sym at ∙ ap (slice_get edges) (sym both.0) ∙ there) in
          subst (λ (z : Entry). IsEntry edges d z) both.1
          (subst (λ (z : Edge). IsEntry edges z entry) same_edge is)
    ]

-- ---- codes rise as sides do

less_first : (o p : Ordering) → o ≡ Less → 1 ≤ ordering_index (ordering_then o p) → ⊥
less_first Less p e h = omega arith
less_first Equal p e h = cc
less_first Greater p e h = cc

class_rises : (a b : Option Symbol) → 1 ≤ ordering_index (side_cmp b a) →
    side_class a ≤ side_class b
class_rises a b h = elim (cases_lt (side_class b) (side_class a)) [
  | inl lt ↦ absurd (less_first (nat_cmp (side_class b) (side_class a)) _
      (cmp_less (side_class b) (side_class a) lt) h)
  | inr le ↦ le
]

-- that of a tag or a mark
other_code : (o : Option Symbol) → 2 ≤ side_class o → side_code o ≡ 4294967295
other_code None h = absurd (omega arith)
other_code (Some (Letter c)) h = absurd (omega arith)
other_code (Some (Tag name)) h = refl
other_code (Some Blank) h = refl
other_code (Some Join) h = refl
other_code (Some Queue) h = refl
other_code (Some Alarm) h = refl
other_code (Some Star) h = refl
other_code (Some At) h = refl

letters_rise : (c d : ℕ) →
    1 ≤ ordering_index (side_cmp (Some (Letter d)) (Some (Letter c))) → c ≤ d
letters_rise c d h = elim (cases_lt d c) [
  | inl lt ↦ absurd (less_first (nat_cmp d c) _ (cmp_less d c lt) h)
  | inr le ↦ le
]

others_rise : (a b : Option Symbol) → 2 ≤ side_class a → 1 ≤ ordering_index (side_cmp b a) →
    side_code a ≤ side_code b
others_rise a b high h =
    let up : side_class a ≤ side_class b = class_rises a b h in
    let one : side_code a ≡ 4294967295 = other_code a high in
    let two : side_code b ≡ 4294967295 = other_code b (omega arith) in
    omega arith

letter_rises : (c : ℕ) (b : Option Symbol) → c + 1 ≤ 4294967295 →
    1 ≤ ordering_index (side_cmp b (Some (Letter c))) → c + 1 ≤ side_code b
letter_rises c None small h = absurd (omega arith)
letter_rises c (Some (Letter d)) small h =
    let up : c ≤ d = letters_rise c d h in omega arith
letter_rises c (Some (Tag name)) small h = small
letter_rises c (Some Blank) small h = small
letter_rises c (Some Join) small h = small
letter_rises c (Some Queue) small h = small
letter_rises c (Some Alarm) small h = small
letter_rises c (Some Star) small h = small
letter_rises c (Some At) small h = small

code_rises : (a b : Option Symbol) → side_code a ≤ 4294967295 →
    1 ≤ ordering_index (side_cmp b a) → side_code a ≤ side_code b
code_rises None b small h = omega arith
code_rises (Some (Letter c)) b small h = letter_rises c b small h
code_rises (Some (Tag name)) b small h = others_rise (Some (Tag name)) b (omega arith) h
code_rises (Some Blank) b small h = others_rise (Some Blank) b (omega arith) h
code_rises (Some Join) b small h = others_rise (Some Join) b (omega arith) h
code_rises (Some Queue) b small h = others_rise (Some Queue) b (omega arith) h
code_rises (Some Alarm) b small h = others_rise (Some Alarm) b (omega arith) h
code_rises (Some Star) b small h = others_rise (Some Star) b (omega arith) h
code_rises (Some At) b small h = others_rise (Some At) b (omega arith) h

self_equal : (o : Ordering) → o ≡ ordering_reverse o → o ≡ Equal
self_equal Less h = cc
self_equal Equal h = refl
self_equal Greater h = cc

place_here : (from : ℕ) (left : Option Symbol) (e : Edge) → e.from ≡ from →
    left_place from left e ≡ ordering_index (side_cmp e.label.left left)
place_here from left e is = ap (λ (z : Ordering). ordering_index
    (ordering_then z (side_cmp e.label.left left))) (cmp_same e.from from is)

pub some_at : {X : Type 0} (xs : List X) (j : ℕ) → j < length xs → (x : X) × (slice_get xs j ≡ Some x)
some_at [] j h = absurd (omega arith)
some_at (x ∷ xs) zero h = (x, refl)
some_at (x ∷ xs) (suc j) h = some_at xs j (omega arith)

-- among the edges of a state
pub span_rises : (edges : List Edge) (o : Outline) (from first last : ℕ) → IsOutline edges o →
    Ascends edge_cmp edges → IsSpan edges from first last → Rises o.entries.items first last
span_rises edges o from first last is ascend span j k x y at at' low le high =
    let end : last ≤ length edges = span.end in
    let (d, there) = some_at edges j (omega arith) in
    let (e, there') = some_at edges k (omega arith) in
    let left : Option Symbol = d.label.left in
    let one : IsEntry edges d x = is.entries j d x there at in
    let two : IsEntry edges e y = is.entries k e y there' at' in
    let rise : left_place from left d ≤ left_place from left e =
    rises (left_place from left) edges j k d e (places_sorted from left edges ascend)
    there there' le in
    let here : left_place from left d ≡ ordering_index (side_cmp left left) =
    place_here from left d (span.inside j d there low (omega arith)) in
    let same : ordering_index (side_cmp left left) ≡ 1 =
    ap ordering_index (self_equal (side_cmp left left) (side_total.antisymm left left)) in
    let here' : left_place from left e ≡ ordering_index (side_cmp e.label.left left) =
    place_here from left e (span.inside k e there' (omega arith) high) in
    let code : x.left ≡ side_code left = one.left_is in
    let code' : y.left ≡ side_code e.label.left = two.left_is in
    let small : x.left ≤ 4294967295 = one.small in
    let up : side_code left ≤ side_code e.label.left =
    code_rises left e.label.left (omega arith) (omega arith) in
    omega arith

abbrev pub no_entry : Entry
no_entry = record { left = 0; to = 0; right = 0 }

-- what is read at a place
pub read_at : (entries all : List Entry) (place : ℕ) → entries ≡ all → place < length all →
    slice_get all place ≡ Some (get_or entries place no_entry)
read_at entries all place same lt =
    slice_get-get_or all place no_entry lt
    ∙ ap (λ (z : List Entry). Some (get_or z place no_entry)) (sym same)

-- ---- the edges with a left side, by its code

record IsThere (o : Outline) (first last code j : ℕ) : Type 0 where
  entry : Entry
  at : slice_get o.entries.items j ≡ Some entry
  left_is : entry.left ≡ code
  low : first ≤ j
  high : j < last

coded_there : (edges : List Edge) (o : Outline) (pick : Option Input)
    (from first last low code : ℕ) (left : Option Symbol) → last ≤ length o.entries.items →
    IsCoded edges o pick from first last low code left
    → (s j : ℕ) → Picked edges pick from s j → HasLeft edges left j → IsThere o first last code j
coded_there edges o pick from first last low code left within is s j p has =
    let inside : (first ≤ j) × (j < last) = is.span.outside j p.edge p.at (sym p.from_is) in
    let high : j < last = inside.1 in
    let (x, at) = some_at o.entries.items j (omega arith) in
    record {
      entry = x;
      at = at;
      left_is = (is.outline_is.entries j p.edge x p.at at).left_is
          ∙ ap side_code (has p.edge p.at) ∙ is.left_is;
      low = inside.0;
      high = inside.1;
    }

-- Nothing that is picked stands before the place.
pub none_before : (edges : List Edge) (o : Outline) (pick : Option Input)
    (from first last low code : ℕ) (left : Option Symbol) → last ≤ length o.entries.items →
    IsCoded edges o pick from first last low code left
    → (s j : ℕ) → Picked edges pick from s j → HasLeftBelow edges left low j → ⊥
none_before edges o pick from first last low code left within is s j p (has, lt) =
    let t : IsThere o first last code j =
    coded_there edges o pick from first last low code left within is s j p has in
    let less : t.entry.left < code = is.cut.before j t.entry t.at t.low lt in
    let same : t.entry.left ≡ code = t.left_is in
    omega arith

pub coded_starts : (edges : List Edge) (o : Outline) (pick : Option Input)
    (from first last low code : ℕ) (left : Option Symbol) (states : List ℕ)
    (links : List Arrival) → last ≤ length o.entries.items →
    IsCoded edges o pick from first last low code left
    → SpreadOne edges pick from (HasLeftBelow edges left low) states links states links
coded_starts edges o pick from first last low code left states links within is =
    spread_none edges pick from (HasLeftBelow edges left low) states links
    (none_before edges o pick from first last low code left within is)

-- Nothing that is picked stands behind an entry with another code.
pub all_before : (edges : List Edge) (o : Outline) (pick : Option Input)
    (from first last low code : ℕ) (left : Option Symbol) (place : ℕ) (x : Entry) →
    last ≤ length o.entries.items → slice_get o.entries.items place ≡ Some x →
    (x.left ≡ code → ⊥) → low ≤ place → place < last
    → IsCoded edges o pick from first last low code left
    → (s j : ℕ) → Picked edges pick from s j → HasLeft edges left j → HasLeftBelow edges left place j
all_before edges o pick from first last low code left place x within at other le lt is s j p has =
    elim (cases_lt j place) [
      | inl below ↦ (has, below)
      | inr up ↦
          let t : IsThere o first last code j =
          coded_there edges o pick from first last low code left within is s j p has in
          let least : first ≤ low = is.cut.from in
          let more : code ≤ x.left = is.cut.behind place x at le lt in
          let rise : x.left ≤ t.entry.left =
          span_rises edges o from first last is.outline_is is.ascend is.span place j x t.entry
          at t.at (omega arith) up t.high in
          let same : t.entry.left ≡ code = t.left_is in
          absurd (other (omega arith))
    ]

pub coded_stops : (edges : List Edge) (o : Outline) (pick : Option Input)
    (from first last low code : ℕ) (left : Option Symbol) (states : List ℕ)
    (links : List Arrival) (states' : List ℕ) (links' : List Arrival) (place : ℕ) (x : Entry) →
    last ≤ length o.entries.items → slice_get o.entries.items place ≡ Some x →
    (x.left ≡ code → ⊥) → low ≤ place → place < last
    → IsCoded edges o pick from first last low code left →
    SpreadOne edges pick from (HasLeftBelow edges left place) states links states' links'
    → SpreadOne edges pick from (HasLeft edges left) states links states' links'
coded_stops edges o pick from first last low code left states links states' links' place x within
    at other le lt is h =
    spread_seen edges pick from (HasLeftBelow edges left place) (HasLeft edges left)
    states links states' links'
    (all_before edges o pick from first last low code left place x within at other le lt is) h

-- an entry with the code
pub record IsHere (edges : List Edge) (pick : Option Input) (from place : ℕ)
    (x : Entry) : Type 0 where
  pub edge : Edge
  pub at : slice_get edges place ≡ Some edge
  pub leaves : edge.from ≡ from
  pub to_is : edge.to ≡ x.to
  pub picked : picks pick edge ≡ true

pub coded_here : (edges : List Edge) (o : Outline) (pick : Option Input)
    (from first last low code : ℕ) (left : Option Symbol) (place : ℕ) (x : Entry) →
    slice_get o.entries.items place ≡ Some x → x.left ≡ code → low ≤ place → place < last
    → IsCoded edges o pick from first last low code left → IsHere edges pick from place x
coded_here edges o pick from first last low code left place x at same le lt is =
    let least : first ≤ low = is.cut.from in
    let end : last ≤ length edges = is.span.end in
    let (e, there) = some_at edges place (omega arith) in
    let entry : IsEntry edges e x = is.outline_is.entries place e x there at in
    record {
      edge = e;
      at = there;
      leaves = is.span.inside place e there (omega arith) lt;
      to_is = sym entry.to_is;
      picked = is.picked e (is.code_is e.label.left (sym entry.left_is ∙ same));
    }

pub left_below : (edges : List Edge) (left : Option Symbol) (place k : ℕ) →
    HasLeftBelow edges left (place + 1) k → HasLeftBelow edges left place k ⊎ (k ≡ place)
left_below edges left place k (has, below) = elim (below_or_at place k below) [
  | inl under ↦ inl (has, under)
  | inr it ↦ inr it
]

pub coded_more : (edges : List Edge) (o : Outline) (pick : Option Input)
    (from first last low code : ℕ) (left : Option Symbol) (states : List ℕ)
    (links : List Arrival) (states' : List ℕ) (links' : List Arrival) (states'' : List ℕ)
    (links'' : List Arrival) (place : ℕ) (x : Entry) →
    slice_get o.entries.items place ≡ Some x → x.left ≡ code → low ≤ place → place < last
    → ((edges : List Edge) (e : Edge) → slice_get edges place ≡ Some e → e.to ≡ x.to →
    picks pick e ≡ true → SpreadOne edges pick e.from (IsPlace place) states' links'
    states'' links'')
    → IsCoded edges o pick from first last low code left →
    SpreadOne edges pick from (HasLeftBelow edges left place) states links states' links'
    → SpreadOne edges pick from (HasLeftBelow edges left (place + 1)) states links states'' links''
coded_more edges o pick from first last low code left states links states' links' states'' links''
    place x at same le lt added is h =
    let e : IsHere edges pick from place x =
    coded_here edges o pick from first last low code left place x at same le lt is in
    spread_more edges pick from place e.edge (HasLeftBelow edges left place)
    (HasLeftBelow edges left (place + 1)) states links states' links' states'' links'' e.leaves
    (left_below edges left place) h (added edges e.edge e.at e.to_is e.picked)

-- No edge of the state follows.
pub all_below : (edges : List Edge) (o : Outline) (pick : Option Input)
    (from first last low code : ℕ) (left : Option Symbol) (place : ℕ) → last ≤ place →
    IsCoded edges o pick from first last low code left
    → (s j : ℕ) → Picked edges pick from s j → HasLeft edges left j → HasLeftBelow edges left place j
all_below edges o pick from first last low code left place end is s j p has = (
  has,
  (let lt : j < last = (is.span.outside j p.edge p.at (sym p.from_is)).1 in omega arith),
)

pub coded_over : (edges : List Edge) (o : Outline) (pick : Option Input)
    (from first last low code : ℕ) (left : Option Symbol) (states : List ℕ)
    (links : List Arrival) (states' : List ℕ) (links' : List Arrival) (place : ℕ) → last ≤ place →
    IsCoded edges o pick from first last low code left
    → SpreadOne edges pick from (HasLeftBelow edges left place) states links states' links' →
    SpreadOne edges pick from (HasLeft edges left) states links states' links'
coded_over edges o pick from first last low code left states links states' links' place end is h =
    spread_seen edges pick from (HasLeftBelow edges left place) (HasLeft edges left)
    states links states' links'
    (all_below edges o pick from first last low code left place end is) h

-- ---- which side a code is of

-- A part of rising codes rises, and where it is cut the whole is.
pub cut_within : (entries : List Entry) (first last low high code at : ℕ) → first ≤ low →
    (low < high → high ≤ last) →
    ((j : ℕ) (x : Entry) → slice_get entries j ≡ Some x → first ≤ j → j < low → x.left < code) →
    ((j : ℕ) (x : Entry) → slice_get entries j ≡ Some x → high ≤ j → j < last → code ≤ x.left) →
    Rises entries first last → (Rises entries low high → IsCut entries low high code at) →
    IsCut entries first last code at
cut_within entries first last low high code at from within before behind rises cut =
    let part : Rises entries low high =
    λ j k x y at_x at_y low_j le high_k. rises j k x y at_x at_y (omega arith) le
    (let lt : low < high = omega arith in let end : high ≤ last = within lt in omega arith) in
    let c : IsCut entries low high code at = cut part in
    let least : low ≤ at = c.from in
    record {
      from = omega arith;
      before = λ j x there low_j lt. elim (cases_lt j low) [
        | inl less ↦ before j x there low_j less
        | inr more ↦ c.before j x there more lt
      ];
      behind = λ j x there le lt. elim (cases_lt j high) [
        | inl less ↦ c.behind j x there le less
        | inr more ↦ behind j x there more lt
      ];
    }

pub code_of_letter : (c : ℕ) (side : Option Symbol) → c + 1 < 4294967295 →
    side_code side ≡ c + 1 → side ≡ Some (Letter c)
code_of_letter c None small h = absurd (omega arith)
code_of_letter c (Some (Letter d)) small h =
    let same : d ≡ c = omega arith in ap (λ (z : ℕ). Some (Letter z)) same
code_of_letter c (Some (Tag name)) small h = absurd (omega arith)
code_of_letter c (Some Blank) small h = absurd (omega arith)
code_of_letter c (Some Join) small h = absurd (omega arith)
code_of_letter c (Some Queue) small h = absurd (omega arith)
code_of_letter c (Some Alarm) small h = absurd (omega arith)
code_of_letter c (Some Star) small h = absurd (omega arith)
code_of_letter c (Some At) small h = absurd (omega arith)

pub code_of_none : (side : Option Symbol) → side_code side ≡ 0 → side ≡ None
code_of_none None h = refl
code_of_none (Some (Letter c)) h = absurd (omega arith)
code_of_none (Some (Tag name)) h = absurd (omega arith)
code_of_none (Some Blank) h = absurd (omega arith)
code_of_none (Some Join) h = absurd (omega arith)
code_of_none (Some Queue) h = absurd (omega arith)
code_of_none (Some Alarm) h = absurd (omega arith)
code_of_none (Some Star) h = absurd (omega arith)
code_of_none (Some At) h = absurd (omega arith)

pub letter_coded : (edges : List Edge) (o : Outline) (pick : Option Input)
    (from first last low c code : ℕ) (entries : List Entry) → code ≡ c + 1 → code < 4294967295 →
    entries ≡ o.entries.items → IsOutline edges o → Ascends edge_cmp edges →
    IsSpan edges from first last
    → (Rises entries first last → IsCut entries first last code low) →
    ((e : Edge) → e.label.left ≡ Some (Letter c) → picks pick e ≡ true)
    → IsCoded edges o pick from first last low code (Some (Letter c))
letter_coded edges o pick from first last low c code entries same small e is ascend span cut picked =
    let up : Rises entries first last = subst (λ (z : List Entry). Rises z first last) (sym e)
    (span_rises edges o from first last is ascend span) in
    record {
      outline_is = is;
      ascend = ascend;
      span = span;
      cut = subst (λ (z : List Entry). IsCut z first last code low) e (cut up);
      code_is = λ side h. code_of_letter c side (omega arith) (h ∙ same);
      left_is = sym same;
      picked = picked;
    }

pub silent_coded : (edges : List Edge) (o : Outline) (from first last : ℕ) → IsOutline edges o →
    Ascends edge_cmp edges → IsSpan edges from first last →
    IsCoded edges o None from first last first 0 None
silent_coded edges o from first last is ascend span = record {
  outline_is = is;
  ascend = ascend;
  span = span;
  cut = record {
    from = omega arith;
    before = λ j x at low high. absurd (omega arith);
    behind = λ j x at low high. omega arith;
  };
  code_is = λ side h. code_of_none side h;
  left_is = refl;
  picked = λ e h. ap is_empty_side h;
}

-- All that is picked has an empty left side.
pub silent_side : (edges : List Edge) (from s j : ℕ) → Picked edges None from s j → AnyPlace j →
    HasLeft edges None j
silent_side edges from s j p any =
    place_has edges None from s j None p (side_none p.edge.label.left p.passes)

pub silent_all : (edges : List Edge) (from : ℕ) (states : List ℕ) (links : List Arrival)
    (states' : List ℕ) (links' : List Arrival) →
    SpreadOne edges None from (HasLeft edges None) states links states' links'
    → SpreadOne edges None from AnyPlace states links states' links'
silent_all edges from states links states' links' h =
    spread_seen edges None from (HasLeft edges None) AnyPlace states links states' links'
    (silent_side edges from) h
