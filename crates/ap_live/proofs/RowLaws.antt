use Rattle.std.proofs.Common.{◌≡◌, ◌⊎◌, inl, inr, ℕ, ◌+◌, ◌<◌, Bool, true, nat_eq, List, [], ◌∷◌, ◌++◌, refl, sym, ◌∙◌, ap, subst, arith, Some, None, slice_get, length, take, suc, zero, length-append, ◌-◌, ◌≤◌}
use Rattle.std.proofs.lemmas.List.{take-append-le}
use Rattle.std.proofs.lemmas.Bool.Decides.{nat_tests}
use Rattle.std.specs.Prelude.{◌↔◌}
use Rattle.std.proofs.Math.Seq.{take-length}
use Rattle.ap_fst.specs.Lists.{IsIn}
use Rattle.ap_fst.specs.Machines.{Machine}
use Rattle.std.specs.Prelude.{IsTrue}
use Rattle.std.proofs.lemmas.List.{length-take-le}
use Rattle.std.proofs.lemmas.Option.{none-some}
use Rattle.ap_fst.specs.declared.label.Edge.{Edge}
use Rattle.ap_live.specs.Fitting.{Input}
use Rattle.ap_live.specs.Spreads.{arrival, Picked, Spread, PickedFrom, From, given, onward, Closed}
use Rattle.ap_live.specs.Rows.{Reach, begin, silent, taken, EntersSilently, EntersTaking, IsRow, IsFirst, IsNext, AreRows, AreLiveRows, Tells}
use Rattle.ap_live.specs.declared.arrivals.Arrival.{Arrival}
use Rattle.ap_live.specs.declared.rows.Row.{Row}
use Rattle.ap_live.proofs.Spreading.{in_front}

pub no_snoc : {X : Type 0} (xs : List X) (x : X) → xs ++ x ∷ [] ≡ [] → ⊥
no_snoc [] x e = cc
no_snoc (y ∷ ys) x e = cc

-- two lists with one more at the end
pub snoc_parts : {X : Type 0} (xs ys : List X) (x y : X) → xs ++ x ∷ [] ≡ ys ++ y ∷ [] →
    (xs ≡ ys) × (x ≡ y)
snoc_parts [] [] x y e = (refl, cc)
snoc_parts {X} [] (b ∷ bs) x y e = let t : [] ≡ bs ++ y ∷ [] = cc in absurd (no_snoc bs y (sym t))
snoc_parts {X} (a ∷ xs) [] x y e = let t : xs ++ x ∷ [] ≡ [] = cc in absurd (no_snoc xs x t)
snoc_parts {X} (a ∷ xs) (b ∷ bs) x y e =
    let t : xs ++ x ∷ [] ≡ bs ++ y ∷ [] = cc in
    let h : a ≡ b = cc in
    let p : (xs ≡ bs) × (x ≡ y) = snoc_parts xs bs x y t in
    let q : xs ≡ bs = p.0 in
    (cc, p.1)

-- what is reached by empty edges from reached states is reached
reach_from : (edges : List Edge) (base : List ℕ) (seen : List Input) (s : ℕ) →
    ((x : ℕ) → IsIn x base → Reach edges seen x) → From edges base s → Reach edges seen s
reach_from edges base seen s sound (given i) = sound s i
reach_from edges base seen s sound (onward f j p more) =
    silent f j p (reach_from edges base seen f sound more)

base_reached : (edges : List Edge) (seen : List Input) (input : Input) (last : Row) (base : List ℕ)
    (links : List Arrival) → IsRow edges seen last →
    Spread edges (Some input) last.states.items [] [] base links
    → (x : ℕ) → IsIn x base → Reach edges (seen ++ input ∷ []) x
base_reached edges seen input last base links row h x i =
    let (j, p) = h.sound x (subst (λ (xs : List ℕ). IsIn x xs) h.grown i) in
    taken seen input p.from j p.picked refl (row.sound p.from p.listed)

in_closed : (edges : List Edge) (base : List ℕ) (links : List Arrival) (states' : List ℕ)
    (links' : List Arrival) (s : ℕ) → Closed edges base links states' links' → IsIn s base →
    IsIn s states'
in_closed edges base links states' links' s h i =
    subst (λ (xs : List ℕ). IsIn s xs) (sym h.spread.grown) (in_front s base h.spread.more i)

next_complete : (edges : List Edge) (seen whole : List Input) (input : Input) (last row : Row)
    (s : ℕ) → IsRow edges seen last → IsNext edges (Some input) last.states.items row →
    whole ≡ seen ++ input ∷ []
    → Reach edges whole s → IsIn s row.states.items
next_complete edges seen whole input last row s is next w (begin e z) =
    absurd (no_snoc seen input (sym w ∙ e))
next_complete edges seen whole input last row s is next w (silent f j p more) =
    let q : PickedFrom edges None row.states.items s j =
    record {
      from = f;
      listed = next_complete edges seen whole input last row f is next w more;
      picked = p;
    } in
    (next.closed.spread.complete s j q).0
next_complete edges seen whole input last row s is next w (taken before input' f j p e more) =
    let parts : (before ≡ seen) × (input' ≡ input) =
    snoc_parts before seen input' input (sym e ∙ w) in
    let p' : Picked edges (Some input) f s j =
    subst (λ (x : Input). Picked edges (Some x) f s j) parts.1 p in
    let more' : Reach edges seen f = subst (λ (x : List Input). Reach edges x f) parts.0 more in
    let q : PickedFrom edges (Some input) last.states.items s j =
    record { from = f; listed = is.complete f more'; picked = p' } in
    in_closed edges next.base [] row.states.items row.silent.items s next.closed
    (next.taken.complete s j q).0

-- by empty edges from the states of the row itself
closed_sound : (edges : List Edge) (seen : List Input) (base : List ℕ) (row : Row) (a : Arrival) →
    Closed edges base [] row.states.items row.silent.items →
    ((x : ℕ) → IsIn x row.states.items → Reach edges seen x) → IsIn a row.silent.items
    → EntersSilently edges seen a.to a.edge
closed_sound edges seen base row a c sound i =
    elim (c.spread.links_sound a i) [
      | inl none ↦ elim none [ ]
      | inr p ↦ record { from = p.from; picked = p.picked; reached = sound p.from p.listed }
    ]

closed_complete : (edges : List Edge) (seen : List Input) (base : List ℕ) (row : Row) (s j : ℕ) →
    Closed edges base [] row.states.items row.silent.items →
    ((x : ℕ) → Reach edges seen x → IsIn x row.states.items) → EntersSilently edges seen s j
    → IsIn (arrival s j) row.silent.items
closed_complete edges seen base row s j c complete e =
    let q : PickedFrom edges None row.states.items s j =
    record { from = e.from; listed = complete e.from e.reached; picked = e.picked } in
    (c.spread.complete s j q).1

next_taken : (edges : List Edge) (seen : List Input) (input : Input) (last row : Row) (a : Arrival)
    → IsRow edges seen last → IsNext edges (Some input) last.states.items row →
    IsIn a row.taken.items → EntersTaking edges (seen ++ input ∷ []) a.to a.edge
next_taken edges seen input last row a is next i =
    elim (next.taken.links_sound a i) [
      | inl none ↦ elim none [ ]
      | inr p ↦ record {
        before = seen;
        input = input;
        from = p.from;
        whole = refl;
        picked =
            p.picked;
        reached = is.sound p.from p.listed;
      }
    ]

next_taken_complete : (edges : List Edge) (seen : List Input) (input : Input) (last row : Row)
    (s j : ℕ) → IsRow edges seen last → IsNext edges (Some input) last.states.items row →
    EntersTaking edges (seen ++ input ∷ []) s j → IsIn (arrival s j) row.taken.items
next_taken_complete edges seen input last row s j is next e =
    let parts : (e.before ≡ seen) × (e.input ≡ input) =
    snoc_parts e.before seen e.input input (sym e.whole) in
    let p' : Picked edges (Some input) e.from s j =
    subst (λ (x : Input). Picked edges (Some x) e.from s j) parts.1 e.picked in
    let more' : Reach edges seen e.from =
    subst (λ (x : List Input). Reach edges x e.from) parts.0 e.reached in
    let q : PickedFrom edges (Some input) last.states.items s j =
    record { from = e.from; listed = is.complete e.from more'; picked = p' } in
    (next.taken.complete s j q).1

pub next_is_row : (edges : List Edge) (seen : List Input) (input : Input) (last row : Row) →
    IsRow edges seen last → IsNext edges (Some input) last.states.items row →
    IsRow edges (seen ++ input ∷ []) row
next_is_row edges seen input last row is next =
    let sound : (x : ℕ) → IsIn x row.states.items → Reach edges (seen ++ input ∷ []) x =
    λ x i. reach_from edges next.base (seen ++ input ∷ []) x
    (base_reached edges seen input last next.base row.taken.items is next.taken)
    (next.closed.sound x i) in
    let complete : (s : ℕ) → Reach edges (seen ++ input ∷ []) s → IsIn s row.states.items =
    λ s r. next_complete edges seen (seen ++ input ∷ []) input last row s is next refl r in
    record {
      sound = sound;
      complete = complete;
      taken_sound = λ a i. next_taken edges seen input last row a is next i;
      taken_complete = λ s j e. next_taken_complete edges seen input last row s j is next e;
      silent_sound = λ a i. closed_sound edges (seen ++ input ∷ []) next.base row a
          next.closed sound i;
      silent_complete = λ s j e. closed_complete edges (seen ++ input ∷ []) next.base row s j
          next.closed complete e;
    }

first_complete : (edges : List Edge) (whole : List Input) (row : Row) (s : ℕ) →
    Closed edges (0 ∷ []) [] row.states.items row.silent.items → whole ≡ [] → Reach edges whole s →
    IsIn s row.states.items
first_complete edges whole row s c w (begin e z) =
    in_closed edges (0 ∷ []) [] row.states.items row.silent.items s c (inl z)
first_complete edges whole row s c w (silent f j p more) =
    let q : PickedFrom edges None row.states.items s j =
    record { from = f; listed = first_complete edges whole row f c w more; picked = p } in
    (c.spread.complete s j q).0
first_complete edges whole row s c w (taken before input f j p e more) =
    absurd (no_snoc before input (sym e ∙ w))

pub first_is_row : (edges : List Edge) (row : Row) → IsFirst edges row → IsRow edges [] row
first_is_row edges row first =
    let c : Closed edges (0 ∷ []) [] row.states.items row.silent.items = first.closed in
    let sound : (x : ℕ) → IsIn x row.states.items → Reach edges [] x =
    λ x i. reach_from edges (0 ∷ []) [] x
    (λ y k. elim k [ inl z ↦ begin refl z | inr z ↦ elim z [ ] ]) (c.sound x i) in
    let complete : (s : ℕ) → Reach edges [] s → IsIn s row.states.items =
    λ s r. first_complete edges [] row s c refl r in
    record {
      sound = sound;
      complete = complete;
      taken_sound = λ a i. elim (subst (λ (z : List Arrival). IsIn a z) first.taken i) [ ];
      taken_complete = λ s j e. absurd (no_snoc e.before e.input (sym e.whole));
      silent_sound = λ a i. closed_sound edges [] (0 ∷ []) row a c sound i;
      silent_complete = λ s j e. closed_complete edges [] (0 ∷ []) row s j c complete e;
    }

-- the last row
pub last_row : (edges : List Edge) (seen : List Input) (rows : List Row) (row : Row) (k : ℕ) →
    AreRows edges seen rows → k + 1 ≡ length rows → slice_get rows k ≡ Some row →
    IsRow edges seen row
last_row edges seen rows row k live n at =
    let c : length rows ≡ length seen + 1 = live.count in
    let same : take k seen ≡ seen =
    ap (λ i. take i seen) (let e : k ≡ length seen = omega arith in e) ∙ take-length seen in
    subst (λ (x : List Input). IsRow edges x row) same (live.each k row at)

pub snoc_get : {X : Type 0} (xs : List X) (x y : X) (k : ℕ) → slice_get (xs ++ x ∷ []) k ≡ Some y →
    ((k < length xs) × (slice_get xs k ≡ Some y)) ⊎ ((k ≡ length xs) × (x ≡ y))
snoc_get [] x y zero h = inr (refl, cc)
snoc_get [] x y (suc k) h = cc
snoc_get (z ∷ xs) x y zero h = inl (omega arith, h)
snoc_get (z ∷ xs) x y (suc k) h =
    elim (snoc_get xs x y k h) [
      | inl (a, b) ↦ inl (omega arith, b)
      | inr (a, b) ↦
          inr (omega arith, b)
    ]

pub live_pushed : (edges : List Edge) (seen : List Input) (input : Input) (rows rows' : List Row)
    (last row : Row) → AreRows edges seen rows → IsRow edges seen last → rows' ≡ rows ++ row ∷ []
    → IsNext edges (Some input) last.states.items row → AreRows edges (seen ++ input ∷ []) rows'
live_pushed edges seen input rows rows' last row live is e next = record {
  count = let c : length rows ≡ length seen + 1 = live.count in
      omega (
        arith,
        ap (length {A = Row}) e,
        length-append rows (row ∷ []),
        length-append seen (input ∷ []),
      );
  each = λ k r at. elim (snoc_get rows row r k (ap (λ x. slice_get x k) (sym e) ∙ at)) [
    | inl (a, b) ↦ let c : length rows ≡ length seen + 1 = live.count in
        subst (λ (x : List Input). IsRow edges x r)
        (sym (take-append-le k seen (input ∷ []) (omega arith))) (live.each k r b)
    | inr (a, b) ↦ let c : length rows ≡ length seen + 1 = live.count in
        let n : k ≡ length (seen ++ input ∷ []) = omega (arith, length-append seen (input ∷ [])) in
        let whole : take k (seen ++ input ∷ []) ≡ seen ++ input ∷ [] =
        ap (λ i. take i (seen ++ input ∷ [])) n ∙ take-length (seen ++ input ∷ []) in
        subst (λ (x : List Input). IsRow edges x r) (sym whole)
        (subst (λ (x : Row). IsRow edges (seen ++ input ∷ []) x) b
        (next_is_row edges seen input last row is next))
  ];
}

nothing_taken : (k : ℕ) → [] ≡ take k (let none : List Input = [] in none)
nothing_taken zero = refl
nothing_taken (suc k) = refl

pub live_first : (edges : List Edge) (rows before : List Row) (row : Row) → IsFirst edges row →
    before ≡ [] → rows ≡ before ++ row ∷ [] → AreRows edges [] rows
live_first edges rows before row c none e =
    let e' : rows ≡ row ∷ [] = e ∙ ap (λ x. x ++ row ∷ []) none in
    subst (λ (x : List Row). AreRows edges [] x) (sym e') (record {
      count = refl;
      each = λ k r at. elim (snoc_get [] row r k at) [
        | inl (a, b) ↦ absurd (omega arith)
        | inr (a, b) ↦ subst (λ (x : List Input). IsRow edges x r) (nothing_taken k)
            (subst (λ (x : Row). IsRow edges [] x) b (first_is_row edges row c))
      ];
    })

-- the last row, as the code reads it
pub last_read : (edges : List Edge) (seen : List Input) (rows inside slice : List Row) (last : Row)
    → AreRows edges seen rows → inside ≡ rows → slice ≡ inside →
    Some last ≡ slice_get slice (length slice - 1) → IsRow edges seen last
last_read edges seen rows inside slice last live v d at =
    let same : slice ≡ rows = d ∙ v in
    let c : length rows ≡ length seen + 1 = live.count in
    let at' : slice_get rows (length rows - 1) ≡ Some last =
    ap (λ x. slice_get x (length x - 1)) (sym same) ∙ sym at in
    last_row edges seen rows last (length rows - 1) live (omega arith) at'

pub step_law : (edges : List Edge) (seen : List Input) (input : Input)
    (rows inside slice rows' : List Row) (last row : Row) (froms : List ℕ) →
    AreRows edges seen rows → inside ≡ rows → slice ≡ inside
    → Some last ≡ slice_get slice (length slice - 1) → froms ≡ last.states.items →
    IsNext edges (Some input) froms row → rows' ≡ inside ++ row ∷ [] →
    AreRows edges (seen ++ input ∷ []) rows'
step_law edges seen input rows inside slice rows' last row froms live v d at f next e =
    live_pushed edges seen input rows rows' last row live
    (last_read edges seen rows inside slice last live v d at) (e ∙ ap (λ x. x ++ row ∷ []) v)
    (subst (λ (x : List ℕ). IsNext edges (Some input) x row) f next)

none_in : (xs : List ℕ) → length xs ≡ 0 → (s : ℕ) → IsIn s xs → ⊥
none_in [] e s i = elim i [ ]
none_in (x ∷ xs) e s i = absurd (omega arith)

empty_of : (xs : List ℕ) → ((s : ℕ) → IsIn s xs → ⊥) → length xs ≡ 0
empty_of [] h = refl
empty_of (x ∷ xs) h = absurd (h x (inl refl))

pub dead_law : (edges : List Edge) (seen : List Input) (row : Row) (answer : Bool) →
    IsRow edges seen row → answer ≡ nat_eq (length row.states.items) 0 →
    (answer ≡ true) ↔ ((s : ℕ) → Reach edges seen s → ⊥)
dead_law edges seen row answer is e = (
  (λ t s r. none_in row.states.items (grind (arith, nat_tests, sym e ∙ t)) s (is.complete s r)),
  (λ h. let z : length row.states.items ≡ 0 = empty_of row.states.items (λ s i. h s (is.sound s i))
      in e ∙ grind (arith, nat_tests)),
)

pub final_law : (m : Machine) (seen : List Input) (row : Row) (answer : Bool) →
    IsRow m.edges seen row → IsTrue answer ↔ ((s : ℕ) × (IsIn s row.states.items × IsIn s m.finals))
    → IsTrue answer ↔ ((s : ℕ) × (Reach m.edges seen s × IsIn s m.finals))
final_law m seen row answer is h = (
  (λ t. let (s, (i, f)) = h.0 t in (s, (is.sound s i, f))),
  (λ (s, (r, f)). h.1 (s, (is.complete s r, f))),
)

pub get_taken : {X : Type 0} (xs : List X) (n k : ℕ) (x : X) → slice_get (take n xs) k ≡ Some x →
    (slice_get xs k ≡ Some x) × (k < n)
get_taken [] zero k x h = absurd (none-some x h)
get_taken [] (suc n) k x h = absurd (none-some x h)
get_taken (y ∷ xs) zero k x h = absurd (none-some x h)
get_taken (y ∷ xs) (suc n) zero x h = (h, omega arith)
get_taken (y ∷ xs) (suc n) (suc k) x h = let (a, b) = get_taken xs n k x h in (a, omega arith)

pub take_taken : {X : Type 0} (xs : List X) (n k : ℕ) → k ≤ n → take k (take n xs) ≡ take k xs
take_taken [] zero zero h = refl
take_taken [] zero (suc k) h = refl
take_taken [] (suc n) zero h = refl
take_taken [] (suc n) (suc k) h = refl
take_taken (x ∷ xs) zero zero h = refl
take_taken (x ∷ xs) zero (suc k) h = absurd (omega arith)
take_taken (x ∷ xs) (suc n) zero h = refl
take_taken (x ∷ xs) (suc n) (suc k) h = ap (λ z. x ∷ z) (take_taken xs n k (omega arith))

pub rows_cut : (edges : List Edge) (seen : List Input) (rows rows' : List Row) (n : ℕ) →
    n < length rows → rows' ≡ take (n + 1) rows → AreRows edges seen rows →
    AreRows edges (take n seen) rows'
rows_cut edges seen rows rows' n lt e live =
    let c : length rows ≡ length seen + 1 = live.count in
    let long : length (take (n + 1) rows) ≡ n + 1 = length-take-le (n + 1) rows (omega arith) in
    let few : length (take n seen) ≡ n = length-take-le n seen (omega arith) in
    let long' : length rows' ≡ length (take (n + 1) rows) = ap (length {A = Row}) e in
    record {
      count = omega arith;
      each = λ k row at.
          let g = get_taken rows (n + 1) k row
          (ap (λ (z : List Row). slice_get z k) (sym e) ∙ at) in
          let low : k < n + 1 = g.1 in
          subst (λ (z : List Input). IsRow edges z row) (sym (take_taken seen n k (omega arith)))
          (live.each k row g.0);
    }

-- ---- the rows of a transducer

pub live_begun : (m : Machine) (rows before : List Row) (row : Row) → IsFirst m.edges row →
    Tells m.finals row → before ≡ [] → rows ≡ before ++ row ∷ [] → AreLiveRows m [] rows
live_begun m rows before row first tells none e = record {
  rows_are = live_first m.edges rows before row first none e;
  told = λ at x h. elim (snoc_get before row x at
      (ap (λ (z : List Row). slice_get z at) (sym e) ∙ h)) [
        | inl (a, b) ↦ absurd (none-some x (ap (λ (z : List Row). slice_get z at) (sym none) ∙ b))
        | inr (a, b) ↦ subst (λ (z : Row). Tells m.finals z) b tells
      ];
}

pub live_stepped : (m : Machine) (seen : List Input) (input : Input) (rows rows' : List Row)
    (last row : Row) → Some last ≡ slice_get rows (length rows - 1) →
    IsNext m.edges (Some input) last.states.items row → Tells m.finals row →
    rows' ≡ rows ++ row ∷ [] → AreLiveRows m seen rows → AreLiveRows m (seen ++ input ∷ []) rows'
live_stepped m seen input rows rows' last row there next tells e are = record {
  rows_are = step_law m.edges seen input rows rows rows rows' last row last.states.items
      are.rows_are refl refl there refl next e;
  told = λ at x h. elim (snoc_get rows row x at
      (ap (λ (z : List Row). slice_get z at) (sym e) ∙ h)) [
        | inl (a, b) ↦ are.told at x b
        | inr (a, b) ↦ subst (λ (z : Row). Tells m.finals z) b tells
      ];
}

pub live_cut : (m : Machine) (seen : List Input) (rows rows' : List Row) (n : ℕ) →
    n < length rows → rows' ≡ take (n + 1) rows → AreLiveRows m seen rows →
    AreLiveRows m (take n seen) rows'
live_cut m seen rows rows' n lt e are = record {
  rows_are = rows_cut m.edges seen rows rows' n lt e are.rows_are;
  told = λ at x h. are.told at x (get_taken rows (n + 1) at x
      (ap (λ (z : List Row). slice_get z at) (sym e) ∙ h)).0;
}

pub live_as : (m : Machine) (seen : List Input) (rows seen_as : List Row) → seen_as ≡ rows →
    AreLiveRows m seen rows → AreLiveRows m seen seen_as
live_as m seen rows seen_as e are = subst (λ (z : List Row). AreLiveRows m seen z) (sym e) are
