-- What is left where the useful states stay.
use Rattle.std.proofs.Common.{◌≡◌, inl, inr, ℕ, ◌+◌, ◌-◌, ◌<◌, ◌≤◌, max, zero, suc, List, [], ◌∷◌, ◌++◌, length, refl, sym, ◌∙◌, ap, subst, arith, Option, Some, None}
use Rattle.std.specs.Prelude.{◌↔◌, slice_get, IsTrue}
use Rattle.std.specs.List.{flat_map}
use Rattle.std.specs.Option.{option_to_list}
use Rattle.std.specs.Ordering.{nat_cmp, ordering_then}
use Rattle.std.specs.declared.cmp.Ordering.{Ordering}
use Rattle.std.specs.declared.cmp.Ordering.TheVariants.{Less}
use Rattle.std.proofs.lemmas.Bool.{cases_eq, cases_lt}
use Rattle.std.proofs.lemmas.Option.{same_Some, slice_get_within}
use Rattle.ap_fst.specs.Lists.{IsIn, Ascends}
use Rattle.ap_fst.specs.Order.{edge_cmp, label_cmp}
use Rattle.ap_fst.specs.Sides.{has_side}
use Rattle.ap_fst.specs.Graphs.{place_of}
use Rattle.ap_fst.specs.Machines.{Machine, IsMachine}
use Rattle.ap_fst.specs.Walks.{Walk, ends, goes, AcceptsLabels}
use Rattle.ap_fst.specs.Trimming.{IsReached, IsFinishing, IsUseful, IsTrimmed, IsTrimOf, edge_between, kept_edge, kept_state, trimmed_to}
use Rattle.ap_fst.specs.declared.label.Label.{Label}
use Rattle.ap_fst.specs.declared.label.Edge.{Edge}
use Rattle.ap_fst.proofs.Listing.{in_front, in_back, in_either, in_from_place, placed_in, IsPlaced}
use Rattle.ap_fst.proofs.PlaceLaws.{place_some, place_in, place_one, place_cmp, less_from_cmp}
use Rattle.ap_fst.proofs.WalkLaws.{walk_then, walk_edge, walk_within}

-- ---- lists made item by item

pub record IsMade {X Y : Type 0} (f : X → List Y) (y : Y) (xs : List X) : Type 0 where
  pub source : X
  pub listed : IsIn source xs
  pub made : IsIn y (f source)

pub in_flat : {X Y : Type 0} (f : X → List Y) (y : Y) (xs : List X) → IsIn y (flat_map f xs) →
    IsMade f y xs
in_flat f y [] h = elim h [ ]
in_flat f y (x ∷ xs) h =
    elim (in_either y (f x) (flat_map f xs) h) [
      | inl k ↦ record { source = x; listed = inl refl; made = k }
      | inr k ↦ let r : IsMade f y xs = in_flat f y xs k in
          record { source = r.source; listed = inr r.listed; made = r.made }
    ]

pub flat_in : {X Y : Type 0} (f : X → List Y) (y : Y) (x : X) (xs : List X) → IsIn x xs →
    IsIn y (f x) → IsIn y (flat_map f xs)
flat_in f y x [] i h = elim i [ ]
flat_in {X} {Y} f y x (z ∷ xs) (inl e) h =
    in_front y (f z) (flat_map f xs) (subst (λ (w : X). IsIn y (f w)) e h)
flat_in f y x (z ∷ xs) (inr i) h = in_back y (f z) (flat_map f xs) (flat_in f y x xs i h)

pub ascends_append : {X : Type 0} (cmp : X → X → Ordering) (xs ys : List X) → Ascends cmp xs →
    Ascends cmp ys → ((x y : X) → IsIn x xs → IsIn y ys → cmp x y ≡ Less) → Ascends cmp (xs ++ ys)
ascends_append cmp [] ys a b h = b
ascends_append cmp (x ∷ xs) ys a b h = (
  λ z i. elim (in_either z xs ys i) [ inl k ↦ a.0 z k | inr k ↦ h x z (inl refl) k ],
  ascends_append cmp xs ys a.1 b (λ u v i k. h u v (inr i) k),
)

pub ascends_flat : {X Y : Type 0} (cmp : X → X → Ordering) (cmp' : Y → Y → Ordering) (f : X →
    List Y) → ((x : X) → Ascends cmp' (f x))
    → ((x x' : X) (y y' : Y) → cmp x x' ≡ Less → IsIn y (f x) → IsIn y' (f x') → cmp' y y' ≡ Less) →
    (xs : List X) → Ascends cmp xs → Ascends cmp' (flat_map f xs)
ascends_flat cmp cmp' f each up [] a = tt
ascends_flat {X} {Y} cmp cmp' f each up (x ∷ xs) a =
    ascends_append cmp' (f x) (flat_map f xs) (each x)
    (ascends_flat cmp cmp' f each up xs a.1) (λ u v i k.
    let m : IsMade f v xs = in_flat f v xs k in up x m.source u v (a.0 m.source m.listed) i m.made)

pub flat_single : {X : Type 0} (f : X → List X) (xs : List X) → ((x : X) → IsIn x xs → f x ≡ x ∷ [])
    → flat_map f xs ≡ xs
flat_single f [] h = refl
flat_single f (x ∷ xs) h = ap (λ z. z ++ flat_map f xs) (h x (inl refl))
    ∙ ap (λ z. x ∷ z) (flat_single f xs (λ y i. h y (inr i)))

pub flat_none : {X Y : Type 0} (f : X → List Y) (xs : List X) → ((x : X) → f x ≡ []) →
    flat_map f xs ≡ []
flat_none f [] h = refl
flat_none f (x ∷ xs) h = ap (λ z. z ++ flat_map f xs) (h x) ∙ flat_none f xs h

-- ---- edges under new numbers

pub record IsRenumbered (states : List ℕ) (e n : Edge) : Type 0 where
  pub from_at : place_of states e.from ≡ Some n.from
  pub to_at : place_of states e.to ≡ Some n.to
  pub label_is : n.label ≡ e.label

between_in : (o p : Option ℕ) (l : Label) (n : Edge) → IsIn n (edge_between o p l) →
    (o ≡ Some n.from) × (p ≡ Some n.to) × (n.label ≡ l)
between_in None p l n h = elim h [ ]
between_in (Some i) None l n h = elim h [ ]
between_in (Some i) (Some j) l n (inl e) = (
  ap (λ (x : Edge). Some x.from) (sym e),
  ap (λ (x : Edge). Some x.to) (sym e),
  ap (λ (x : Edge). x.label) e,
)
between_in (Some i) (Some j) l n (inr h) = elim h [ ]

between_ascends : (o p : Option ℕ) (l : Label) → Ascends edge_cmp (edge_between o p l)
between_ascends None p l = tt
between_ascends (Some i) None l = tt
between_ascends (Some i) (Some j) l = ((λ y i. elim i [ ]), tt)

pub renumbered : (states : List ℕ) (e n : Edge) → IsIn n (kept_edge states e) →
    IsRenumbered states e n
renumbered states e n h = let r : (place_of states e.from ≡ Some n.from)
    × (place_of states e.to ≡ Some n.to) × (n.label ≡ e.label) =
    between_in (place_of states e.from) (place_of states e.to) e.label n h in
    record { from_at = r.0; to_at = r.1; label_is = r.2 }

pub kept_is : (states : List ℕ) (e : Edge) (i j : ℕ) → place_of states e.from ≡ Some i →
    place_of states e.to ≡ Some j →
    kept_edge states e ≡ (let n : Edge = record { from = i; label = e.label; to = j } in n) ∷ []
kept_is states e i j p q = ap (λ o. edge_between o (place_of states e.to) e.label) p
    ∙ ap (λ o. edge_between (Some i) o e.label) q

renumbered_cmp : (states : List ℕ) → Ascends nat_cmp states → (a b x y : Edge) →
    IsRenumbered states a x → IsRenumbered states b y → edge_cmp x y ≡ edge_cmp a b
renumbered_cmp states up a b x y r s =
    let f : nat_cmp x.from y.from ≡ nat_cmp a.from b.from =
    place_cmp states up a.from b.from x.from y.from r.from_at s.from_at in
    let t : nat_cmp x.to y.to ≡ nat_cmp a.to b.to =
    place_cmp states up a.to b.to x.to y.to r.to_at s.to_at in
    let l : label_cmp x.label y.label ≡ label_cmp a.label b.label =
    ap (λ z. label_cmp z y.label) r.label_is ∙ ap (λ z. label_cmp a.label z) s.label_is in
    ap (λ o. ordering_then o (ordering_then (label_cmp x.label y.label) (nat_cmp x.to y.to))) f
    ∙ ap (λ o. ordering_then (nat_cmp a.from b.from) (ordering_then o (nat_cmp x.to y.to))) l
    ∙ ap (λ o. ordering_then (nat_cmp a.from b.from)
    (ordering_then (label_cmp a.label b.label) o)) t

list_of_in : (o : Option ℕ) (n : ℕ) → IsIn n (option_to_list o) → o ≡ Some n
list_of_in None n h = elim h [ ]
list_of_in (Some i) n (inl e) = ap Some (sym e)
list_of_in (Some i) n (inr h) = elim h [ ]

list_of_ascends : (o : Option ℕ) → Ascends nat_cmp (option_to_list o)
list_of_ascends None = tt
list_of_ascends (Some i) = ((λ y i. elim i [ ]), tt)

listed_of : (o : Option ℕ) (n : ℕ) → o ≡ Some n → IsIn n (option_to_list o)
listed_of o n e = subst (λ (z : Option ℕ). IsIn n (option_to_list z)) (sym e) (inl refl)

low_number : (states : List ℕ) (s i : ℕ) → place_of states s ≡ Some i → i < max (length states) 1
low_number states s i p = let l : i < length states =
    slice_get_within states i s (place_some states s i p) in omega arith

-- ---- it is a transducer

pub trimmed_is_machine : (states : List ℕ) (m : Machine) → Ascends nat_cmp states → IsMachine m →
    IsMachine (trimmed_to states m)
trimmed_is_machine states m up ok = record {
  some = omega arith;
  edges_ascend = ascends_flat edge_cmp edge_cmp (kept_edge states)
      (λ e. between_ascends (place_of states e.from) (place_of states e.to) e.label)
      (λ a b x y less i k. renumbered_cmp states up a b x y (renumbered states a x i)
      (renumbered states b y k) ∙ less) m.edges ok.edges_ascend;
  finals_ascend = ascends_flat nat_cmp nat_cmp (kept_state states)
      (λ s. list_of_ascends (place_of states s))
      (λ a b x y less i k. place_cmp states up a b x y (list_of_in (place_of states a) x i)
      (list_of_in (place_of states b) y k) ∙ less) m.finals ok.finals_ascend;
  each = λ n i.
      let w : IsMade (kept_edge states) n m.edges = in_flat (kept_edge states) n m.edges i in
      let r : IsRenumbered states w.source n = renumbered states w.source n w.made in
      record {
        from_in = low_number states w.source.from n.from r.from_at;
        to_in = low_number states w.source.to n.to r.to_at;
        sided = subst (λ (l : Label). IsTrue (has_side l)) (sym r.label_is)
            (ok.each w.source w.listed).sided;
      };
  finals_in = λ s i.
      let w : IsMade (kept_state states) s m.finals = in_flat (kept_state states) s m.finals i in
      low_number states w.source s (list_of_in (place_of states w.source) s w.made);
}

-- ---- walks, from the new to the old

pub record IsOldWalk (m : Machine) (states : List ℕ) (s : ℕ) (w : List Label) (k : ℕ) : Type 0 where
  pub last : ℕ
  pub at : slice_get states k ≡ Some last
  pub walk : Walk m.edges s w last

pub old_walk : (states : List ℕ) (m : Machine) (i k s : ℕ) (w : List Label) →
    slice_get states i ≡ Some s → Walk (trimmed_to states m).edges i w k → IsOldWalk m states s w k
old_walk states m i k s w at (ends e) =
    record { last = s; at = subst (λ (x : ℕ). slice_get states x ≡ Some s) e at; walk = ends refl }
old_walk states m i k s w at (goes {labels = labels} j n here from whole rest) =
    let d : IsMade (kept_edge states) n m.edges =
    in_flat (kept_edge states) n m.edges (in_from_place (trimmed_to states m).edges j n here) in
    let r : IsRenumbered states d.source n = renumbered states d.source n d.made in
    let f : slice_get states n.from ≡ Some d.source.from =
    place_some states d.source.from n.from r.from_at in
    let same : s ≡ d.source.from =
    same_Some s d.source.from (sym at ∙ ap (slice_get states) from ∙ f) in
    let o : IsOldWalk m states d.source.to labels k =
    old_walk states m n.to k d.source.to labels
    (place_some states d.source.to n.to r.to_at) rest in
    let p : IsPlaced d.source m.edges = placed_in d.source m.edges d.listed in
    record {
      last = o.last;
      at = o.at;
      walk =
          goes p.place d.source p.at same (whole ∙ ap (λ l. l ∷ labels) r.label_is) o.walk;
    }

-- ---- walks, from the old to the new

pub record IsNewWalk (m : Machine) (states : List ℕ) (i : ℕ) (w : List Label) (t : ℕ) : Type 0 where
  pub last : ℕ
  pub at : place_of states t ≡ Some last
  pub walk : Walk (trimmed_to states m).edges i w last

pub new_walk : (states : List ℕ) (m : Machine) → ((s : ℕ) → IsUseful m s → IsIn s states) →
    (s t i : ℕ) (w : List Label) → IsReached m s → IsFinishing m t → place_of states s ≡ Some i →
    Walk m.edges s w t → IsNewWalk m states i w t
new_walk states m all s t i w r f at (ends e) =
    record { last = i; at = subst (λ (x : ℕ). place_of states x ≡ Some i) e at; walk = ends refl }
new_walk states m all s t i w r f at (goes {labels = labels} j e here from whole rest) =
    let listed : IsIn e m.edges = in_from_place m.edges j e here in
    let r' : IsReached m e.to =
    record {
      labels = r.labels ++ e.label ∷ [];
      walk =
          walk_edge m.edges 0 r.labels e listed
          (subst (λ (x : ℕ). Walk m.edges 0 r.labels x) from r.walk);
    } in
    let f' : IsFinishing m e.to =
    record {
      labels = labels ++ f.labels;
      last = f.last;
      final = f.final;
      walk =
          walk_then m.edges e.to t f.last labels f.labels rest f.walk;
    } in
    let (k, p) = place_in states e.to (all e.to (r', f')) in
    let o : IsNewWalk m states k labels t = new_walk states m all e.to t k labels r' f p rest in
    let n : Edge = record { from = i; label = e.label; to = k } in
    let q : IsIn n (kept_edge states e) =
    subst (λ (z : List Edge). IsIn n z)
    (sym (kept_is states e i k (sym (ap (place_of states) from) ∙ at) p)) (inl refl) in
    let g : IsPlaced n (trimmed_to states m).edges =
    placed_in n (trimmed_to states m).edges (flat_in (kept_edge states) n e m.edges listed q) in
    record { last = o.last; at = o.at; walk = goes g.place n g.at refl whole o.walk }

-- ---- the start

start_useful : (m : Machine) (s : ℕ) → IsUseful m s → IsUseful m 0
start_useful m s u =
    let r : IsReached m s = u.0 in
    let f : IsFinishing m s = u.1 in (
      record { labels = []; walk = ends refl },
      record {
        labels = r.labels ++ f.labels;
        last = f.last;
        final = f.final;
        walk =
            walk_then m.edges 0 s f.last r.labels f.labels r.walk f.walk;
      },
    )

first_is_start : (states : List ℕ) → Ascends nat_cmp states → IsIn 0 states →
    slice_get states 0 ≡ Some 0
first_is_start [] up i = elim i [ ]
first_is_start (x ∷ states) up (inl e) = ap Some (sym e)
first_is_start (x ∷ states) up (inr i) = let l : x < 0 = less_from_cmp x 0 (up.0 0 i) in
    absurd (omega arith)

module _ (states : List ℕ) (m : Machine) (up : Ascends nat_cmp states) (exactly : (s : ℕ) →
    IsIn s states ↔ IsUseful m s) where
  starts_at : (s : ℕ) → IsIn s states → slice_get states 0 ≡ Some 0
  starts_at s i = first_is_start states up ((exactly 0).1 (start_useful m s ((exactly s).0 i)))

  same_out : (w : List Label) → AcceptsLabels (trimmed_to states m) w → AcceptsLabels m w
  same_out w h =
      let d : IsMade (kept_state states) h.last m.finals =
      in_flat (kept_state states) h.last m.finals h.final in
      let p : place_of states d.source ≡ Some h.last =
      list_of_in (place_of states d.source) h.last d.made in
      let at : slice_get states h.last ≡ Some d.source = place_some states d.source h.last p in
      let o : IsOldWalk m states 0 w h.last =
      old_walk states m 0 h.last 0 w
      (starts_at d.source (in_from_place states h.last d.source at)) h.walk in
      let same : o.last ≡ d.source = same_Some o.last d.source (sym o.at ∙ at) in
      record {
        last = d.source;
        final = d.listed;
        walk =
            subst (λ (x : ℕ). Walk m.edges 0 w x) same o.walk;
      }

  same_in : (w : List Label) → AcceptsLabels m w → AcceptsLabels (trimmed_to states m) w
  same_in w h =
      let r : IsReached m 0 = record { labels = []; walk = ends refl } in
      let f : IsFinishing m h.last =
      record { labels = []; last = h.last; final = h.final; walk = ends refl } in
      let f0 : IsFinishing m 0 =
      record { labels = w; last = h.last; final = h.final; walk = h.walk } in
      let z : place_of states 0 ≡ Some 0 =
      place_one states up 0 0 (first_is_start states up ((exactly 0).1 (r, f0))) in
      let o : IsNewWalk m states 0 w h.last =
      new_walk states m (λ s u. (exactly s).1 u) 0 h.last 0 w r f z h.walk in
      record {
        last = o.last;
        final =
            flat_in (kept_state states) o.last h.last m.finals h.final
            (listed_of (place_of states h.last) o.last o.at);
        walk = o.walk;
      }

  pub same_labels : (w : List Label) → AcceptsLabels (trimmed_to states m) w ↔ AcceptsLabels m w
  same_labels w = (same_out w, same_in w)

  -- ---- trimmed

  new_reached : (n s : ℕ) → slice_get states n ≡ Some s → IsReached (trimmed_to states m) n
  new_reached n s at =
      let i : IsIn s states = in_from_place states n s at in
      let u : IsUseful m s = (exactly s).0 i in
      let r0 : IsReached m 0 = record { labels = []; walk = ends refl } in
      let z : place_of states 0 ≡ Some 0 = place_one states up 0 0 (starts_at s i) in
      let o : IsNewWalk m states 0 u.0.labels s =
      new_walk states m (λ t v. (exactly t).1 v) 0 s 0 u.0.labels r0 u.1 z u.0.walk in
      let same : o.last ≡ n = same_Some o.last n (sym o.at ∙ place_one states up n s at) in
      record {
        labels = u.0.labels;
        walk =
            subst (λ (x : ℕ). Walk (trimmed_to states m).edges 0 u.0.labels x) same o.walk;
      }

  new_finishing : (n s : ℕ) → slice_get states n ≡ Some s → IsFinishing (trimmed_to states m) n
  new_finishing n s at =
      let u : IsUseful m s = (exactly s).0 (in_from_place states n s at) in
      let f : IsFinishing m u.1.last =
      record { labels = []; last = u.1.last; final = u.1.final; walk = ends refl } in
      let o : IsNewWalk m states n u.1.labels u.1.last =
      new_walk states m (λ t v. (exactly t).1 v) s u.1.last n u.1.labels u.0 f
      (place_one states up n s at) u.1.walk in
      record {
        labels = u.1.labels;
        last = o.last;
        final =
            flat_in (kept_state states) o.last u.1.last m.finals u.1.final
            (listed_of (place_of states u.1.last) o.last o.at);
        walk = o.walk;
      }

found_at : (states : List ℕ) (n : ℕ) → n < length states → (s : ℕ) × (slice_get states n ≡ Some s)
found_at [] n h = absurd (omega arith)
found_at (x ∷ states) zero h = (x, refl)
found_at (x ∷ states) (suc n) h = found_at states n (omega arith)

nothing_left : (states : List ℕ) (m : Machine) → Ascends nat_cmp states →
    ((s : ℕ) → IsIn s states ↔ IsUseful m s) →
    ((w : List Label) → AcceptsLabels (trimmed_to states m) w → ⊥) →
    ((trimmed_to states m).states ≡ 1) × ((trimmed_to states m).edges ≡ [])
nothing_left [] m up exactly none = (refl, flat_none (kept_edge []) m.edges (λ e. refl))
nothing_left (x ∷ states) m up exactly none =
    let u : IsUseful m 0 = start_useful m x ((exactly x).0 (inl refl)) in
    let h : AcceptsLabels m u.1.labels =
    record { last = u.1.last; final = u.1.final; walk = u.1.walk } in
    absurd (none u.1.labels ((same_labels (x ∷ states) m up exactly u.1.labels).1 h))

pub trimmed_is_trimmed : (states : List ℕ) (m : Machine) → Ascends nat_cmp states →
    ((s : ℕ) → IsIn s states ↔ IsUseful m s) → IsTrimmed (trimmed_to states m)
trimmed_is_trimmed states m up exactly = record {
  reached = λ n pos low. let (s, at) = found_at states n (omega arith) in
      new_reached states m up exactly n s at;
  finishing = λ n pos low. let (s, at) = found_at states n (omega arith) in
      new_finishing states m up exactly n s at;
  nothing = nothing_left states m up exactly;
}

-- ---- a trimmed one is given back

in_order_at : (x : ℕ) (states : List ℕ) (a n k : ℕ) → x ≡ a → a + k < n →
    ((j : ℕ) → suc a + j < n → slice_get states j ≡ Some (suc a + j)) → slice_get (x ∷ states) k
    ≡ Some (a + k)
in_order_at x states a n zero same lt rest = ap Some (omega arith)
in_order_at x states a n (suc k) same lt rest = rest k (omega arith) ∙ ap Some (omega arith)

in_order : (states : List ℕ) (a n : ℕ) → Ascends nat_cmp states →
    ((s : ℕ) → IsIn s states → (a ≤ s) × (s < n)) → ((s : ℕ) → a ≤ s → s < n → IsIn s states) →
    (k : ℕ) → a + k < n → slice_get states k ≡ Some (a + k)
in_order [] a n up low all k lt = elim (all a (omega arith) (omega arith)) [ ]
in_order (x ∷ states) a n up low all k lt =
    let b : (a ≤ x) × (x < n) = low x (inl refl) in
    let same : x ≡ a = elim (all a (omega arith) (omega arith)) [
      | inl e ↦ sym e
      | inr i ↦
          let l : x < a = less_from_cmp x a (up.0 a i) in absurd (omega arith)
    ] in
    in_order_at x states a n k same lt
    (λ j g. in_order states (suc a) n up.1 (λ s i. let l : x < s = less_from_cmp x s (up.0 s i)
    in (omega arith, (low s (inr i)).1))
    (λ s g' h. elim (all s (omega arith) h) [ inl e ↦ absurd (omega arith) | inr i ↦ i ]) j g)

few : (states : List ℕ) (a n : ℕ) → Ascends nat_cmp states →
    ((s : ℕ) → IsIn s states → (a ≤ s) × (s < n)) → length states ≤ n - a
few [] a n up low = omega arith
few (x ∷ states) a n up low =
    let b : (a ≤ x) × (x < n) = low x (inl refl) in
    let r : length states ≤ n - suc x =
    few states (suc x) n up.1 (λ s i. let l : x < s = less_from_cmp x s (up.0 s i) in
    (omega arith, (low s (inr i)).1)) in
    omega arith

useful_within : (m : Machine) (s : ℕ) → IsMachine m → IsUseful m s → s < m.states
useful_within m s ok u = walk_within m 0 s u.0.labels ok ok.some u.0.walk

-- where all states are useful, each stands at its own place
all_useful : (states : List ℕ) (m : Machine) → Ascends nat_cmp states →
    ((s : ℕ) → IsIn s states ↔ IsUseful m s) → IsMachine m → ((s : ℕ) → s < m.states → IsUseful m s)
    → trimmed_to states m ≡ m
all_useful states m up exactly ok all =
    let order : (k : ℕ) → k < m.states → slice_get states k ≡ Some k =
    λ k lt. in_order states 0 m.states up
    (λ s i. (omega arith, useful_within m s ok ((exactly s).0 i)))
    (λ s le l. (exactly s).1 (all s l)) k (omega arith) ∙ ap Some (omega arith) in
    let own : (k : ℕ) → k < m.states → place_of states k ≡ Some k =
    λ k lt. place_one states up k k (order k lt) in
    let most : length states ≤ m.states - 0 =
    few states 0 m.states up (λ s i. (omega arith, useful_within m s ok ((exactly s).0 i))) in
    let pos : 0 < m.states = ok.some in
    let least : m.states - 1 < length states =
    slice_get_within states (m.states - 1) (m.states - 1)
    (order (m.states - 1) (omega arith)) in
    let n : max (length states) 1 ≡ m.states = omega arith in
    let es : flat_map (kept_edge states) m.edges ≡ m.edges =
    flat_single (kept_edge states) m.edges
    (λ e i. kept_is states e e.from e.to (own e.from (ok.each e i).from_in)
    (own e.to (ok.each e i).to_in)) in
    let fs : flat_map (kept_state states) m.finals ≡ m.finals =
    flat_single (kept_state states) m.finals
    (λ s i. ap option_to_list (own s (ok.finals_in s i))) in
    λ i. record { states = n i; edges = es i; finals = fs i }

no_finals : (xs : List ℕ) → ((s : ℕ) → IsIn s xs → ⊥) → xs ≡ []
no_finals [] h = refl
no_finals (x ∷ xs) h = absurd (h x (inl refl))

useful_at : (m : Machine) (s : ℕ) → IsUseful m 0 → IsTrimmed m → s < m.states → IsUseful m s
useful_at m zero z t lt = z
useful_at m (suc s) z t lt =
    (t.reached (suc s) (omega arith) lt, t.finishing (suc s) (omega arith) lt)

pub trimmed_back : (states : List ℕ) (m : Machine) → Ascends nat_cmp states →
    ((s : ℕ) → IsIn s states ↔ IsUseful m s) → IsMachine m → IsTrimmed m → trimmed_to states m ≡ m
trimmed_back [] m up exactly ok t =
    let none : (w : List Label) → AcceptsLabels m w → ⊥ = λ w h.
    elim ((exactly 0).1 (
      record { labels = []; walk = ends refl },
      record { labels = w; last = h.last; final = h.final; walk = h.walk },
    )) [ ] in
    let one : (m.states ≡ 1) × (m.edges ≡ []) = t.nothing none in
    let fs : m.finals ≡ [] = no_finals m.finals (λ s i.
    let low : s < m.states = ok.finals_in s i in
    let z : 0 ≡ s = omega arith in
    none [] (record { last = s; final = i; walk = ends z })) in
    let es : flat_map (kept_edge []) m.edges ≡ m.edges = ap (flat_map (kept_edge [])) one.1
    ∙ sym one.1 in
    let gs : flat_map (kept_state []) m.finals ≡ m.finals =
    ap (flat_map (kept_state [])) fs ∙ sym fs in
    let n : max 0 1 ≡ m.states = sym one.0 in
    λ i. record { states = n i; edges = es i; finals = gs i }
trimmed_back (x ∷ states) m up exactly ok t =
    let z : IsUseful m 0 = start_useful m x ((exactly x).0 (inl refl)) in
    all_useful (x ∷ states) m up exactly ok (λ s lt. useful_at m s z t lt)

above_other : (x s : ℕ) → x ≤ s → (x ≡ s → ⊥) → x < s
above_other x s le d = elim (cases_lt x s) [
  | inl l ↦ l
  | inr k ↦
      let e : x ≡ s = omega arith in absurd (d e)
]

-- numbers from a on and below n, as many as there are: each of them
each_in : (states : List ℕ) (a n : ℕ) → Ascends nat_cmp states →
    ((s : ℕ) → IsIn s states → (a ≤ s) × (s < n)) → n - a ≤ length states →
    (s : ℕ) → a ≤ s → s < n → IsIn s states
each_in [] a n up low many s le lt = absurd (omega arith)
each_in (x ∷ states) a n up low many s le lt =
    let b : (a ≤ x) × (x < n) = low x (inl refl) in
    let above : (t : ℕ) → IsIn t states → (suc x ≤ t) × (t < n) =
    λ t i. let l : x < t = less_from_cmp x t (up.0 t i) in (omega arith, (low t (inr i)).1) in
    let f : length states ≤ n - suc x = few states (suc x) n up.1 above in
    let le' : x ≤ s = omega arith in
    elim (cases_eq x s) [
      | inl e ↦ inl (sym e)
      | inr d ↦
          let apart : x < s = above_other x s le' d in
          inr (each_in states (suc x) n up.1 above (omega arith) s (omega arith) lt)
    ]

-- as many states as there are: all are useful, and the transducer is what is left of it
pub all_kept : (states : List ℕ) (m : Machine) → Ascends nat_cmp states →
    ((s : ℕ) → IsIn s states ↔ IsUseful m s) → IsMachine m → length states ≡ m.states →
    m ≡ trimmed_to states m
all_kept states m up exactly ok many = sym (all_useful states m up exactly ok (λ s lt.
    (exactly s).0 (each_in states 0 m.states up
    (λ t i. (omega arith, useful_within m t ok ((exactly t).0 i))) (omega arith) s (omega arith) lt)))

pub trim_made : (m made : Machine) (states first second : List ℕ) (es : List Edge) (fs : List ℕ)
    (k : ℕ) → first ≡ states → second ≡ states → es ≡ m.edges → fs ≡ m.finals → length first ≡ k
    → made.states ≡ max k 1 → made.edges ≡ flat_map (kept_edge first) es →
    made.finals ≡ flat_map (kept_state second) fs → made ≡ trimmed_to states m
trim_made m made states first second es fs k a b e f n ns nes nfs =
    let x : made.states ≡ max (length states) 1 = ns ∙ ap (λ z. max z 1) (sym n ∙ ap length a) in
    let y : made.edges ≡ flat_map (kept_edge states) m.edges =
    nes ∙ ap (λ z. flat_map (kept_edge z) es) a ∙ ap (flat_map (kept_edge states)) e in
    let z : made.finals ≡ flat_map (kept_state states) m.finals =
    nfs ∙ ap (λ z. flat_map (kept_state z) fs) b ∙ ap (flat_map (kept_state states)) f in
    λ i. record { states = x i; edges = y i; finals = z i }

pub trim_same : (m made : Machine) (states : List ℕ) → made ≡ trimmed_to states m →
    Ascends nat_cmp states → ((s : ℕ) → IsIn s states ↔ IsUseful m s) → (w : List Label) →
    AcceptsLabels made w ↔ AcceptsLabels m w
trim_same m made states e up exactly w = let P : Machine → Type 0 =
    λ z. AcceptsLabels z w ↔ AcceptsLabels m w in
    subst P (sym e) (same_labels states m up exactly w)

-- what holds of a transducer of which the useful states stay
pub record IsWellTrimmed (m made : Machine) : Type 0 where
  pub same : (w : List Label) → AcceptsLabels made w ↔ AcceptsLabels m w
  pub trimmed : IsTrimmed made
  pub exact : IsTrimOf m made
  pub unchanged : IsTrimmed m → made ≡ m

pub well_trimmed : (states : List ℕ) (m made : Machine) → Ascends nat_cmp states →
    ((s : ℕ) → IsIn s states ↔ IsUseful m s) → IsMachine m → made ≡ trimmed_to states m →
    IsWellTrimmed m made
well_trimmed states m made up exactly ok e =
    record {
      same = trim_same m made states e up exactly;
      trimmed = subst IsTrimmed (sym e) (trimmed_is_trimmed states m up exactly);
      exact = record { states = states; ascend = up; exactly = exactly; is = e };
      unchanged = λ t. e ∙ trimmed_back states m up exactly ok t;
    }
