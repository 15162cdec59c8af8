-- What is made of all pairs accepts what is kept.
use Rattle.std.proofs.Common.{◌≡◌, inl, inr, ◌⊎◌, ℕ, ◌+◌, ◌<◌, ◌≤◌, true, eqb, Bool, List, [], ◌∷◌, ◌++◌, length, refl, sym, ◌∙◌, ap, subst, arith, append_assoc, append-nil, Some}
use Rattle.std.specs.Prelude.{slice_get, IsTrue}
use Rattle.std.specs.List.{filter}
use Rattle.std.specs.Option.{option_to_list}
use Rattle.std.specs.Ordering.{nat_cmp, ordering_then}
use Rattle.std.specs.declared.cmp.Ordering.{Ordering}
use Rattle.std.specs.declared.cmp.Ordering.TheVariants.{Less, Equal, Greater}
use Rattle.std.proofs.lemmas.Bool.{cases_lt, cases_Bool, cond-true, cond-false}
use Rattle.std.proofs.lemmas.Bool.Decides.{nat_tests}
use Rattle.std.proofs.lemmas.Option.{same_Some, slice_get_within}
use Rattle.ap_symbol.specs.declared.symbol.Symbol.{Symbol}
use Rattle.ap_fst.specs.Lists.{IsIn, Ascends}
use Rattle.ap_fst.specs.Machines.{Machine, IsMachine, edge_from, edges_of}
use Rattle.ap_fst.specs.Order.{label_cmp, edge_cmp}
use Rattle.ap_fst.specs.Sides.{right_word, has_side}
use Rattle.ap_fst.specs.Walks.{Walk, ends, goes, AcceptsLabels}
use Rattle.ap_fst.specs.declared.label.Label.{Label}
use Rattle.ap_fst.specs.declared.label.Edge.{Edge}
use Rattle.ap_fst.proofs.Listing.{in_either, in_front, in_back, in_from_place, placed_in, IsPlaced, in_filter, filter_in, IsKept, ascends_push}
use Rattle.ap_fst.proofs.OrderLaws.{label_equal}
use Rattle.ap_fst.proofs.PlaceLaws.{cmp_less, cmp_same, less_from_cmp}
use Rattle.ap_fst.proofs.Trims.{ascends_append}
use Rattle.ap_det.specs.Determinism.{IsDeterministic}
use Rattle.ap_det.specs.Subsets.{start_cmp}
use Rattle.ap_trim.specs.Numbers.{HasNumber}
use Rattle.ap_trim.specs.Products.{HasSight, IsTarget, AddsOuts, IsPairEdge, LeavesTo, IsFirst, IsGoodPair, AddsFinal, added, same, IsFinalPair, AreProduct, Follow}
use Rattle.ap_trim.specs.Sections.{IsKeptOf}
use Rattle.ap_trim.specs.Stepping.{BeginsWith}
use Rattle.ap_trim.specs.Watching.{Sight, sight_of, Sees, IsGood, IsKeptBy}
use Rattle.ap_trim.specs.declared.pairs.Pair.{Pair}
use Rattle.ap_trim.specs.declared.watch.Watch.{Watch}
use Rattle.ap_trim.proofs.Growths.{there, sight_keeps, has_keeps, good_keeps, begins_keeps, target_keeps, IsFollowed, follow_in, HasOut, follow_each}
use Rattle.ap_trim.proofs.Watches.{good_sight}

-- ---- the order of edges

abbrev by_label : Edge → Edge → Ordering
by_label a b = label_cmp a.label b.label

ascends_filter : {X : Type 0} (cmp : X → X → Ordering) (p : X → Bool) (xs : List X) →
    Ascends cmp xs → Ascends cmp (filter p xs)
ascends_filter cmp p [] a = tt
ascends_filter {X} cmp p (x ∷ xs) a = elim (cases_Bool (p x)) [
  | inl t ↦ subst (λ (z : List X). Ascends cmp z) (sym (cond-true (p x) (x ∷ filter p xs)
      (filter p xs) t)) (λ y i. a.0 y (filter_in p y xs i).listed, ascends_filter cmp p xs a.1)
  | inr f ↦ subst (λ (z : List X). Ascends cmp z) (sym (cond-false (p x) (x ∷ filter p xs)
      (filter p xs) f)) (ascends_filter cmp p xs a.1)
]

then_less : (a b : Ordering) → ordering_then a b ≡ Less → (a ≡ Less) ⊎ ((a ≡ Equal) × (b ≡ Less))
then_less Less b h = inl refl
then_less Equal b h = inr (refl, h)
then_less Greater b h = cc

not_below : (n : ℕ) → nat_cmp n n ≡ Less → ⊥
not_below n h = let k : n < n = less_from_cmp n n h in omega (arith, k)

labels_less : (m : Machine) → IsDeterministic m → (d e : Edge) → IsIn d m.edges → IsIn e m.edges →
    d.from ≡ e.from → edge_cmp d e ≡ Less → by_label d e ≡ Less
labels_less m one d e i k from less =
    let start : nat_cmp d.from e.from ≡ Equal = cmp_same d.from e.from from in
    let rest : ordering_then (label_cmp d.label e.label) (nat_cmp d.to e.to) ≡ Less =
    sym (ap (λ o. ordering_then o (ordering_then (label_cmp d.label e.label)
    (nat_cmp d.to e.to))) start) ∙ less in
    elim (then_less (label_cmp d.label e.label) (nat_cmp d.to e.to) rest) [
      | inl l ↦ l
      | inr (q, l) ↦
          let both : d ≡ e = one.one d e i k from (label_equal d.label e.label q) in
          absurd (not_below e.to (ap (λ (z : Edge). nat_cmp z.to e.to) (sym both) ∙ l))
    ]

exits_ascend : (m : Machine) (s : ℕ) → IsDeterministic m → (edges : List Edge) →
    ((e : Edge) → IsIn e edges → IsIn e m.edges × (e.from ≡ s)) → Ascends edge_cmp edges →
    Ascends by_label edges
exits_ascend m s one [] h a = tt
exits_ascend m s one (x ∷ edges) h a = (
  λ y i. labels_less m one x y (h x (inl refl)).0 (h y (inr i)).0
      ((h x (inl refl)).1 ∙ sym (h y (inr i)).1) (a.0 y i),
  exits_ascend m s one edges (λ e i. h e (inr i)) a.1,
)

-- the edges of a state
exit_of : (m : Machine) (s : ℕ) (e : Edge) → IsIn e (edges_of m s) → IsIn e m.edges × (e.from ≡ s)
exit_of m s e i =
    let k : IsKept (λ (z : Edge). eqb (edge_from z) s) e m.edges =
    filter_in (λ (z : Edge). eqb (edge_from z) s) e m.edges i in
    let t : eqb (edge_from e) s ≡ true = k.passes in
    (k.listed, grind (arith, nat_tests))

of_exit : (m : Machine) (s : ℕ) (e : Edge) → IsIn e m.edges → e.from ≡ s → IsIn e (edges_of m s)
of_exit m s e i from = in_filter (λ (z : Edge). eqb (edge_from z) s) e m.edges i
    (grind (arith, nat_tests))

ascends_from : (n : ℕ) (outs : List Edge) → ((e : Edge) → IsIn e outs → e.from ≡ n) →
    Ascends by_label outs → Ascends start_cmp outs
ascends_from n [] from a = tt
ascends_from n (x ∷ outs) from a = (
  λ y i. let s : nat_cmp x.from y.from ≡ Equal = cmp_same x.from y.from
      (from x (inl refl) ∙ sym (from y (inr i))) in ap (λ o. ordering_then o
      (label_cmp x.label y.label)) s ∙ a.0 y i,
  ascends_from n outs (λ e i. from e (inr i)) a.1,
)

from_less : (a b : Edge) → a.from < b.from → start_cmp a b ≡ Less
from_less a b lt = ap (λ o. ordering_then o (label_cmp a.label b.label)) (cmp_less a.from b.from lt)

start_less : (a b c : Ordering) → ordering_then a b ≡ Less →
    ordering_then a (ordering_then b c) ≡ Less
start_less Less b c h = refl
start_less Equal b c h = ap (λ o. ordering_then o c) h
start_less Greater b c h = cc

ascends_edges : (edges : List Edge) → Ascends start_cmp edges → Ascends edge_cmp edges
ascends_edges [] a = tt
ascends_edges (x ∷ edges) a = (
  λ y i. start_less (nat_cmp x.from y.from) (label_cmp x.label y.label)
      (nat_cmp x.to y.to) (a.0 y i),
  ascends_edges edges a.1,
)

follow_ascends : (b : Machine) (sets : List (List ℕ)) (pairs : List Pair) (w : Watch) (n : ℕ)
    (exits outs : List Edge) → Follow b sets pairs w n exits outs → Ascends by_label exits →
    Ascends by_label outs
follow_ascends b sets pairs w n [] [] f a = tt
follow_ascends b sets pairs w n [] (e ∷ outs) f a = absurd f
follow_ascends b sets pairs w n (x ∷ exits) [] f a = absurd f
follow_ascends b sets pairs w n (x ∷ exits) (e ∷ outs) f a = (
  λ y i.
      let r : IsFollowed b w n sets pairs exits y = follow_in b w n sets pairs exits outs y f.1 i in
      ap (λ (l : Label). label_cmp l y.label) f.0.1.label_is ∙
      ap (λ (l : Label). label_cmp x.label l) r.target.label_is ∙ a.0 r.exit r.listed,
  follow_ascends b sets pairs w n exits outs f.1 a.1,
)

-- ---- nothing made yet

pub product_begun : (m b : Machine) (sets : List (List ℕ)) (none pairs : List Pair) (w : Watch)
    (number : ℕ) (edges : List Edge) (finals : List ℕ) → BeginsWith b sets w → none ≡ [] →
    HasNumber none pairs (record { state = 0; watch = w }) number → edges ≡ [] → finals ≡ []
    → AreProduct m b 0 sets pairs edges finals
product_begun m b sets none pairs w number edges finals begins bare h no_edges no_finals =
    let pair : Pair = record { state = 0; watch = w } in
    let alone : pairs ≡ pair ∷ [] = elim h.grew [
      | inl e ↦ let no : length pairs ≡ 0 = ap length (e ∙ bare) in let lt : number < length pairs =
          slice_get_within pairs number pair h.at in absurd (omega (arith, no, lt))
      | inr e ↦ e.1 ∙ ap (λ (z : List Pair). z ++ pair ∷ []) bare
    ] in
    record {
      first = record {
        pair = pair;
        pair_at = ap (λ (z : List Pair). slice_get z 0) alone;
        state_is = refl;
        begins = begins;
      };
      sights = λ i other at.
          let here : slice_get (pair ∷ []) i ≡ Some other =
          ap (λ (z : List Pair). slice_get z i) (sym alone) ∙ at in
          let is : IsIn other (pair ∷ []) = in_from_place (pair ∷ []) i other here in
          elim is [
            | inl e ↦ subst (λ (z : Pair). HasSight sets z.watch) (sym e)
                (record { sight = begins.sight; at = begins.at })
            | inr k ↦ elim k [ ]
          ];
      sound = λ e i. elim (subst (λ (z : List Edge). IsIn e z) no_edges i) [ ];
      below = λ e i. elim (subst (λ (z : List Edge). IsIn e z) no_edges i) [ ];
      all = λ i other exit lt at listed from. absurd (omega (arith, lt));
      ascend = subst (λ (z : List Edge). Ascends start_cmp z) (sym no_edges) tt;
      final = λ i. (
        λ k. elim (subst (λ (z : List ℕ). IsIn i z) no_finals k) [ ],
        λ f. let l : i < 0 = f.below in absurd (omega (arith, l)),
      );
      finals_ascend = subst (λ (z : List ℕ). Ascends nat_cmp z) (sym no_finals) tt;
    }

-- ---- one pair more

module _ (m b : Machine) (ok : IsMachine m) (one : IsDeterministic m) (n : ℕ)
    (old_sets sets : List (List ℕ)) (old_pairs pairs : List Pair) (old new : List Edge)
    (old_finals finals : List ℕ) (pair : Pair) (s : AreProduct m b n old_sets old_pairs old
    old_finals)
    (pair_at : slice_get old_pairs n ≡ Some pair) (f : AddsFinal m b old_sets pair n old_finals
    finals) (g : AddsOuts b pair.watch n (edges_of m pair.state) old_sets sets old_pairs pairs
    old new) where
  -- a pair from before
  earlier : (i : ℕ) (other : Pair) → i < n → slice_get pairs i ≡ Some other →
      slice_get old_pairs i ≡ Some other
  earlier i other lt at =
      let low : n < length old_pairs = slice_get_within old_pairs n pair pair_at in
      let (x, there_at) = there old_pairs i (omega (arith, lt, low)) in
      there_at ∙ sym (g.keeps_pairs i x there_at) ∙ at

  own_pair : (i : ℕ) (other : Pair) → i ≡ n → slice_get pairs i ≡ Some other → pair ≡ other
  own_pair i other e at = same_Some pair other (sym (g.keeps_pairs n pair pair_at) ∙
      ap (slice_get pairs) (sym e) ∙ at)

  old_edge : (e : Edge) → IsPairEdge m b old_sets old_pairs e → IsPairEdge m b sets pairs e
  old_edge e h = record {
    pair = h.pair;
    pair_at = g.keeps_pairs e.from h.pair h.pair_at;
    exit = h.exit;
    listed = h.listed;
    from_is = h.from_is;
    target = target_keeps b old_sets sets old_pairs pairs h.pair.watch h.exit e g.keeps_sets
        g.keeps_pairs h.target;
  }

  new_edge : (e : Edge) → IsIn e g.outs → IsPairEdge m b sets pairs e
  new_edge e i =
      let r : IsFollowed b pair.watch n sets pairs (edges_of m pair.state) e =
      follow_in b pair.watch n sets pairs (edges_of m pair.state) g.outs e g.follow i in
      let x = exit_of m pair.state r.exit r.listed in
      record {
        pair = pair;
        pair_at = ap (slice_get pairs) r.from_is ∙ g.keeps_pairs n pair pair_at;
        exit = r.exit;
        listed = x.0;
        from_is = x.1;
        target = r.target;
      }

  out_from : (e : Edge) → IsIn e g.outs → e.from ≡ n
  out_from e i = (follow_in b pair.watch n sets pairs (edges_of m pair.state) g.outs e g.follow
      i).from_is

  either : (e : Edge) (P : Type 0) → IsIn e new → (IsIn e old → P) → (IsIn e g.outs → P) → P
  either e P i x y = elim (in_either e old g.outs (subst (λ (z : List Edge). IsIn e z) g.grown i))
      [ inl k ↦ x k | inr k ↦ y k ]

  in_new : (e : Edge) → IsIn e (old ++ g.outs) → IsIn e new
  in_new e i = subst (λ (z : List Edge). IsIn e z) (sym g.grown) i

  all_made : (i : ℕ) (other : Pair) (exit : Edge) → i < n + 1 → slice_get pairs i ≡ Some other →
      IsIn exit m.edges → exit.from ≡ other.state → LeavesTo b sets pairs other.watch new i exit
  all_made i other exit lt at listed from = elim (cases_lt i n) [
    | inl before ↦
        let l : LeavesTo b old_sets old_pairs other.watch old i exit =
        s.all i other exit before (earlier i other before at) listed from in
        record {
          edge = l.edge;
          listed = in_new l.edge (in_front l.edge old g.outs l.listed);
          from_is = l.from_is;
          target = target_keeps b old_sets sets old_pairs pairs other.watch
              exit l.edge g.keeps_sets g.keeps_pairs l.target;
        }
    | inr ge ↦
        let e : i ≡ n = omega (arith, lt, ge) in
        let own : pair ≡ other = own_pair i other e at in
        let h : HasOut b pair.watch n sets pairs g.outs exit =
        follow_each b pair.watch n sets pairs (edges_of m pair.state) g.outs exit g.follow
        (of_exit m pair.state exit listed (from ∙ ap (λ (z : Pair). z.state) (sym own))) in
        record {
          edge = h.edge;
          listed = in_new h.edge (in_back h.edge old g.outs h.listed);
          from_is = h.from_is ∙ sym e;
          target = subst
              (λ (z : Pair). IsTarget b sets pairs z.watch exit h.edge) own h.target;
        }
  ]

  -- ---- final pairs

  good_on : (other : Pair) → IsGoodPair m b old_sets other → IsGoodPair m b sets other
  good_on other h = record {
    final = h.final;
    good = good_keeps b old_sets sets other.watch
        g.keeps_sets h.good;
  }

  -- a pair from before is good no later than before
  good_back : (i : ℕ) (other : Pair) → slice_get old_pairs i ≡ Some other →
      IsGoodPair m b sets other → IsGoodPair m b old_sets other
  good_back i other at h =
      let k : HasSight old_sets other.watch = s.sights i other at in
      let same_sight : h.good.sight ≡ k.sight = same_Some h.good.sight k.sight
      (sym h.good.at ∙ sight_keeps old_sets sets other.watch k.sight g.keeps_sets k.at) in
      record {
        final = h.final;
        good = record {
          sight = k.sight;
          at = k.at;
          good =
              subst (IsGood b) same_sight h.good.good;
        };
      }

  old_final : (i : ℕ) → IsFinalPair m b n old_sets old_pairs i →
      IsFinalPair m b (n + 1) sets pairs i
  old_final i h = let l : i < n = h.below in record {
    below = omega (arith, l);
    pair = h.pair;
    pair_at = g.keeps_pairs i h.pair h.pair_at;
    good = good_on h.pair h.good;
  }

  before_final : (i : ℕ) → i < n → IsFinalPair m b (n + 1) sets pairs i → IsIn i old_finals
  before_final i lt h =
      let at : slice_get old_pairs i ≡ Some h.pair = earlier i h.pair lt h.pair_at in
      (s.final i).1 (record {
        below = lt;
        pair = h.pair;
        pair_at = at;
        good =
            good_back i h.pair at h.good;
      })

  final_in : (xs : List ℕ) → AddsFinal m b old_sets pair n old_finals xs → (i : ℕ) → IsIn i xs →
      IsFinalPair m b (n + 1) sets pairs i
  final_in xs (added h e) i k = elim (in_either i old_finals (n ∷ [])
      (subst (λ (z : List ℕ). IsIn i z) e k)) [
        | inl j ↦ old_final i ((s.final i).0 j)
        | inr j ↦ elim j [
          | inl is ↦ record {
            below = omega (arith, is);
            pair = pair;
            pair_at =
                ap (slice_get pairs) is ∙ g.keeps_pairs n pair pair_at;
            good = good_on pair h;
          }
          | inr none ↦ elim none [ ]
        ]
      ]
  final_in xs (same h e) i k = old_final i ((s.final i).0 (subst (λ (z : List ℕ). IsIn i z) e k))

  own_good : (i : ℕ) → i ≡ n → IsFinalPair m b (n + 1) sets pairs i → IsGoodPair m b old_sets pair
  own_good i is k = good_back n pair pair_at (subst (λ (z : Pair). IsGoodPair m b sets z)
      (sym (own_pair i k.pair is k.pair_at)) k.good)

  in_final : (xs : List ℕ) → AddsFinal m b old_sets pair n old_finals xs → (i : ℕ) →
      IsFinalPair m b (n + 1) sets pairs i → IsIn i xs
  in_final xs (added h e) i k =
      let l : i < n + 1 = k.below in
      subst (λ (z : List ℕ). IsIn i z) (sym e) (elim (cases_lt i n) [
        | inl lt ↦ in_front i old_finals (n ∷ []) (before_final i lt k)
        | inr ge ↦ let is : i ≡ n = omega (arith, l, ge) in in_back i old_finals (n ∷ []) (inl is)
      ])
  in_final xs (same h e) i k =
      let l : i < n + 1 = k.below in
      elim (cases_lt i n) [
        | inl lt ↦ subst (λ (z : List ℕ). IsIn i z) (sym e) (before_final i lt k)
        | inr ge ↦ let is : i ≡ n = omega (arith, l, ge) in absurd (h (own_good i is k))
      ]

  finals_rise : (xs : List ℕ) → AddsFinal m b old_sets pair n old_finals xs → Ascends nat_cmp xs
  finals_rise xs (added h e) = subst (λ (z : List ℕ). Ascends nat_cmp z) (sym e)
      (ascends_push nat_cmp old_finals n s.finals_ascend
      (λ x i. cmp_less x n ((s.final x).0 i).below))
  finals_rise xs (same h e) = subst (λ (z : List ℕ). Ascends nat_cmp z) (sym e) s.finals_ascend

  all_sights : (i : ℕ) (other : Pair) → slice_get pairs i ≡ Some other → HasSight sets other.watch
  all_sights i other at = elim (cases_lt i (length old_pairs)) [
    | inl lt ↦
        let (x, there_at) = there old_pairs i lt in
        let same_pair : x ≡ other = same_Some x other (sym (g.keeps_pairs i x there_at) ∙ at) in
        has_keeps old_sets sets other.watch g.keeps_sets
        (s.sights i other (there_at ∙ ap Some same_pair))
    | inr ge ↦ g.sights i other ge at
  ]

  pub product_on : AreProduct m b (n + 1) sets pairs new finals
  product_on = record {
    first = record {
      pair = s.first.pair;
      pair_at = g.keeps_pairs 0 s.first.pair s.first.pair_at;
      state_is = s.first.state_is;
      begins = begins_keeps b old_sets sets s.first.pair.watch g.keeps_sets s.first.begins;
    };
    sights = all_sights;
    sound = λ e i. either e (IsPairEdge m b sets pairs e) i (λ k. old_edge e (s.sound e k))
        (λ k. new_edge e k);
    below = λ e i. either e (e.from < n + 1) i (λ k. let l : e.from < n = s.below e k in
        omega (arith, l)) (λ k. let l : e.from ≡ n = out_from e k in omega (arith, l));
    all = all_made;
    ascend = subst (λ (z : List Edge). Ascends start_cmp z) (sym g.grown)
        (ascends_append start_cmp old g.outs s.ascend
        (ascends_from n g.outs out_from (follow_ascends b sets pairs pair.watch n
        (edges_of m pair.state) g.outs g.follow
        (exits_ascend m pair.state one (edges_of m pair.state) (exit_of m pair.state)
        (ascends_filter edge_cmp (λ (e : Edge). eqb (edge_from e) pair.state) m.edges
        ok.edges_ascend))))
        (λ x y i k. let l : x.from < n = s.below x i in let r : y.from ≡ n = out_from y k in
        from_less x y (omega (arith, l, r))));
    final = λ i. (final_in finals f i, in_final finals f i);
    finals_ascend = finals_rise finals f;
  }

-- ---- all pairs

module _ (m b made : Machine) (ok : IsMachine m) (n : ℕ) (sets : List (List ℕ)) (pairs : List Pair)
    (s : AreProduct m b n sets pairs made.edges made.finals) where
  sided : (e : Edge) → IsPairEdge m b sets pairs e → IsTrue (has_side e.label)
  sided e h = subst (λ (z : Label). IsTrue (has_side z)) (sym h.target.label_is)
      (ok.each h.exit h.listed).sided

  pub is_machine : made.states ≡ length pairs → IsMachine made
  is_machine long = record {
    some = let h : 0 < length pairs = slice_get_within pairs 0 s.first.pair s.first.pair_at in
        omega (arith, h, long);
    edges_ascend = ascends_edges made.edges s.ascend;
    finals_ascend = s.finals_ascend;
    each = λ e i.
        let h : IsPairEdge m b sets pairs e = s.sound e i in
        let f : e.from < length pairs = slice_get_within pairs e.from h.pair h.pair_at in
        let t : e.to < length pairs = slice_get_within pairs e.to h.target.target h.target.target_at
        in
        record {
          from_in = omega (arith, f, long);
          to_in = omega (arith, t, long);
          sided =
              sided e h;
        };
    finals_in = λ i k.
        let h : IsFinalPair m b n sets pairs i = (s.final i).0 k in
        let f : i < length pairs = slice_get_within pairs i h.pair h.pair_at in
        omega (arith, f, long);
  }

  -- ---- walks

  -- where a walk over pairs ends, and what is seen there
  pub record IsSeen (state : ℕ) (w : List Label) (word : List Symbol) (j : ℕ) : Type 0 where
    pub pair : Pair
    pub pair_at : slice_get pairs j ≡ Some pair
    pub sight : Sight
    pub sight_at : sight_of sets pair.watch ≡ Some sight
    pub sees : Sees b sight (word ++ right_word w)
    pub walk : Walk m.edges state w pair.state

  seen : (i j : ℕ) (pair : Pair) (sight : Sight) (w : List Label) (word : List Symbol) →
      slice_get pairs i ≡ Some pair → sight_of sets pair.watch ≡ Some sight → Sees b sight word →
      Walk made.edges i w j → IsSeen pair.state w word j
  seen i j pair sight w word at sight_at sees (ends e) = record {
    pair = pair;
    pair_at = ap (slice_get pairs) (sym e) ∙ at;
    sight = sight;
    sight_at = sight_at;
    sees = subst (Sees b sight) (sym (append-nil word)) sees;
    walk = ends refl;
  }
  seen i j pair sight w word at sight_at sees (goes {labels = labels} k e here from whole rest) =
      let h : IsPairEdge m b sets pairs e = s.sound e (in_from_place made.edges k e here) in
      let own : h.pair ≡ pair = same_Some h.pair pair (sym h.pair_at ∙
      ap (slice_get pairs) (sym from) ∙ at) in
      let t : IsTarget b sets pairs h.pair.watch h.exit e = h.target in
      let old : t.goes.old ≡ sight = same_Some t.goes.old sight
      (sym t.goes.old_at ∙ ap (λ (z : Pair). sight_of sets z.watch) own ∙ sight_at) in
      let next : Sees b t.goes.new (word ++ option_to_list h.exit.label.right) =
      t.goes.sees word (subst (λ (z : Sight). Sees b z word) (sym old) sees) in
      let r : IsSeen t.target.state labels (word ++ option_to_list h.exit.label.right) j =
      seen e.to j t.target t.goes.new labels (word ++ option_to_list h.exit.label.right)
      t.target_at t.goes.new_at next rest in
      let p : IsPlaced h.exit m.edges = placed_in h.exit m.edges h.listed in
      let label : w ≡ h.exit.label ∷ labels = whole ∙ ap (λ (z : Label). z ∷ labels) t.label_is in
      record {
        pair = r.pair;
        pair_at = r.pair_at;
        sight = r.sight;
        sight_at = r.sight_at;
        sees = subst (Sees b r.sight) (append_assoc word (option_to_list h.exit.label.right)
            (right_word labels) ∙ ap (λ (z : List Label). word ++ right_word z) (sym label)) r.sees;
        walk = goes p.place h.exit p.at (ap (λ (z : Pair). z.state) (sym own) ∙ sym h.from_is) label
            (subst (λ (z : ℕ). Walk m.edges z labels r.pair.state) t.state_is r.walk);
      }

  pub record IsPaired (i : ℕ) (w : List Label) (state : ℕ) : Type 0 where
    pub last : ℕ
    pub pair : Pair
    pub pair_at : slice_get pairs last ≡ Some pair
    pub state_is : pair.state ≡ state
    pub walk : Walk made.edges i w last

  paired : length pairs ≤ n → (i t state : ℕ) (pair : Pair) (w : List Label) →
      slice_get pairs i ≡ Some pair → pair.state ≡ state → Walk m.edges state w t → IsPaired i w t
  paired done i t state pair w at is (ends e) = record {
    last = i;
    pair = pair;
    pair_at = at;
    state_is = is ∙ e;
    walk = ends refl;
  }
  paired done i t state pair w at is (goes {labels = labels} k d here from whole rest) =
      let low : i < length pairs = slice_get_within pairs i pair at in
      let l : LeavesTo b sets pairs pair.watch made.edges i d =
      s.all i pair d (omega (arith, low, done)) at (in_from_place m.edges k d here)
      (sym from ∙ sym is) in
      let r : IsPaired l.edge.to labels t = paired done l.edge.to t d.to l.target.target labels
      l.target.target_at l.target.state_is rest in
      let p : IsPlaced l.edge made.edges = placed_in l.edge made.edges l.listed in
      record {
        last = r.last;
        pair = r.pair;
        pair_at = r.pair_at;
        state_is = r.state_is;
        walk =
            goes {t = r.last} p.place l.edge p.at (sym l.from_is)
            (whole ∙ ap (λ (z : Label). z ∷ labels) (sym l.target.label_is)) r.walk;
      }

  -- ---- the label strings

  from_start : (w : List Label) (j : ℕ) → Walk made.edges 0 w j → IsSeen 0 w [] j
  from_start w j walk =
      let p : IsFirst b sets pairs = s.first in
      subst (λ (z : ℕ). IsSeen z w [] j) p.state_is (seen 0 j p.pair p.begins.sight w [] p.pair_at
      p.begins.at p.begins.sees walk)

  accepts_out : (w : List Label) → AcceptsLabels made w → AcceptsLabels m w ×
      IsKeptBy b (right_word w)
  accepts_out w h =
      let f : IsFinalPair m b n sets pairs h.last = (s.final h.last).0 h.final in
      let r : IsSeen 0 w [] h.last = from_start w h.last h.walk in
      let own : f.pair ≡ r.pair = same_Some f.pair r.pair (sym f.pair_at ∙ r.pair_at) in
      let good : IsGoodPair m b sets r.pair = subst (IsGoodPair m b sets) own f.good in
      let sight : good.good.sight ≡ r.sight = same_Some good.good.sight r.sight
      (sym good.good.at ∙ r.sight_at) in (
        record { last = r.pair.state; final = good.final; walk = r.walk },
        (good_sight b r.sight (right_word w) r.sees).0 (subst (IsGood b) sight good.good.good),
      )

  accepts_in : length pairs ≤ n → (w : List Label) → AcceptsLabels m w × IsKeptBy b (right_word w) →
      AcceptsLabels made w
  accepts_in done w (h, k) =
      let p : IsPaired 0 w h.last = paired done 0 h.last 0 s.first.pair w s.first.pair_at
      s.first.state_is h.walk in
      let r : IsSeen 0 w [] p.last = from_start w p.last p.walk in
      let own : p.pair ≡ r.pair = same_Some p.pair r.pair (sym p.pair_at ∙ r.pair_at) in
      let low : p.last < length pairs = slice_get_within pairs p.last p.pair p.pair_at in
      record {
        last = p.last;
        final = (s.final p.last).1 (record {
          below = omega (arith, low, done);
          pair = r.pair;
          pair_at = r.pair_at;
          good = record {
            final = subst (λ (z : ℕ). IsIn z m.finals) (sym p.state_is ∙
                ap (λ (z : Pair). z.state) own) h.final;
            good = record {
              sight = r.sight;
              at = r.sight_at;
              good =
                  (good_sight b r.sight (right_word w) r.sees).1 k;
            };
          };
        });
        walk = p.walk;
      }

  pub accepts_kept : length pairs ≤ n → IsKeptOf m b made
  accepts_kept done w = (accepts_out w, accepts_in done w)
