-- Sets of states as the states of a transducer: what is made of them, and what it accepts.
use Rattle.std.proofs.Common.{◌≡◌, inl, inr, ℕ, ◌+◌, ◌<◌, ◌≤◌, zero, suc, List, [], ◌∷◌, ◌++◌, length, refl, sym, ◌∙◌, ap, subst, arith, Some}
use Rattle.std.specs.Prelude.{◌↔◌, slice_get, IsTrue}
use Rattle.std.specs.Ordering.{nat_cmp, ordering_then}
use Rattle.std.specs.declared.cmp.Ordering.TheVariants.{Less, Equal}
use Rattle.std.proofs.lemmas.Bool.{cases_lt}
use Rattle.std.proofs.lemmas.Option.{none-some, same_Some, slice_get_within}
use Rattle.ap_fst.specs.Lists.{IsIn, Ascends}
use Rattle.ap_fst.specs.Order.{label_cmp}
use Rattle.ap_fst.specs.Sides.{has_side}
use Rattle.ap_fst.specs.Machines.{Machine, IsMachine}
use Rattle.ap_fst.specs.declared.label.Label.{Label}
use Rattle.ap_fst.specs.declared.label.Edge.{Edge}
use Rattle.ap_fst.proofs.Listing.{in_either, in_front, in_back, in_from_place, placed_in, IsPlaced, ascends_push}
use Rattle.ap_fst.proofs.PlaceLaws.{cmp_less, cmp_same}
use Rattle.ap_fst.proofs.Trims.{ascends_append}
use Rattle.ap_det.specs.Exits.{edge_at, IsPlaceFrom, LeadsBy, HasLabel, IsOut, HoldsLabel, LeadsInto, AddsOuts}
use Rattle.ap_det.specs.Subsets.{HoldsFinal, AddsFinal, added, same, LeadsFrom, IsSetEdge, Leaves, IsEntered, IsFinalSet, start_cmp, AreSubsets}
use Rattle.ap_det.proofs.Sorting.{named, naming, IsNamed}

-- ---- final states of a set

-- none of the first so many states is final
pub record NoneFinal (m : Machine) (set : List ℕ) (n : ℕ) : Type 0 where
  pub none : (k state : ℕ) → k < n → slice_get set k ≡ Some state → IsIn state m.finals → ⊥

pub none_begun : (m : Machine) (set : List ℕ) → NoneFinal m set 0
none_begun m set = record { none = λ k state lt at i. absurd (omega arith) }

pub none_on : (m : Machine) (set : List ℕ) (n state : ℕ) → slice_get set n ≡ Some state →
    (IsIn state m.finals → ⊥) → NoneFinal m set n → NoneFinal m set (n + 1)
none_on m set n state at never h = record {
  none = λ k other lt here i. elim (cases_lt k n) [
    | inl below ↦ h.none k other below here i
    | inr ge ↦ let is : k ≡ n = omega arith in
        never (subst (λ (z : ℕ). IsIn z m.finals)
        (same_Some other state (sym here ∙ ap (slice_get set) is ∙ at)) i)
  ];
}

pub none_all : (m : Machine) (set : List ℕ) (n : ℕ) → length set ≤ n → NoneFinal m set n →
    HoldsFinal m set → ⊥
none_all m set n long h f =
    let p : IsPlaced f.state set = placed_in f.state set f.listed in
    let lt : p.place < length set = slice_get_within set p.place f.state p.at in
    h.none p.place f.state (omega arith) p.at f.final

-- ---- nothing made yet

pub subsets_begun : (m : Machine) (sets : List (List ℕ)) (edges : List Edge) (finals : List ℕ) →
    sets ≡ (0 ∷ []) ∷ [] → edges ≡ [] → finals ≡ [] → AreSubsets m 0 sets edges finals
subsets_begun m sets edges finals alone no_edges no_finals = record {
  first = ap (λ (z : List (List ℕ)). slice_get z 0) alone;
  entered = λ i pos lt. let one : length sets ≡ 1 = ap length alone in absurd (omega arith);
  sound = λ e i. elim (subst (λ (z : List Edge). IsIn e z) no_edges i) [ ];
  below = λ e i. elim (subst (λ (z : List Edge). IsIn e z) no_edges i) [ ];
  all = λ i set d lt at listed from. absurd (omega arith);
  ascend = subst (λ (z : List Edge). Ascends start_cmp z) (sym no_edges) tt;
  final = λ i. (
    λ k. elim (subst (λ (z : List ℕ). IsIn i z) no_finals k) [ ],
    λ f. let b : i < 0 =
        f.below in absurd (omega arith),
  );
  finals_ascend = subst (λ (z : List ℕ). Ascends nat_cmp z) (sym no_finals) tt;
}

-- ---- one set more

set_there : {X : Type 0} (xs : List X) (i n : ℕ) (x : X) → slice_get xs n ≡ Some x → i < n →
    (y : X) × (slice_get xs i ≡ Some y)
set_there [] i n x at lt = absurd (none-some x at)
set_there (z ∷ xs) i zero x at lt = absurd (omega arith)
set_there (z ∷ xs) zero (suc n) x at lt = (z, refl)
set_there (z ∷ xs) (suc i) (suc n) x at lt = set_there xs i n x at (omega arith)

ascends_from : (n : ℕ) (outs : List Edge) → ((e : Edge) → IsIn e outs → e.from ≡ n) →
    Ascends (λ a b. label_cmp a.label b.label) outs → Ascends start_cmp outs
ascends_from n [] from a = tt
ascends_from n (x ∷ outs) from a = (
  λ y i. let s : nat_cmp x.from y.from ≡ Equal =
      cmp_same x.from y.from (from x (inl refl) ∙ sym (from y (inr i))) in
      ap (λ o. ordering_then o (label_cmp x.label y.label)) s ∙ a.0 y i,
  ascends_from n outs (λ e i. from e (inr i)) a.1,
)

from_less : (a b : Edge) → a.from < b.from → start_cmp a b ≡ Less
from_less a b lt = ap (λ o. ordering_then o (label_cmp a.label b.label)) (cmp_less a.from b.from lt)

module _ (m : Machine) (ok : IsMachine m) (set : List ℕ) (places : List ℕ) (exactly : (p : ℕ) →
    IsIn p places ↔ IsPlaceFrom m.edges set p) where
  -- what a number names is an edge from the set
  pub record IsExit (d : Edge) : Type 0 where
    pub listed : IsIn d m.edges
    pub from_in : IsIn d.from set

  exit_at : (k : ℕ) (d : Edge) → edge_at m.edges places k ≡ Some d → IsExit d
  exit_at k d at =
      let n : IsNamed m.edges places k d = named m.edges places k d at in
      let p : IsPlaceFrom m.edges set n.place =
      (exactly n.place).0 (in_from_place places k n.place n.place_at) in
      record {
        listed = in_from_place m.edges n.place d n.edge_is;
        from_in = subst (λ (z : Edge). IsIn z.from set)
            (same_Some p.edge d (sym p.at ∙ n.edge_is)) p.from_in;
      }

  pub record HasNumber (d : Edge) : Type 0 where
    pub number : ℕ
    pub at : edge_at m.edges places number ≡ Some d
    pub below : number < length places

  -- an edge from the set has a number
  exit_number : (d : Edge) → IsIn d m.edges → IsIn d.from set → HasNumber d
  exit_number d listed from =
      let p : IsPlaced d m.edges = placed_in d m.edges listed in
      let q : IsPlaced p.place places =
      placed_in p.place places
      ((exactly p.place).1 (record { edge = d; at = p.at; from_in = from })) in
      record {
        number = q.place;
        at = naming m.edges places q.place p.place d q.at p.at;
        below =
            slice_get_within places q.place p.place q.at;
      }

  leads_same : (label : Label) (t : ℕ) → LeadsBy (edge_at m.edges places) label t
      ↔ LeadsFrom m set label t
  leads_same label t = (
    λ l. let x : IsExit l.edge = exit_at l.number l.edge l.at in
        record {
          edge = l.edge;
          listed = x.listed;
          from_in = x.from_in;
          label_is =
              l.label_is;
          to_is = l.to_is;
        },
    λ l. let n : HasNumber l.edge = exit_number l.edge l.listed l.from_in in
        record {
          number = n.number;
          edge = l.edge;
          at = n.at;
          label_is =
              l.label_is;
          to_is = l.to_is;
        },
  )

  module _ (n : ℕ) (old_sets sets : List (List ℕ)) (old new : List Edge)
      (old_finals finals : List ℕ) (s : AreSubsets m n old_sets old old_finals)
      (set_at : slice_get old_sets n ≡ Some set)
      (f : AddsFinal m set n old_finals finals)
      (g : AddsOuts (edge_at m.edges places) n (length places) old_sets sets old new) where
    -- a set from before
    earlier : (i : ℕ) (other : List ℕ) → i < n → slice_get sets i ≡ Some other →
        slice_get old_sets i ≡ Some other
    earlier i other lt at =
        let (x, there) = set_there old_sets i n set set_at lt in
        there ∙ sym (g.keeps i x there) ∙ at

    own_set : (i : ℕ) (other : List ℕ) → i ≡ n → slice_get sets i ≡ Some other → set ≡ other
    own_set i other e at = same_Some set other (sym (g.keeps n set set_at)
        ∙ ap (slice_get sets) (sym e) ∙ at)

    old_edge : (e : Edge) → IsSetEdge m old_sets e → IsSetEdge m sets e
    old_edge e h = record {
      set = h.set;
      set_at = g.keeps e.from h.set h.set_at;
      target = h.target;
      target_at = g.keeps e.to h.target h.target_at;
      exactly = h.exactly;
      state = h.state;
      held = h.held;
      sided = h.sided;
    }

    new_edge : (e : Edge) → e.from ≡ n → IsOut (edge_at m.edges places) sets e → IsSetEdge m sets e
    new_edge e from h =
        let l : HasLabel (edge_at m.edges places) h.some.number e.label = h.some.holds in
        let x : IsExit l.edge = exit_at h.some.number l.edge l.at in
        record {
          set = set;
          set_at = ap (slice_get sets) from ∙ g.keeps n set set_at;
          target = h.target;
          target_at = h.target_at;
          exactly = λ t. (
            λ i. (leads_same e.label t).0 ((h.exactly t).0 i),
            λ k. (h.exactly t).1 ((leads_same e.label t).1 k),
          );
          state = l.edge.to;
          held = (h.exactly l.edge.to).1
              (record {
                number = h.some.number;
                edge = l.edge;
                at = l.at;
                label_is =
                    l.label_is;
                to_is = refl;
              });
          sided = subst (λ (z : Label). IsTrue (has_side z)) l.label_is
              (ok.each l.edge x.listed).sided;
        }

    either : (e : Edge) (P : Type 0) → IsIn e new → (IsIn e old → P) → (IsIn e g.outs → P) → P
    either e P i a b = elim (in_either e old g.outs (subst (λ (z : List Edge). IsIn e z) g.grown i))
        [ inl k ↦ a k | inr k ↦ b k ]

    in_new : (e : Edge) → IsIn e (old ++ g.outs) → IsIn e new
    in_new e i = subst (λ (z : List Edge). IsIn e z) (sym g.grown) i

    all_made : (i : ℕ) (other : List ℕ) (d : Edge) → i < n + 1 → slice_get sets i ≡ Some other →
        IsIn d m.edges → IsIn d.from other → Leaves new i d.label
    all_made i other d lt at listed from = elim (cases_lt i n) [
      | inl before ↦
          let l : Leaves old i d.label =
          s.all i other d before (earlier i other before at) listed from in
          record {
            edge = l.edge;
            listed = in_new l.edge (in_front l.edge old g.outs l.listed);
            from_is = l.from_is;
            label_is = l.label_is;
          }
      | inr ge ↦
          let e : i ≡ n = omega arith in
          let q : HasNumber d = exit_number d listed
          (subst (λ (z : List ℕ). IsIn d.from z) (sym (own_set i other e at)) from) in
          let h : HoldsLabel g.outs d.label = g.all q.number d q.below q.at in
          record {
            edge = h.edge;
            listed = in_new h.edge (in_back h.edge old g.outs h.listed);
            from_is = g.from_is h.edge h.listed ∙ sym e;
            label_is = h.label_is;
          }
    ]

    all_entered : (i : ℕ) → 0 < i → i < length sets → IsEntered new i
    all_entered i pos lt = elim (cases_lt i (length old_sets)) [
      | inl before ↦ let e : IsEntered old i = s.entered i pos before in
          record {
            edge = e.edge;
            listed = in_new e.edge (in_front e.edge old g.outs e.listed);
            to_is = e.to_is;
            rises = e.rises;
          }
      | inr behind ↦
          let e : LeadsInto g.outs i = g.entered i behind lt in
          let from : e.edge.from ≡ n = g.from_is e.edge e.listed in
          let low : n < length old_sets = slice_get_within old_sets n set set_at in
          record {
            edge = e.edge;
            listed = in_new e.edge (in_back e.edge old g.outs e.listed);
            to_is = e.to_is;
            rises = omega arith;
          }
    ]

    -- ---- final sets

    old_final : (i : ℕ) → IsFinalSet m n old_sets i → IsFinalSet m (n + 1) sets i
    old_final i h = let b : i < n = h.below in
        record {
          below = omega arith;
          set = h.set;
          set_at = g.keeps i h.set h.set_at;
          holds = h.holds;
        }

    before_final : (i : ℕ) → i < n → IsFinalSet m (n + 1) sets i → IsIn i old_finals
    before_final i lt h = (s.final i).1
        (record { below = lt; set = h.set; set_at = earlier i h.set lt h.set_at; holds = h.holds })

    final_in : (xs : List ℕ) → AddsFinal m set n old_finals xs → (i : ℕ) → IsIn i xs →
        IsFinalSet m (n + 1) sets i
    final_in xs (added h e) i k =
        elim (in_either i old_finals (n ∷ []) (subst (λ (z : List ℕ). IsIn i z) e k)) [
          | inl j ↦ old_final i ((s.final i).0 j)
          | inr j ↦ elim j [
            | inl is ↦ record {
              below = omega arith;
              set = set;
              set_at =
                  ap (slice_get sets) is ∙ g.keeps n set set_at;
              holds = h;
            }
            | inr none ↦ elim none [ ]
          ]
        ]
    final_in xs (same h e) i k = old_final i ((s.final i).0 (subst (λ (z : List ℕ). IsIn i z) e k))

    in_final : (xs : List ℕ) → AddsFinal m set n old_finals xs → (i : ℕ) →
        IsFinalSet m (n + 1) sets i → IsIn i xs
    in_final xs (added h e) i k =
        let b : i < n + 1 = k.below in
        subst (λ (z : List ℕ). IsIn i z) (sym e) (elim (cases_lt i n) [
          | inl lt ↦ in_front i old_finals (n ∷ []) (before_final i lt k)
          | inr ge ↦ let is : i ≡ n = omega arith in in_back i old_finals (n ∷ []) (inl is)
        ])
    in_final xs (same h e) i k =
        let b : i < n + 1 = k.below in
        elim (cases_lt i n) [
          | inl lt ↦ subst (λ (z : List ℕ). IsIn i z) (sym e) (before_final i lt k)
          | inr ge ↦ let is : i ≡ n = omega arith in
              absurd (h (subst (λ (z : List ℕ). HoldsFinal m z)
              (sym (own_set i k.set is k.set_at)) k.holds))
        ]

    finals_rise : (xs : List ℕ) → AddsFinal m set n old_finals xs → Ascends nat_cmp xs
    finals_rise xs (added h e) =
        subst (λ (z : List ℕ). Ascends nat_cmp z) (sym e)
        (ascends_push nat_cmp old_finals n s.finals_ascend
        (λ x i. cmp_less x n ((s.final x).0 i).below))
    finals_rise xs (same h e) = subst (λ (z : List ℕ). Ascends nat_cmp z) (sym e) s.finals_ascend

    pub subsets_on : AreSubsets m (n + 1) sets new finals
    subsets_on = record {
      first = g.keeps 0 (0 ∷ []) s.first;
      sound = λ e i. either e (IsSetEdge m sets e) i (λ k. old_edge e (s.sound e k))
          (λ k. new_edge e (g.from_is e k) (g.sound e k));
      below = λ e i. either e (e.from < n + 1) i (λ k. let b : e.from < n = s.below e k in
          omega arith) (λ k. let b : e.from ≡ n = g.from_is e k in omega arith);
      all = all_made;
      entered = all_entered;
      ascend = subst (λ (z : List Edge). Ascends start_cmp z) (sym g.grown)
          (ascends_append start_cmp old g.outs s.ascend (ascends_from n g.outs g.from_is g.ascend)
          (λ x y i k. let a : x.from < n = s.below x i in let b : y.from ≡ n = g.from_is y k in
          from_less x y (omega arith)));
      final = λ i. (final_in finals f i, in_final finals f i);
      finals_ascend = finals_rise finals f;
    }

-- the same of what the loop reads
pub subsets_step : (m : Machine) (set other : List ℕ) (places taken : List ℕ) (read : List Edge)
    (n : ℕ) (old_sets sets : List (List ℕ)) (old new : List Edge) (old_finals finals : List ℕ) →
    IsMachine m → AreSubsets m n old_sets old old_finals
    → slice_get old_sets n ≡ Some set → slice_get old_sets n ≡ Some other →
    AddsFinal m set n old_finals finals →
    ((p : ℕ) → IsIn p places ↔ IsPlaceFrom m.edges other p) → read ≡ m.edges → taken ≡ places
    → AddsOuts (edge_at read taken) n (length taken) old_sets sets old new →
    AreSubsets m (n + 1) sets new finals
subsets_step m set other places taken read n old_sets sets old new old_finals finals ok s at at' f
    exactly is-read is-taken g =
    let own : other ≡ set = same_Some other set (sym at' ∙ at) in
    let found : (p : ℕ) → IsIn p places ↔ IsPlaceFrom m.edges set p =
    subst (λ (z : List ℕ). (p : ℕ) → IsIn p places ↔ IsPlaceFrom m.edges z p) own exactly in
    let h : AddsOuts (edge_at read places) n (length places) old_sets sets old new =
    subst (λ (z : List ℕ). AddsOuts (edge_at read z) n (length z) old_sets sets old new)
    is-taken g in
    subsets_on m ok set places found n old_sets sets old new old_finals finals s at f
    (subst (λ (z : List Edge). AddsOuts (edge_at z places) n (length places) old_sets sets old
    new) is-read h)
