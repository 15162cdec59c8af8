-- What is made of all sets is a transducer with at most one edge per state and label, and accepts
-- the same.
use Rattle.std.proofs.Common.{◌≡◌, inl, inr, ◌⊎◌, ℕ, ◌<◌, ◌≤◌, zero, suc, List, [], ◌∷◌, ◌++◌, length, refl, sym, ◌∙◌, ap, subst, arith, Some}
use Rattle.std.specs.Prelude.{◌↔◌, slice_get}
use Rattle.std.specs.Ordering.{nat_cmp, ordering_then}
use Rattle.std.specs.declared.cmp.Ordering.{Ordering}
use Rattle.std.specs.declared.cmp.Ordering.TheVariants.{Less, Equal, Greater}
use Rattle.std.proofs.lemmas.Bool.{cases_lt}
use Rattle.std.proofs.lemmas.Option.{same_Some, slice_get_within}
use Rattle.ap_fst.specs.Lists.{IsIn, Ascends}
use Rattle.ap_fst.specs.Order.{label_cmp, edge_cmp}
use Rattle.ap_fst.specs.Machines.{Machine, IsMachine}
use Rattle.ap_fst.specs.Walks.{Walk, ends, goes, AcceptsLabels}
use Rattle.ap_fst.specs.declared.label.Label.{Label}
use Rattle.ap_fst.specs.declared.label.Edge.{Edge}
use Rattle.ap_fst.proofs.Listing.{in_from_place, placed_in, IsPlaced}
use Rattle.ap_fst.specs.Trimming.{IsReached, IsFinishing, IsTrimmed}
use Rattle.ap_fst.proofs.WalkLaws.{walk_then, walk_edge}
use Rattle.ap_fst.proofs.PlaceLaws.{cmp_same}
use Rattle.ap_det.specs.Determinism.{IsDeterministic}
use Rattle.ap_det.specs.Subsets.{LeadsFrom, IsSetEdge, Leaves, IsEntered, IsFinalSet, start_cmp, AreSubsets}
use Rattle.ap_det.proofs.Grouping.{label_itself}

-- ---- the order

start_less : (a b c : Ordering) → ordering_then a b ≡ Less →
    ordering_then a (ordering_then b c) ≡ Less
start_less Less b c h = refl
start_less Equal b c h = ap (λ o. ordering_then o c) h
start_less Greater b c h = cc

ascends_edges : (edges : List Edge) → Ascends start_cmp edges → Ascends edge_cmp edges
ascends_edges [] a = tt
ascends_edges (x ∷ edges) a = (
  λ y i. start_less (nat_cmp x.from y.from) (label_cmp x.label y.label) (nat_cmp x.to y.to)
      (a.0 y i),
  ascends_edges edges a.1,
)

start_same : (d e : Edge) → start_cmp d e ≡ Less → d.from ≡ e.from → d.label ≡ e.label → ⊥
start_same d e less from label =
    let f : nat_cmp d.from e.from ≡ Equal = cmp_same d.from e.from from in
    let l : label_cmp d.label e.label ≡ Equal = ap (λ z. label_cmp z e.label) label
    ∙ label_itself e.label in
    let both : start_cmp d e ≡ Equal =
    ap (λ o. ordering_then o (label_cmp d.label e.label)) f ∙ l in
    cc

ascends_one : (edges : List Edge) → Ascends start_cmp edges → (d e : Edge) → IsIn d edges →
    IsIn e edges → d.from ≡ e.from → d.label ≡ e.label → d ≡ e
ascends_one [] a d e i k from label = elim i [ ]
ascends_one (x ∷ edges) a d e (inl p) (inl q) from label = p ∙ sym q
ascends_one (x ∷ edges) a d e (inl p) (inr k) from label =
    absurd (start_same d e (subst (λ (z : Edge). start_cmp z e ≡ Less) (sym p)
    (a.0 e k)) from label)
ascends_one (x ∷ edges) a d e (inr i) (inl q) from label =
    absurd (start_same e d (subst (λ (z : Edge). start_cmp z d ≡ Less) (sym q) (a.0 d i))
    (sym from) (sym label))
ascends_one (x ∷ edges) a d e (inr i) (inr k) from label = ascends_one edges a.1 d e i k from label

-- ---- a trimmed transducer with an edge

some_or_none : {X : Type 0} (xs : List X) → (xs ≡ []) ⊎ ((x : X) × IsIn x xs)
some_or_none [] = inl refl
some_or_none (x ∷ xs) = inr (x, inl refl)

none_is_nil : {X : Type 0} (xs : List X) → ((x : X) → IsIn x xs → ⊥) → xs ≡ []
none_is_nil [] h = refl
none_is_nil (x ∷ xs) h = absurd (h x (inl refl))

not_in_nil : {X : Type 0} (x : X) (xs : List X) → xs ≡ [] → IsIn x xs → ⊥
not_in_nil {X} x xs e i = elim (subst (λ (z : List X). IsIn x z) e i) [ ]

-- where one state is all, it is final
lone_finishing : (m : Machine) → IsMachine m → IsTrimmed m → (d : Edge) → IsIn d m.edges →
    m.states ≤ 1 → IsFinishing m 0
lone_finishing m ok t d listed few = elim (some_or_none m.finals) [
  | inl none ↦ absurd (not_in_nil d m.edges
      (t.nothing (λ w h. not_in_nil h.last m.finals none h.final)).1 listed)
  | inr some ↦
      let low : some.0 < m.states = ok.finals_in some.0 some.1 in
      let zero_is : 0 ≡ some.0 = omega arith in
      record { labels = []; last = some.0; final = some.1; walk = ends zero_is }
]

start_finishing : (m : Machine) → IsMachine m → IsTrimmed m → (d : Edge) → IsIn d m.edges →
    IsFinishing m 0
start_finishing m ok t d listed = elim (cases_lt 1 m.states) [
  | inl more ↦
      let r : IsReached m 1 = t.reached 1 (omega arith) more in
      let f : IsFinishing m 1 = t.finishing 1 (omega arith) more in
      record {
        labels = r.labels ++ f.labels;
        last = f.last;
        final = f.final;
        walk =
            walk_then m.edges 0 1 f.last r.labels f.labels r.walk f.walk;
      }
  | inr few ↦ lone_finishing m ok t d listed few
]

state_finishing : (m : Machine) → IsMachine m → IsTrimmed m → (d : Edge) → IsIn d m.edges →
    (i : ℕ) → i < m.states → IsFinishing m i
state_finishing m ok t d listed zero lt = start_finishing m ok t d listed
state_finishing m ok t d listed (suc i) lt = t.finishing (suc i) (omega arith) lt

module _ (m made : Machine) (n : ℕ) (sets : List (List ℕ))
    (s : AreSubsets m n sets made.edges made.finals) where
  pub is_deterministic : IsDeterministic made
  is_deterministic = record { one = ascends_one made.edges s.ascend }

  pub is_machine : made.states ≡ length sets → IsMachine made
  is_machine long = record {
    some = let h : 0 < length sets = slice_get_within sets 0 (0 ∷ []) s.first in omega arith;
    edges_ascend = ascends_edges made.edges s.ascend;
    finals_ascend = s.finals_ascend;
    each = λ e i.
        let h : IsSetEdge m sets e = s.sound e i in
        let f : e.from < length sets = slice_get_within sets e.from h.set h.set_at in
        let t : e.to < length sets = slice_get_within sets e.to h.target h.target_at in
        record { from_in = omega arith; to_in = omega arith; sided = h.sided };
    finals_in = λ i k.
        let h : IsFinalSet m n sets i = (s.final i).0 k in
        let f : i < length sets = slice_get_within sets i h.set h.set_at in
        omega arith;
  }

  -- ---- from the sets to the states

  pub record HasWalk (set : List ℕ) (w : List Label) (t : ℕ) : Type 0 where
    pub state : ℕ
    pub listed : IsIn state set
    pub walk : Walk m.edges state w t

  pub record IsSpread (set : List ℕ) (w : List Label) (j : ℕ) : Type 0 where
    pub target : List ℕ
    pub target_at : slice_get sets j ≡ Some target
    pub each : (t : ℕ) → IsIn t target → HasWalk set w t

  spread : (i j : ℕ) (set : List ℕ) (w : List Label) → slice_get sets i ≡ Some set →
      Walk made.edges i w j → IsSpread set w j
  spread i j set w at (ends e) =
      record {
        target = set;
        target_at = ap (slice_get sets) (sym e) ∙ at;
        each =
            λ t k. record { state = t; listed = k; walk = ends refl };
      }
  spread i j set w at (goes {labels = labels} k e here from whole rest) =
      let h : IsSetEdge m sets e = s.sound e (in_from_place made.edges k e here) in
      let own : h.set ≡ set = same_Some h.set set
      (sym h.set_at ∙ ap (slice_get sets) (sym from) ∙ at) in
      let r : IsSpread h.target labels j = spread e.to j h.target labels h.target_at rest in
      record {
        target = r.target;
        target_at = r.target_at;
        each = λ t i'.
            let v : HasWalk h.target labels t = r.each t i' in
            let l : LeadsFrom m h.set e.label v.state = (h.exactly v.state).0 v.listed in
            let p : IsPlaced l.edge m.edges = placed_in l.edge m.edges l.listed in
            record {
              state = l.edge.from;
              listed = subst (λ (z : List ℕ). IsIn l.edge.from z) own l.from_in;
              walk = goes p.place l.edge p.at refl (whole ∙ ap (λ z. z ∷ labels) (sym l.label_is))
                  (subst (λ (z : ℕ). Walk m.edges z labels t) l.to_is v.walk);
            };
      }

  -- ---- from the states to the sets

  pub record IsGathered (i : ℕ) (w : List Label) (t : ℕ) : Type 0 where
    pub last : ℕ
    pub target : List ℕ
    pub target_at : slice_get sets last ≡ Some target
    pub listed : IsIn t target
    pub walk : Walk made.edges i w last

  gather : length sets ≤ n → (i a t : ℕ) (set : List ℕ) (w : List Label) →
      slice_get sets i ≡ Some set → IsIn a set → Walk m.edges a w t → IsGathered i w t
  gather done i a t set w at inside (ends e) =
      record {
        last = i;
        target = set;
        target_at = at;
        listed =
            subst (λ (z : ℕ). IsIn z set) e inside;
        walk = ends refl;
      }
  gather done i a t set w at inside (goes {labels = labels} k d here from whole rest) =
      let low : i < length sets = slice_get_within sets i set at in
      let l : Leaves made.edges i d.label =
      s.all i set d (omega arith) at (in_from_place m.edges k d here)
      (subst (λ (z : ℕ). IsIn z set) from inside) in
      let h : IsSetEdge m sets l.edge = s.sound l.edge l.listed in
      let own : set ≡ h.set = same_Some set h.set (sym at ∙ ap (slice_get sets) (sym l.from_is)
      ∙ h.set_at) in
      let next : IsIn d.to h.target = (h.exactly d.to).1 (record {
        edge = d;
        listed = in_from_place m.edges k d here;
        from_in = subst (λ (z : List ℕ). IsIn d.from z) own
            (subst (λ (z : ℕ). IsIn z set) from inside);
        label_is = sym l.label_is;
        to_is = refl;
      }) in
      let r : IsGathered l.edge.to labels t =
      gather done l.edge.to d.to t h.target labels h.target_at next rest in
      let p : IsPlaced l.edge made.edges = placed_in l.edge made.edges l.listed in
      record {
        last = r.last;
        target = r.target;
        target_at = r.target_at;
        listed = r.listed;
        walk =
            goes {t = r.last} p.place l.edge p.at (sym l.from_is)
            (whole ∙ ap (λ z. z ∷ labels) (sym l.label_is)) r.walk;
      }

  -- ---- the same label strings

  start_is : (x : ℕ) → IsIn x (0 ∷ []) → x ≡ 0
  start_is x (inl e) = e
  start_is x (inr none) = elim none [ ]

  accepts_out : (w : List Label) → AcceptsLabels made w → AcceptsLabels m w
  accepts_out w h =
      let f : IsFinalSet m n sets h.last = (s.final h.last).0 h.final in
      let r : IsSpread (0 ∷ []) w h.last = spread 0 h.last (0 ∷ []) w s.first h.walk in
      let own : f.set ≡ r.target = same_Some f.set r.target (sym f.set_at ∙ r.target_at) in
      let v : HasWalk (0 ∷ []) w f.holds.state =
      r.each f.holds.state (subst (λ (z : List ℕ). IsIn f.holds.state z) own f.holds.listed) in
      record {
        last = f.holds.state;
        final = f.holds.final;
        walk =
            subst (λ (z : ℕ). Walk m.edges z w f.holds.state) (start_is v.state v.listed) v.walk;
      }

  accepts_in : length sets ≤ n → (w : List Label) → AcceptsLabels m w → AcceptsLabels made w
  accepts_in done w h =
      let r : IsGathered 0 w h.last = gather done 0 0 h.last (0 ∷ []) w s.first (inl refl) h.walk in
      let low : r.last < length sets = slice_get_within sets r.last r.target r.target_at in
      record {
        last = r.last;
        final = (s.final r.last).1
            (record {
              below = omega arith;
              set = r.target;
              set_at = r.target_at;
              holds =
                  record { state = h.last; listed = r.listed; final = h.final };
            });
        walk = r.walk;
      }

  pub accepts_same : length sets ≤ n → (w : List Label) → AcceptsLabels made w ↔ AcceptsLabels m w
  accepts_same done w = (accepts_out w, accepts_in done w)

  -- ---- trimmed

  reach : (b i : ℕ) → i < b → i < length sets → IsReached made i
  reach zero i lt low = absurd (omega arith)
  reach (suc b) zero lt low = record { labels = []; walk = ends refl }
  reach (suc b) (suc i) lt low =
      let e : IsEntered made.edges (suc i) = s.entered (suc i) (omega arith) low in
      let up : e.edge.from < suc i = e.rises in
      let r : IsReached made e.edge.from = reach b e.edge.from (omega arith) (omega arith) in
      record {
        labels = r.labels ++ e.edge.label ∷ [];
        walk =
            subst (λ (z : ℕ). Walk made.edges 0 (r.labels ++ e.edge.label ∷ []) z) e.to_is
            (walk_edge made.edges 0 r.labels e.edge e.listed r.walk);
      }

  finish : IsMachine m → IsTrimmed m → length sets ≤ n → (i : ℕ) → 0 < i → i < length sets →
      IsFinishing made i
  finish ok trimmed done i pos low =
      let e : IsEntered made.edges i = s.entered i pos low in
      let h : IsSetEdge m sets e.edge = s.sound e.edge e.listed in
      let l : LeadsFrom m h.set e.edge.label h.state = (h.exactly h.state).0 h.held in
      let within : h.state < m.states =
      subst (λ (z : ℕ). z < m.states) (sym l.to_is) (ok.each l.edge l.listed).to_in in
      let f : IsFinishing m h.state = state_finishing m ok trimmed l.edge l.listed h.state within in
      let r : IsGathered i f.labels f.last =
      gather done i h.state f.last h.target f.labels (ap (slice_get sets) (sym e.to_is)
      ∙ h.target_at) h.held f.walk in
      let last_low : r.last < length sets = slice_get_within sets r.last r.target r.target_at in
      record {
        labels = f.labels;
        last = r.last;
        final = (s.final r.last).1
            (record {
              below = omega arith;
              set = r.target;
              set_at = r.target_at;
              holds =
                  record { state = f.last; listed = r.listed; final = f.final };
            });
        walk = r.walk;
      }

  no_edge : m.edges ≡ [] → (e : Edge) → IsIn e made.edges → ⊥
  no_edge none e i =
      let h : IsSetEdge m sets e = s.sound e i in
      let l : LeadsFrom m h.set e.label h.state = (h.exactly h.state).0 h.held in
      not_in_nil l.edge m.edges none l.listed

  one_set : m.edges ≡ [] → length sets ≡ 1
  one_set none =
      let some : 0 < length sets = slice_get_within sets 0 (0 ∷ []) s.first in
      elim (cases_lt 1 (length sets)) [
        | inl more ↦ let e : IsEntered made.edges 1 = s.entered 1 (omega arith) more in
            absurd (no_edge none e.edge e.listed)
        | inr few ↦ omega arith
      ]

  pub is_trimmed : made.states ≡ length sets → length sets ≤ n → IsMachine m → IsTrimmed m →
      IsTrimmed made
  is_trimmed long done ok trimmed = record {
    reached = λ i pos lt. reach (suc i) i (omega arith) (omega arith);
    finishing = λ i pos lt. finish ok trimmed done i pos (omega arith);
    nothing = λ none.
        let lone : m.edges ≡ [] = (trimmed.nothing (λ w a. none w (accepts_in done w a))).1 in
        (long ∙ one_set lone, none_is_nil made.edges (no_edge lone));
  }
