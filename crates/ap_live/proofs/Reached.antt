-- The states that inputs lead to, as a list.
use Rattle.std.proofs.Common.{◌≡◌, inl, inr, ℕ, ◌+◌, ◌<◌, ◌≤◌, List, [], ◌∷◌, ◌++◌, length, sym, ◌∙◌, ap, subst, arith, Some, slice_get}
use Rattle.std.specs.Prelude.{◌↔◌}
use Rattle.std.proofs.lemmas.Bool.{cases_lt}
use Rattle.std.proofs.lemmas.Option.{same_Some, slice_get_within}
use Rattle.ap_fst.specs.Lists.{IsIn}
use Rattle.ap_fst.specs.Machines.{Machine}
use Rattle.ap_fst.specs.declared.label.Edge.{Edge}
use Rattle.ap_live.specs.Fitting.{Input}
use Rattle.ap_live.specs.Reached.{AreReached, AreStates, AreStatesOf, HasState}
use Rattle.ap_live.specs.Rows.{IsRow, Reach}
use Rattle.ap_live.specs.Trails.{AreWays, HasWay, IsReached}
use Rattle.ap_live.specs.declared.nodes.Node.{Node}
use Rattle.ap_live.specs.declared.rows.Row.{Row}
use Rattle.ap_live.proofs.Spreading.{in_back, in_either, in_front}
use Rattle.ap_live.proofs.WayLaws.{reach_way, way_reach}

-- ---- the states of nodes

states_longer : (nodes : List Node) (low high high' s : ℕ) → high ≤ high' →
    HasState nodes low high s → HasState nodes low high' s
states_longer nodes low high high' s le h = record {
  at = h.at;
  from = h.from;
  below = let below : h.at < high = h.below in omega arith;
  x = h.x;
  there = h.there;
  state_is = h.state_is;
}

pub one_state : (nodes : List Node) (low at : ℕ) (x : Node) (states states' : List ℕ) →
    slice_get nodes at ≡ Some x → low ≤ at → states' ≡ states ++ x.state ∷ [] →
    AreStatesOf nodes low at states → AreStatesOf nodes low (at + 1) states'
one_state nodes low at x states states' there from e are = record {
  sound = λ s i.
      elim (in_either s states (x.state ∷ []) (subst (λ (z : List ℕ). IsIn s z) e i)) [
        | inl k ↦ states_longer nodes low at (at + 1) s (omega arith) (are.sound s k)
        | inr k ↦
            elim k [
              | inl is ↦
                  record {
                    at = at;
                    from = from;
                    below = omega arith;
                    x = x;
                    there = there;
                    state_is = sym is;
                  }
              | inr none ↦ elim none [ ]
            ]
      ];
  complete = λ s h. subst (λ (z : List ℕ). IsIn s z) (sym e) (elim (cases_lt h.at at) [
    | inl lt ↦ in_front s states (x.state ∷ []) (are.complete s (record {
      at = h.at;
      from = h.from;
      below = lt;
      x = h.x;
      there = h.there;
      state_is = h.state_is;
    }))
    | inr ge ↦ let below : h.at < at + 1 = h.below in
        let same : h.at ≡ at = omega arith in
        let x_is : h.x ≡ x = same_Some h.x x (sym h.there ∙ ap (slice_get nodes) same ∙ there) in
        in_back s states (x.state ∷ [])
        (inl (sym h.state_is ∙ ap (λ (z : Node). z.state) x_is))
  ]);
}

-- All nodes from a place on were looked at, and their states put into order.
pub all_states : (nodes : List Node) (low at len : ℕ) (states states' : List ℕ) →
    len ≡ length nodes → len ≤ at → ((s : ℕ) → IsIn s states' ↔ IsIn s states) →
    AreStatesOf nodes low at states → AreStatesOf nodes low (length nodes) states'
all_states nodes low at len states states' n all members are = record {
  sound = λ s i. let h : HasState nodes low at s = are.sound s ((members s).0 i) in
      record {
        at = h.at;
        from = h.from;
        below = slice_get_within nodes h.at h.x h.there;
        x = h.x;
        there = h.there;
        state_is = h.state_is;
      };
  complete = λ s h. (members s).1
      (are.complete s (states_longer nodes low (length nodes) at s (omega (arith, n, all)) h));
}

-- ---- the states that inputs lead to

pub ways_states : (edges : List Edge) (nodes : List Node) (seen : List Input) (low : ℕ)
    (states : List ℕ) → AreWays edges nodes seen low (length nodes) →
    AreStatesOf nodes low (length nodes) states → AreStates edges seen states
ways_states edges nodes seen low states ways are = λ s. (
  (λ i.
      let h : HasState nodes low (length nodes) s = are.sound s i in
      let r : IsReached edges nodes seen h.at = ways.sound h.at h.from h.below in
      let same : r.x ≡ h.x = same_Some r.x h.x (sym r.there ∙ h.there) in
      subst (λ (z : ℕ). Reach edges seen z) (ap (λ (z : Node). z.state) same ∙ h.state_is)
      (way_reach edges seen r.x.state r.places r.way)),
  (λ reach.
      let (places, way) = reach_way edges seen s reach in
      let h : HasWay nodes low (length nodes) s places = ways.complete s places way in
      are.complete s (record {
        at = h.at;
        from = h.from;
        below = h.below;
        x = h.x;
        there = h.there;
        state_is = h.state_is;
      })),
)

pub row_states : (edges : List Edge) (seen : List Input) (row : Row) (states : List ℕ) →
    IsRow edges seen row → ((s : ℕ) → IsIn s states ↔ IsIn s row.states.items) →
    AreStates edges seen states
row_states edges seen row states is members = λ s. (
  (λ i. is.sound s ((members s).0 i)),
  (λ reach. (members s).1 (is.complete s reach)),
)

pub dead_states : (m : Machine) (seen : List Input) (states : List ℕ) → states ≡ [] →
    ((s : ℕ) → Reach m.edges seen s → ⊥) → AreReached m seen states
dead_states m seen states e dead = inr (λ s. (
  (λ i. elim (subst (λ (z : List ℕ). IsIn s z) e i) [ ]),
  (λ reach. absurd (dead s reach)),
))
