-- The ways that inputs lead along, as nodes that each tell the one before it.
use Rattle.std.specs.Prelude.{◌≡◌, ◌↔◌, ℕ, ◌+◌, ◌<◌, ◌≤◌, List, [], ◌∷◌, ◌++◌, Option, Some, None, map, reverse, slice_get, length, take}
use Rattle.ap_symbol.specs.Rendering.{rendering}
use Rattle.ap_symbol.specs.declared.symbol.Symbol.{Symbol}
use Rattle.ap_fst.specs.Lists.{IsIn}
use Rattle.ap_fst.specs.Machines.{Machine}
use Rattle.ap_fst.specs.declared.label.Edge.{Edge}
use Rattle.ap_live.specs.Heads.{written}
use Rattle.ap_live.specs.Fitting.{Input}
use Rattle.ap_live.specs.Outputs.{IsOutput}
use Rattle.ap_live.specs.Spreads.{Picked}
use Rattle.ap_live.specs.declared.nodes.Node.{Node}
use Rattle.ap_live.specs.declared.taken.Taken.{Taken}

-- From the start these inputs lead to a state over the edges at these places, the last first.
pub data Way (edges : List Edge) : List Input → ℕ → List ℕ → Type 0 where
  begin : {seen : List Input} {s : ℕ} {places : List ℕ} → seen ≡ [] → s ≡ 0 → places ≡ [] →
      Way edges seen s places
  silent : {seen : List Input} {s : ℕ} {places : List ℕ} (f j : ℕ) (rest : List ℕ) →
      Picked edges None f s j → places ≡ j ∷ rest → Way edges seen f rest → Way edges seen s places
  taken : {seen : List Input} {s : ℕ} {places : List ℕ} (before : List Input) (input : Input)
      (f j : ℕ) (rest : List ℕ) → Picked edges (Some input) f s j → seen ≡ before ++ input ∷ [] →
      places ≡ j ∷ rest → Way edges before f rest → Way edges seen s places

-- a node for a state, reached by the edge at this place from the node at that one
abbrev pub node : ℕ → ℕ → ℕ → Node
node state edge back = record { state = state; edge = edge; back = back }

-- Back from a node the edges at these places lead to the first one.
pub data LeadsBack (nodes : List Node) : ℕ → List ℕ → Type 0 where
  first : {at : ℕ} {places : List ℕ} → at ≡ 0 → places ≡ [] → LeadsBack nodes at places
  next : {at : ℕ} {places : List ℕ} (x : Node) (rest : List ℕ) → slice_get nodes at ≡ Some x →
      x.back < at → places ≡ x.edge ∷ rest → LeadsBack nodes x.back rest → LeadsBack nodes at places

-- The node stands for a way that these inputs lead along.
pub record IsReached (edges : List Edge) (nodes : List Node) (seen : List Input)
    (at : ℕ) : Type 0 where
  pub x : Node
  pub there : slice_get nodes at ≡ Some x
  pub places : List ℕ
  pub back : LeadsBack nodes at places
  pub way : Way edges seen x.state places

-- between these places, a node for a way to the state
pub record HasWay (nodes : List Node) (low high state : ℕ) (places : List ℕ) : Type 0 where
  pub at : ℕ
  pub from : low ≤ at
  pub below : at < high
  pub x : Node
  pub there : slice_get nodes at ≡ Some x
  pub state_is : x.state ≡ state
  pub back : LeadsBack nodes at places

-- The nodes between these places are those of all ways that these inputs lead along.
pub record AreWays (edges : List Edge) (nodes : List Node) (seen : List Input)
    (low high : ℕ) : Type 0 where
  pub rises : low ≤ high
  pub within : high ≤ length nodes
  pub sound : (at : ℕ) → low ≤ at → at < high → IsReached edges nodes seen at
  pub complete : (state : ℕ) (places : List ℕ) → Way edges seen state places →
      HasWay nodes low high state places

-- nodes more, behind the others
abbrev pub Grows : List Node → List Node → Type 0
Grows old new = (more : List Node) × (new ≡ old ++ more)

-- Nodes are added behind one: for edges that are picked from its state, and for all of them at the
-- places that are seen.
pub record AddsNodes (edges : List Edge) (pick : Option Input) (from : ℕ) (seen : ℕ → Type 0)
    (back : ℕ) (old new : List Node) : Type 0 where
  pub more : List Node
  pub grown : new ≡ old ++ more
  pub sound : (x : Node) → IsIn x more → (x.back ≡ back) × Picked edges pick from x.state x.edge
  pub complete : (s j : ℕ) → Picked edges pick from s j → seen j → IsIn (node s j back) more

-- the node at a place, and the one before it, from which its edge is picked
pub record IsStep (edges : List Edge) (pick : Option Input) (nodes : List Node)
    (low high at : ℕ) : Type 0 where
  pub x : Node
  pub there : slice_get nodes at ≡ Some x
  pub before : Node
  pub before_there : slice_get nodes x.back ≡ Some before
  pub from : low ≤ x.back
  pub below : x.back < high
  pub earlier : x.back < at
  pub picked : Picked edges pick before.state x.state x.edge

-- from this place on, a node for an edge from the node before it
pub record HasStep (nodes : List Node) (base s j back : ℕ) : Type 0 where
  pub at : ℕ
  pub from : base ≤ at
  pub there : slice_get nodes at ≡ Some (node s j back)

-- Nodes are added behind those between two places: one for each edge that is picked from one of
-- these.
pub record Spreads (edges : List Edge) (pick : Option Input) (low high : ℕ)
    (old new : List Node) : Type 0 where
  pub grown : Grows old new
  pub sound : (at : ℕ) → length old ≤ at → at < length new → IsStep edges pick new low high at
  pub complete : (back : ℕ) (x : Node) → low ≤ back → back < high → slice_get new back ≡ Some x →
      (s j : ℕ) → Picked edges pick x.state s j → HasStep new (length old) s j back

abbrev pub input_of : Taken → Input
input_of x = record { symbol = x.symbol; sensitive = x.sensitive }

-- what is seen of a trail: its nodes, where those of each row begin, and the inputs
pub record Trails : Type 0 where
  pub nodes : List Node
  pub firsts : List ℕ
  pub inputs : List Taken

-- for each number of inputs so far, from none on, the nodes of all ways that they lead along
pub record IsTrail (edges : List Edge) (seen : List Input) (t : Trails) : Type 0 where
  pub inputs_are : map input_of t.inputs ≡ seen
  pub count : length t.firsts ≡ length seen + 1
  pub each : (k low high : ℕ) → slice_get t.firsts k ≡ Some low →
      slice_get (t.firsts ++ length t.nodes ∷ []) (k + 1) ≡ Some high →
      AreWays edges t.nodes (take k seen) low high

-- none of the nodes between these places is at a final state
abbrev pub NoneFinal : List ℕ → List Node → ℕ → ℕ → Type 0
NoneFinal finals nodes low high = (at : ℕ) (x : Node) → low ≤ at → at < high →
    slice_get nodes at ≡ Some x → IsIn x.state finals → ⊥

-- the first node from a place on that is at a final state
pub record IsFirstFinal (finals : List ℕ) (nodes : List Node) (low at : ℕ) : Type 0 where
  pub from : low ≤ at
  pub x : Node
  pub there : slice_get nodes at ≡ Some x
  pub final : IsIn x.state finals
  pub before : NoneFinal finals nodes low at

-- The node stands for the only way of these inputs to a final state.
pub record IsOnlyEnd (m : Machine) (nodes : List Node) (seen : List Input)
    (end : ℕ) : Type 0 where
  pub places : List ℕ
  pub back : LeadsBack nodes end places
  pub only : (w : List Symbol) → IsIn w (reverse (written m.edges places) ∷ []) ↔ IsOutput m seen w

-- The bytes of the only output are appended.
pub record IsOnlyBytes (m : Machine) (seen : List Input) (old new : List ℕ) : Type 0 where
  pub word : List Symbol
  pub only : (w : List Symbol) → IsIn w (word ∷ []) ↔ IsOutput m seen w
  pub is : new ≡ old ++ rendering word
