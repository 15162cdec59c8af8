use Rattle.std.specs.Prelude.{◌≡◌, ◌⊎◌, ◌↔◌, ℕ, ◌<◌, ◌==◌, List, [], ◌∷◌, ◌++◌, Option, Some, slice_get, position, if◌then◌else◌}
use Rattle.std.specs.List.{list_any, filter}
use Rattle.ap_fst.specs.Lists.{IsIn}
use Rattle.ap_fst.specs.declared.graph.Arc.{Arc}
use Rattle.ap_fst.specs.declared.label.Edge.{Edge}

abbrev pub arc_from : Arc → ℕ
arc_from a = a.from

abbrev pub arc_to : Arc → ℕ
arc_to a = a.to

-- an edge without its label, and the same turned round
abbrev pub forward : Edge → Arc
forward e = record { from = e.from; to = e.to }

abbrev pub backward : Edge → Arc
backward e = record { from = e.to; to = e.from }

-- the arcs that leave a state
abbrev pub arcs_at : List Arc → ℕ → List Arc
arcs_at arcs state = filter (λ a. arc_from a == state) arcs

-- a state more, unless it is there
abbrev pub with_state : List ℕ → ℕ → List ℕ
with_state states s = if list_any (λ y. s == y) states then states else states ++ s ∷ []

-- where a state stands in a list
abbrev pub place_of : List ℕ → ℕ → Option ℕ
place_of states s = position (λ y. s == y) states

-- the list goes on, and it holds what it held and what is added, and nothing else
pub record Grows (old added new : List ℕ) : Type 0 where
  pub more : List ℕ
  pub grown : new ≡ old ++ more
  pub there : (x : ℕ) → IsIn x added → IsIn x new
  pub only : (x : ℕ) → IsIn x more → IsIn x added

-- reached from these states over these arcs
pub data Reaches (arcs : List Arc) (starts : List ℕ) : ℕ → Type 0 where
  begins : {s : ℕ} → IsIn s starts → Reaches arcs starts s
  follows : {s : ℕ} (a : Arc) → Reaches arcs starts a.from → IsIn a arcs → s ≡ a.to →
      Reaches arcs starts s

-- the state at this place of a is added where b holds it
pub record AddsCommon (a b : List ℕ) (at : ℕ) (old new : List ℕ) : Type 0 where
  pub only : (s : ℕ) → IsIn s new → IsIn s old ⊎ ((slice_get a at ≡ Some s) × IsIn s b)
  pub stays : (s : ℕ) → IsIn s old → IsIn s new
  pub there : (s : ℕ) → slice_get a at ≡ Some s → IsIn s b → IsIn s new

-- this state, where both lists hold it
abbrev pub IsSharedAt : List ℕ → List ℕ → ℕ → ℕ → Type 0
IsSharedAt a b state s = (s ≡ state) × IsIn s a × IsIn s b

-- the states below a bound that two lists share
abbrev pub AreBelow : List ℕ → List ℕ → ℕ → List ℕ → Type 0
AreBelow a b bound both = (s : ℕ) → IsIn s both ↔ (s < bound) × IsIn s a × IsIn s b
