use Rattle.std.specs.Prelude.{◌≡◌, ℕ, List, [], ◌∷◌, Option, Some}
use Rattle.ap_fst.specs.Graphs.{Reaches}
use Rattle.ap_fst.specs.declared.graph.Arc.{Arc}

-- each state that has a hub is reached from it over the arcs
abbrev pub AreHubs : List Arc → (ℕ → Option ℕ) → Type 0
AreHubs arcs hub_at = (s hub : ℕ) → hub_at s ≡ Some hub → Reaches arcs (hub ∷ []) s

-- what holds of the hubs over these arcs, holds of the new ones
abbrev pub KeepsHubs : List Arc → (ℕ → Option ℕ) → (ℕ → Option ℕ) → Type 0
KeepsHubs arcs old new = AreHubs arcs old → AreHubs arcs new
