use Rattle.std.specs.Prelude.{◌≡◌, ◌⊎◌, ℕ, ◌<◌, true, List, [], ◌∷◌, ◌++◌, Option, Some, None, slice_get, nat_eq, if◌then◌else◌}
use Rattle.std.specs.List.{list_any, IsDistinct}
use Rattle.ap_fst.specs.Lists.{IsIn}
use Rattle.ap_fst.specs.declared.label.Edge.{Edge}
use Rattle.ap_symbol.specs.Fitting.{fits_lem}
use Rattle.ap_symbol.specs.declared.symbol.Symbol.{Symbol}
use Rattle.ap_live.specs.Fitting.{Input, picks}
use Rattle.ap_live.specs.declared.arrivals.Arrival.{Arrival}

-- an edge's place, by which this state was reached
abbrev pub arrival : ℕ → ℕ → Arrival
arrival to j = record { to = to; edge = j }

abbrev pub arrival_to : Arrival → ℕ
arrival_to a = a.to

-- a state more, unless it is there
abbrev pub with_state : List ℕ → ℕ → List ℕ
with_state states s = if list_any (λ y. nat_eq y s) states then states else states ++ s ∷ []

-- a state more; over edges with an empty left side no state is listed twice
pub record Adds (pick : Option Input) (states : List ℕ) (s : ℕ) (states' : List ℕ) : Type 0 where
  pub more : List ℕ
  pub grown : states' ≡ states ++ more
  pub only : (x : ℕ) → IsIn x more → x ≡ s
  pub there : IsIn s states'
  pub distinct : pick ≡ None → IsDistinct nat_eq states → IsDistinct nat_eq states'

-- An edge that is picked leads from a state to another.
pub record Picked (edges : List Edge) (pick : Option Input) (from to j : ℕ) : Type 0 where
  pub edge : Edge
  pub at : slice_get edges j ≡ Some edge
  pub from_is : from ≡ edge.from
  pub to_is : to ≡ edge.to
  pub passes : picks pick edge ≡ true

-- any place of an edge
abbrev pub AnyPlace : ℕ → Type 0
AnyPlace j = Unit {0}

-- this place alone
abbrev pub IsPlace : ℕ → ℕ → Type 0
IsPlace place j = j ≡ place

-- any place below a bound
abbrev pub PlaceBelow : ℕ → ℕ → Type 0
PlaceBelow bound j = j < bound

-- the edge at the place has this left side
abbrev pub HasLeft : List Edge → Option Symbol → ℕ → Type 0
HasLeft edges left j = (e : Edge) → slice_get edges j ≡ Some e → e.label.left ≡ left

-- the same below a bound
abbrev pub HasLeftBelow : List Edge → Option Symbol → ℕ → ℕ → Type 0
HasLeftBelow edges left bound j = HasLeft edges left j × (j < bound)

-- beside the input itself, the one symbol that fits it, or none
pub record IsOther (input : Input) (other : Option Symbol) : Type 0 where
  pub fits : (x : Symbol) → other ≡ Some x → fits_lem input.sensitive x input.symbol ≡ true
  pub only : (x : Symbol) → fits_lem input.sensitive x input.symbol ≡ true →
      (x ≡ input.symbol) ⊎ (other ≡ Some x)

-- what is added is reached by picked edges from one state, at the places that are seen
pub record SpreadOne (edges : List Edge) (pick : Option Input) (from : ℕ) (seen : ℕ → Type 0)
    (states : List ℕ) (links : List Arrival) (states' : List ℕ)
    (links' : List Arrival) : Type 0 where
  pub more : List ℕ
  pub grown : states' ≡ states ++ more
  pub sound : (s : ℕ) → IsIn s more → (j : ℕ) × Picked edges pick from s j
  pub complete : (s j : ℕ) → Picked edges pick from s j → seen j →
      IsIn s states' × IsIn (arrival s j) links'
  pub links_sound : (a : Arrival) → IsIn a links' →
      IsIn a links ⊎ Picked edges pick from a.to a.edge
  pub links_kept : (a : Arrival) → IsIn a links → IsIn a links'
  pub distinct : pick ≡ None → IsDistinct nat_eq states → IsDistinct nat_eq states'

-- An edge that is picked leads from one of these states to a state.
pub record PickedFrom (edges : List Edge) (pick : Option Input) (froms : List ℕ)
    (to j : ℕ) : Type 0 where
  pub from : ℕ
  pub listed : IsIn from froms
  pub picked : Picked edges pick from to j

-- what is added is reached by picked edges from these states
pub record Spread (edges : List Edge) (pick : Option Input) (froms states : List ℕ)
    (links : List Arrival) (states' : List ℕ) (links' : List Arrival) : Type 0 where
  pub more : List ℕ
  pub grown : states' ≡ states ++ more
  pub sound : (s : ℕ) → IsIn s more → (j : ℕ) × PickedFrom edges pick froms s j
  pub complete : (s j : ℕ) → PickedFrom edges pick froms s j →
      IsIn s states' × IsIn (arrival s j) links'
  pub links_sound : (a : Arrival) → IsIn a links' →
      IsIn a links ⊎ PickedFrom edges pick froms a.to a.edge
  pub links_kept : (a : Arrival) → IsIn a links → IsIn a links'
  pub distinct : pick ≡ None → IsDistinct nat_eq states → IsDistinct nat_eq states'

-- reached from these states by edges with an empty left side
pub data From (edges : List Edge) (base : List ℕ) : ℕ → Type 0 where
  given : {s : ℕ} → IsIn s base → From edges base s
  onward : {s : ℕ} (f j : ℕ) → Picked edges None f s j → From edges base f → From edges base s

-- all that is reached from these states so, with the edges
pub record Closed (edges : List Edge) (base : List ℕ) (links : List Arrival) (states' : List ℕ)
    (links' : List Arrival) : Type 0 where
  pub spread : Spread edges None states' base links states' links'
  pub sound : (s : ℕ) → IsIn s states' → From edges base s
