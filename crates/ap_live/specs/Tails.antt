-- Of the inside: no public contract stands on this file.
use Rattle.std.specs.Prelude.{◌≡◌, ℕ, Bool, true, List, [], ◌∷◌, ◌++◌, Some, None, slice_get}
use Rattle.std.specs.Option.{option_to_list}
use Rattle.ap_symbol.specs.declared.symbol.Symbol.{Symbol}
use Rattle.ap_fst.specs.Lists.{IsIn}
use Rattle.ap_fst.specs.Machines.{Machine}
use Rattle.ap_fst.specs.declared.label.Edge.{Edge}
use Rattle.ap_live.specs.Fitting.{Input, is_empty_side}
use Rattle.ap_live.specs.Spreads.{Picked}
use Rattle.ap_live.specs.Rows.{Reach}
use Rattle.ap_live.specs.declared.arrivals.Arrival.{Arrival}
use Rattle.ap_live.specs.declared.items.Item.{Item}

-- From a state these inputs lead to a final state, with this output, last symbol first.
pub data Tail (m : Machine) : List Input → ℕ → List Symbol → Type 0 where
  stop : {later : List Input} {s : ℕ} {back : List Symbol} → later ≡ [] → IsIn s m.finals →
      back ≡ [] → Tail m later s back
  silent : {later : List Input} {s : ℕ} {back : List Symbol} (t j : ℕ) (rest : List Symbol)
      (p : Picked m.edges None s t j) → back ≡ rest ++ option_to_list p.edge.label.right →
      Tail m later t rest → Tail m later s back
  taken : {later : List Input} {s : ℕ} {back : List Symbol} (input : Input) (more : List Input)
      (t j : ℕ) (rest : List Symbol) → later ≡ input ∷ more →
      (p : Picked m.edges (Some input) s t j)
      → back ≡ rest ++ option_to_list p.edge.label.right → Tail m more t rest → Tail m later s back

-- The edge by which the second item's state was reached leads back to the first item.
pub record Back (edges : List Edge) (is_silent : Bool) (x y : Item) (link : Arrival) : Type 0 where
  pub edge : Edge
  pub at : slice_get edges link.edge ≡ Some edge
  pub to_is : y.state ≡ edge.to
  pub arrives : link.to ≡ edge.to
  pub sort : is_empty_side edge.label.left ≡ is_silent
  pub is : x ≡ (let item : Item =
      record { state = edge.from; back = y.back ++ option_to_list edge.label.right } in item)

-- back from these items by one of these links
pub record BackFrom (edges : List Edge) (is_silent : Bool) (links : List Arrival)
    (items : List Item) (x : Item) : Type 0 where
  pub item : Item
  pub link : Arrival
  pub listed : IsIn item items
  pub linked : IsIn link links
  pub back : Back edges is_silent x item link

-- all that these links lead back to from these items
pub record IsBack (edges : List Edge) (is_silent : Bool) (links : List Arrival)
    (items found : List Item) : Type 0 where
  pub sound : (x : Item) → IsIn x found → BackFrom edges is_silent links items x
  pub complete : (x : Item) → BackFrom edges is_silent links items x → IsIn x found

-- back from these items by any number of empty links
pub data BackMany (edges : List Edge) (links : List Arrival) (base : List Item) : Item
    → Type 0 where
  given : {x : Item} → IsIn x base → BackMany edges links base x
  onward : {x : Item} (y : Item) (a : Arrival) → IsIn a links → Back edges true x y a →
      BackMany edges links base y → BackMany edges links base x

pub record IsBackMany (edges : List Edge) (links : List Arrival)
    (base items : List Item) : Type 0 where
  pub sound : (x : Item) → IsIn x items → BackMany edges links base x
  pub given_in : (x : Item) → IsIn x base → IsIn x items
  pub closed : (x : Item) → BackFrom edges true links items x → IsIn x items

-- what can be reached here and leads on to a final state
pub record AreItems (m : Machine) (seen later : List Input) (items : List Item) : Type 0 where
  pub sound : (x : Item) → IsIn x items → Tail m later x.state x.back
  pub complete : (x : Item) → Reach m.edges seen x.state → Tail m later x.state x.back
      → IsIn x items

-- an item more, unless it is there
pub record Merges (items : List Item) (x : Item) (items' : List Item) : Type 0 where
  pub more : List Item
  pub grown : items' ≡ items ++ more
  pub only : (y : Item) → IsIn y more → y ≡ x
  pub there : IsIn x items'

-- Of all that these links lead back to from these items, what was not there is added behind the
-- others.
pub record AddsBack (edges : List Edge) (is_silent : Bool) (links : List Arrival)
    (items old found : List Item) : Type 0 where
  pub more : List Item
  pub grown : found ≡ old ++ more
  pub sound : (x : Item) → IsIn x more → BackFrom edges is_silent links items x
  pub complete : (x : Item) → BackFrom edges is_silent links items x → IsIn x found

-- a way on that does not begin with an empty left side
pub data BaseTail (m : Machine) : List Input → ℕ → List Symbol → Type 0 where
  stops : {later : List Input} {s : ℕ} {back : List Symbol} → later ≡ [] → IsIn s m.finals →
      back ≡ [] → BaseTail m later s back
  takes : {later : List Input} {s : ℕ} {back : List Symbol} (input : Input) (more : List Input)
      (t j : ℕ) (rest : List Symbol) → later ≡ input ∷ more →
      (p : Picked m.edges (Some input) s t j)
      → back ≡ rest ++ option_to_list p.edge.label.right → Tail m more t rest →
      BaseTail m later s back

pub record AreBase (m : Machine) (seen later : List Input) (items : List Item) : Type 0 where
  pub sound : (x : Item) → IsIn x items → Tail m later x.state x.back
  pub complete : (x : Item) → Reach m.edges seen x.state → BaseTail m later x.state x.back
      → IsIn x items

-- the final ones of these states, with nothing to come
pub record AreFinals (m : Machine) (states : List ℕ) (items : List Item) : Type 0 where
  pub sound : (x : Item) → IsIn x items → IsIn x.state m.finals × IsIn x.state states
      × (x.back ≡ [])
  pub complete : (s : ℕ) → IsIn s states → IsIn s m.finals →
      IsIn (let item : Item = record { state = s; back = [] } in item) items

-- the outputs of the inputs so far, last symbols first
pub record AreBacks (m : Machine) (seen : List Input) (backs : List (List Symbol)) : Type 0 where
  pub sound : (back : List Symbol) → IsIn back backs → Tail m seen 0 back
  pub complete : (back : List Symbol) → Tail m seen 0 back → IsIn back backs
