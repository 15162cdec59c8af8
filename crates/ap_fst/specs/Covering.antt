use Rattle.std.specs.Prelude.{◌≡◌, ◌≢◌, ◌<◌, ◌-◌, ℕ, List, [], ◌∷◌, ◌++◌, map, false, Option, Some, None, slice_get}
use Rattle.std.specs.declared.alloc.Global.{Global}
use Rattle.std.specs.declared.vec.Vec.{Vec}
use Rattle.std.specs.List.Sorted.{IsNonDecreasingBy}
use Rattle.ap_fst.specs.Lists.{IsIn}
use Rattle.ap_fst.specs.Graphs.{arc_from, arc_to, arcs_at, Grows}
use Rattle.ap_fst.specs.Hubs.{AreHubs}
use Rattle.ap_fst.specs.Quiet.{Quiet, Steps}
use Rattle.ap_fst.specs.Removal.{is_quiet, move_arc, turned_arc, AreLoud}
use Rattle.ap_fst.specs.declared.graph.Arc.{Arc}
use Rattle.ap_fst.specs.declared.draft.Move.{Move}
use Rattle.ap_fst.specs.declared.label.Label.{Label}

-- what is seen of the arcs of moves: the empty moves, the same turned round, and the labelled ones
-- by place; and the state where a draft ends
pub record ArcLists : Type 0 where
  pub quiet : List Arc
  pub entering : List Arc
  pub loud : List Arc
  pub finish : ℕ

-- each list is in the order of the states that its arcs leave, and there are hubs over empty moves,
-- and over the same turned round
pub record AreInOrder (a : ArcLists) (front_at back_at : ℕ → Option ℕ) : Type 0 where
  pub quiet_sorted : IsNonDecreasingBy arc_from a.quiet
  pub entering_sorted : IsNonDecreasingBy arc_from a.entering
  pub loud_sorted : IsNonDecreasingBy arc_from a.loud
  pub fronts_are : AreHubs a.quiet front_at
  pub backs_are : AreHubs a.entering back_at

-- the arcs are those of these moves
pub record AreArcsOf (moves : List Move) (a : ArcLists) : Type 0 where
  pub quiet_only : (b : Arc) → IsIn b a.quiet → Quiet moves b.from b.to
  pub quiet_all : (m : Move) → IsIn m moves → m.label ≡ None → IsIn (move_arc m) a.quiet
  pub entering_only : (b : Arc) → IsIn b a.entering → Quiet moves b.to b.from
  pub entering_all : (m : Move) → IsIn m moves → m.label ≡ None → IsIn (turned_arc m) a.entering
  pub loud_are : AreLoud moves a.loud

-- what leads from the second state to the end leads there from the first
abbrev pub Covers : List Move → ℕ → ℕ → ℕ → Type 0
Covers moves finish first second = (w : List Label) → Steps moves finish second w →
    Steps moves finish first w

-- empty moves alone leave the state, and it is not the end
pub record IsPassedOn (a : ArcLists) (state : ℕ) : Type 0 where
  pub goes_on : state ≢ a.finish
  pub silent : arcs_at a.loud state ≡ []

-- one of these arcs enters the state
pub record AreEntering (arcs : List Arc) (state : ℕ) : Type 0 where
  pub arc : Arc
  pub listed : IsIn arc arcs
  pub to_is : arc.to ≡ state

-- from a state that one of these arcs enters, empty moves lead to the state
pub record AreFollowedBy (moves : List Move) (arcs : List Arc) (state : ℕ) : Type 0 where
  pub arc : Arc
  pub listed : IsIn arc arcs
  pub quiet : Quiet moves arc.to state

-- from the state, empty moves lead to one that one of these arcs enters
pub record IsLeadingToAny (moves : List Move) (state : ℕ) (arcs : List Arc) : Type 0 where
  pub arc : Arc
  pub listed : IsIn arc arcs
  pub quiet : Quiet moves state arc.to

-- one of these arcs enters the state that was found, which covers a state
pub record AreCoveringBy (moves : List Move) (finish : ℕ) (arcs : List Arc)
    (state found : ℕ) : Type 0 where
  pub arc : Arc
  pub listed : IsIn arc arcs
  pub to_is : arc.to ≡ found
  pub covers : Covers moves finish found state

-- a state that may stand for another: empty moves lead to it, and what leads to the end from the
-- other leads there from it
pub record IsLead (moves : List Move) (finish state lead : ℕ) : Type 0 where
  pub quiet : Quiet moves state lead
  pub covers : Covers moves finish lead state

-- for the move at each place, a state that stands for the one that it enters
pub record IsLedAt (moves : List Move) (finish : ℕ) (leads : List ℕ) (p : ℕ) (m : Move) : Type 0 where
  pub lead : ℕ
  pub at : slice_get leads p ≡ Some lead
  pub is : IsLead moves finish m.to lead

abbrev pub AreLeads : List Move → ℕ → List ℕ → Type 0
AreLeads moves finish leads = (p : ℕ) (m : Move) → slice_get moves p ≡ Some m →
    IsLedAt moves finish leads p m

-- the place of a labelled move to which empty moves lead from the state
pub record IsExit (moves : List Move) (state p : ℕ) : Type 0 where
  pub move : Move
  pub at : slice_get moves p ≡ Some move
  pub loud : is_quiet move ≡ false
  pub quiet : Quiet moves state move.from

-- the moves at these places have one label, and what follows the second follows the first
pub record IsLike (moves : List Move) (finish p q : ℕ) : Type 0 where
  pub first : Move
  pub first_at : slice_get moves p ≡ Some first
  pub second : Move
  pub second_at : slice_get moves q ≡ Some second
  pub same : first.label ≡ second.label
  pub covers : Covers moves finish first.to second.to

-- the move at one of these places may stand for the one at this place
pub record IsHeld (moves : List Move) (finish : ℕ) (row : List ℕ) (p : ℕ) : Type 0 where
  pub place : ℕ
  pub listed : IsIn place row
  pub like : IsLike moves finish place p

-- the move at the place before stands for the one at this place
pub record IsLikeBefore (moves : List Move) (finish : ℕ) (places : List ℕ) (at : ℕ) : Type 0 where
  pub some : 0 < at
  pub before : ℕ
  pub before_at : slice_get places (at - 1) ≡ Some before
  pub place : ℕ
  pub place_at : slice_get places at ≡ Some place
  pub like : IsLike moves finish before place

-- the place with this number goes last, unless the move before stands for its move
pub data AddsUnlessLike (moves : List Move) (finish : ℕ) (places : List ℕ) (at : ℕ)
    (old new : List ℕ) : Type 0 where
  beyond : None ≡ slice_get places at → new ≡ old → AddsUnlessLike moves finish places at old new
  held : IsLikeBefore moves finish places at → new ≡ old →
      AddsUnlessLike moves finish places at old new
  other : (place : ℕ) → slice_get places at ≡ Some place → new ≡ old ++ place ∷ [] →
      AddsUnlessLike moves finish places at old new

-- places of labelled moves that follow the state, which stand for all of these
pub record IsRow (moves : List Move) (finish state : ℕ) (row : List ℕ) : Type 0 where
  pub only : (p : ℕ) → IsIn p row → IsExit moves state p
  pub all : (p : ℕ) → IsExit moves state p → IsHeld moves finish row p

-- each state that has a row is followed by it
abbrev pub AreRows : List Move → ℕ → (ℕ → Option (Vec ℕ Global)) → Type 0
AreRows moves finish row_at = (state : ℕ) (row : Vec ℕ Global) → row_at state ≡ Some row →
    IsRow moves finish state row.items

-- a search goes on at a state: by its row, or by the moves that leave it
pub data GoesOn (a : ArcLists) (row_at : ℕ → Option (Vec ℕ Global)) (state : ℕ)
    (old_near near old_places places : List ℕ) : Type 0 where
  by_row : (row : Vec ℕ Global) → row_at state ≡ Some row → near ≡ old_near →
      places ≡ old_places ++ row.items → GoesOn a row_at state old_near near old_places places
  by_arcs : Grows old_near (map arc_to (arcs_at a.quiet state)) near →
      places ≡ old_places ++ map arc_to (arcs_at a.loud state) →
      GoesOn a row_at state old_near near old_places places

-- the first stays, all others too, and the lead of the labelled move at this place is there
pub record KeepsOn (moves : List Move) (leads : List ℕ) (at : ℕ) (old new : List ℕ) : Type 0 where
  pub first : (s : ℕ) → slice_get old 0 ≡ Some s → slice_get new 0 ≡ Some s
  pub stays : (s : ℕ) → IsIn s old → IsIn s new
  pub there : (m : Move) (s : ℕ) → slice_get moves at ≡ Some m → is_quiet m ≡ false →
      slice_get leads at ≡ Some s → IsIn s new

-- the start is the first, and the leads of labelled moves are there
pub record AreKept (moves : List Move) (leads : List ℕ) (start : ℕ) (kept : List ℕ) : Type 0 where
  pub first : slice_get kept 0 ≡ Some start
  pub there : (p : ℕ) (m : Move) (s : ℕ) → slice_get moves p ≡ Some m → is_quiet m ≡ false →
      slice_get leads p ≡ Some s → IsIn s kept
