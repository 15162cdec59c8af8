-- Of the inside: no public contract stands on this file.
use Rattle.std.specs.Prelude.{◌≡◌, ◌⊎◌, ℕ, List, Option, Some, slice_get}
use Rattle.std.specs.declared.alloc.Global.{Global}
use Rattle.std.specs.declared.vec.Vec.{Vec}
use Rattle.ap_fst.specs.Lists.{IsIn}
use Rattle.ap_fst.specs.Graphs.{place_of}
use Rattle.ap_fst.specs.Covering.{IsExit, IsLike}
use Rattle.ap_fst.specs.declared.draft.Move.{Move}
use Rattle.ap_fst.specs.declared.label.Edge.{Edge}

-- the edge of the labelled move at a place: from this number, to the number of the state that
-- stands for the one that the move enters
pub record IsMoved (moves : List Move) (leads kept : List ℕ) (number p : ℕ) (e : Edge) : Type 0 where
  pub move : Move
  pub move_at : slice_get moves p ≡ Some move
  pub label_is : move.label ≡ Some e.label
  pub from_is : e.from ≡ number
  pub lead : ℕ
  pub lead_at : slice_get leads p ≡ Some lead
  pub to_is : place_of kept lead ≡ Some e.to

-- the same of the move at one of these places
pub record IsMovedBy (moves : List Move) (leads kept : List ℕ) (number : ℕ) (row : List ℕ)
    (e : Edge) : Type 0 where
  pub place : ℕ
  pub listed : IsIn place row
  pub moved : IsMoved moves leads kept number place e

-- the edge of a labelled move that follows the state with this number
pub record IsEdgeOut (moves : List Move) (leads kept : List ℕ) (number : ℕ) (e : Edge) : Type 0 where
  pub start : ℕ
  pub start_at : slice_get kept number ≡ Some start
  pub place : ℕ
  pub exit : IsExit moves start place
  pub moved : IsMoved moves leads kept number place e

-- the edge of a move that stands for the one at this place is there
pub record HasEdge (moves : List Move) (finish : ℕ) (leads kept : List ℕ) (number : ℕ)
    (edges : List Edge) (p : ℕ) : Type 0 where
  pub place : ℕ
  pub like : IsLike moves finish place p
  pub there : (e : Edge) → IsMoved moves leads kept number place e → IsIn e edges

-- for each labelled move that follows the state with this number there is such an edge
abbrev pub HasEdges : List Move → ℕ → List ℕ → List ℕ → ℕ → List Edge → Type 0
HasEdges moves finish leads kept number edges = (s p : ℕ) → slice_get kept number ≡ Some s →
    IsExit moves s p → HasEdge moves finish leads kept number edges p

-- the list keeps its edges, and takes on edges of moves that follow the state with this number:
-- one that stands for each
pub record AddsEdges (moves : List Move) (finish : ℕ) (leads kept : List ℕ) (number : ℕ)
    (old new : List Edge) : Type 0 where
  pub only : (e : Edge) → IsIn e new → IsIn e old ⊎ IsEdgeOut moves leads kept number e
  pub stays : (e : Edge) → IsIn e old → IsIn e new
  pub all : HasEdges moves finish leads kept number new

-- edges of moves that follow the states with these numbers: one that stands for each
pub record AreEdges (moves : List Move) (finish : ℕ) (leads kept : List ℕ)
    (edges : List Edge) : Type 0 where
  pub only : (e : Edge) → IsIn e edges → IsEdgeOut moves leads kept e.from e
  pub all : (number : ℕ) → HasEdges moves finish leads kept number edges

-- a row more: each state has the row that it had, but for this one
abbrev pub KeepsRow : (ℕ → Option (Vec ℕ Global)) → (ℕ → Option (Vec ℕ Global)) → ℕ →
    Vec ℕ Global → Type 0
KeepsRow old new state row = (s : ℕ) (r : Vec ℕ Global) → new s ≡ Some r →
    (old s ≡ Some r) ⊎ ((s ≡ state) × (r ≡ row))
