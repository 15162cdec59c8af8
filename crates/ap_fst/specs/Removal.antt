-- Of the inside: no public contract stands on this file.
use Rattle.std.specs.Prelude.{◌++◌, ◌≡◌, ◌⊎◌, ℕ, List, [], ◌∷◌, Bool, not, false, Some, slice_get}
use Rattle.std.specs.Option.{is_some}
use Rattle.ap_fst.specs.Lists.{IsIn}
use Rattle.ap_fst.specs.declared.graph.Arc.{Arc}
use Rattle.ap_fst.specs.declared.draft.Move.{Move}

-- the list keeps what it held, and takes on what has P and nothing else
pub record AddsWhere {X : Type 0} (P : X → Type 0) (old new : List X) : Type 0 where
  pub only : (x : X) → IsIn x new → IsIn x old ⊎ P x
  pub stays : (x : X) → IsIn x old → IsIn x new
  pub there : (x : X) → P x → IsIn x new

-- the move has no label
abbrev pub is_quiet : Move → Bool
is_quiet m = not (is_some m.label)

abbrev pub move_arc : Move → Arc
move_arc m = record { from = m.from; to = m.to }

abbrev pub turned_arc : Move → Arc
turned_arc m = record { from = m.to; to = m.from }

-- the labelled move at this place, as an arc from its state to its place
pub record IsLoudArc (moves : List Move) (at : ℕ) (a : Arc) : Type 0 where
  pub move : Move
  pub move_at : slice_get moves at ≡ Some move
  pub loud : is_quiet move ≡ false
  pub from_is : a.from ≡ move.from
  pub to_is : a.to ≡ at

-- all of them
pub record AreLoud (moves : List Move) (arcs : List Arc) : Type 0 where
  pub only : (a : Arc) → IsIn a arcs → IsLoudArc moves a.to a
  pub there : (at : ℕ) (a : Arc) → IsLoudArc moves at a → IsIn a arcs

-- a number whose state is among these
pub record IsNumberIn (kept back : List ℕ) (number : ℕ) : Type 0 where
  pub state : ℕ
  pub at : slice_get kept number ≡ Some state
  pub listed : IsIn state back

-- the number goes last where its state is among these, and else nothing changes
pub data AddsFinal (kept back : List ℕ) (number : ℕ) (old new : List ℕ) : Type 0 where
  added : IsNumberIn kept back number → new ≡ old ++ number ∷ [] →
      AddsFinal kept back number old new
  same : (IsNumberIn kept back number → ⊥) → new ≡ old → AddsFinal kept back number old new
