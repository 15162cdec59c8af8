-- Of the inside: no public contract stands on this file.
use Rattle.std.specs.Prelude.{◌≡◌, ℕ, ◌≤◌, Bool, List, [], ◌∷◌, ◌++◌, Option, Some, None, length}
use Rattle.ap_symbol.specs.Rendering.{rendering}
use Rattle.ap_dix.specs.declared.dictionary.EntryPart.{EntryPart}
use Rattle.ap_dix.specs.declared.dictionary.EntryPart.TheVariants.{Identity, Pair, Paradigm, Expression}
use Rattle.ap_expand.specs.Lines.{Way, expression_bytes}
use Rattle.ap_expand.specs.Search.{Opening, parts_trace, end_trace, todo_of}
use Rattle.ap_expand.specs.declared.frame.Frame.{Frame}
use Rattle.ap_expand.specs.declared.walk.Met.{Met}

-- the words of a part
abbrev pub part_left : EntryPart → List ℕ
part_left (Identity word) = rendering word
part_left (Pair left right) = rendering left
part_left (Paradigm n) = []
part_left (Expression e text) = expression_bytes text

abbrev pub part_right : EntryPart → List ℕ
part_right (Identity word) = rendering word
part_right (Pair left right) = rendering right
part_right (Paradigm n) = []
part_right (Expression e text) = expression_bytes text

abbrev pub part_number : EntryPart → Option ℕ
part_number (Identity word) = None
part_number (Pair left right) = None
part_number (Paradigm n) = Some n
part_number (Expression e text) = None

-- the words of the part were added, and this is the number of its paradigm
pub record Adds (part : EntryPart) (number : Option ℕ)
    (left right new_left new_right : List ℕ) : Type 0 where
  pub number_is : number ≡ part_number part
  pub left_is : new_left ≡ left ++ part_left part
  pub right_is : new_right ≡ right ++ part_right part

-- the way that has these words
abbrev pub way_of : List ℕ → List ℕ → Bool → Bool → Way
way_of left right lr rl = record { left = left; right = right; lr = lr; rl = rl }

-- the steps from these parts on, with these words before them
abbrev pub todo_trace : List Opening → List Frame → List EntryPart → ℕ → Way →
    List (Option (List ℕ))
todo_trace above frames parts parent way =
    parts_trace above (parts ++ todo_of frames parent) end_trace way

-- the two have the same steps
abbrev pub SameSteps : List Frame → List EntryPart → ℕ → List ℕ → List ℕ → List EntryPart → ℕ →
    List ℕ → List ℕ → Type 0
SameSteps frames parts parent left right new_parts new_parent new_left new_right =
    (above : List Opening) (lr rl : Bool) →
    todo_trace above frames parts parent (way_of left right lr rl)
    ≡ todo_trace above frames new_parts new_parent (way_of new_left new_right lr rl)

-- the walk comes to the paradigm, or to the end
abbrev pub ComesTo : List Frame → List EntryPart → ℕ → List ℕ → List ℕ → Option Met → List ℕ →
    List ℕ → Type 0
ComesTo frames parts parent left right None new_left new_right =
    (above : List Opening) (lr rl : Bool) →
    todo_trace above frames parts parent (way_of left right lr rl)
    ≡ end_trace (way_of new_left new_right lr rl)
ComesTo frames parts parent left right (Some met) new_left new_right = (met.parent ≤ length frames)
    × SameSteps frames parts parent left right (Paradigm met.number ∷ met.rest.now) met.parent
    new_left new_right
