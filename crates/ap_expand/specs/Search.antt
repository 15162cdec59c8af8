use Rattle.std.specs.Prelude.{◌≡◌, ℕ, ◌+◌, ◌==◌, ◌≤◌, Bool, true, false, ◌||◌, if◌then◌else◌, List, [], ◌∷◌, ◌++◌, Option, Some, None, length, take, get_or}
use Rattle.std.specs.Option.{option_to_list}
use Rattle.std.specs.List.{flat_map}
use Rattle.ap_symbol.specs.Rendering.{rendering}
use Rattle.ap_dix.specs.declared.dictionary.Entry.{Entry}
use Rattle.ap_dix.specs.declared.dictionary.EntryPart.{EntryPart}
use Rattle.ap_dix.specs.declared.dictionary.EntryPart.TheVariants.{Identity, Pair, Paradigm, Expression}
use Rattle.ap_dix.specs.declared.dictionary.Pardef.{Pardef}
use Rattle.ap_dix.specs.declared.dictionary.Section.{Section}
use Rattle.ap_dix.specs.declared.dictionary.Side.{Side}
pub use Rattle.ap_expand.specs.Uses.{is_lr, is_rl}
use Rattle.ap_expand.specs.Uses.{is_barren}
use Rattle.ap_expand.specs.declared.uses.Uses.{Uses}
use Rattle.ap_expand.specs.Lines.{Way, words, way_line, expression_bytes}
use Rattle.ap_expand.specs.declared.frame.Frame.{Frame}

-- The search for the next line takes steps, and each step gives a line or none.

-- what follows a way, and what an open paradigm gives before what follows
abbrev pub Follow : Type 0
Follow = Way → List (Option (List ℕ))

abbrev pub Opening : Type 0
Opening = Follow → Way → List (Option (List ℕ))

-- a way with these words behind its own
abbrev pub with_words : Way → List ℕ → List ℕ → Way
with_words way left right =
    record { left = way.left ++ left; right = way.right ++ right; lr = way.lr; rl = way.rl }

-- a way on which an entry of that side is used as well
abbrev pub with_side : Way → Side → Way
with_side way side = record {
  left = way.left;
  right = way.right;
  lr = way.lr || is_lr side;
  rl =
      way.rl || is_rl side;
}

-- a paradigm without entries
abbrev pub no_entries : Opening
no_entries follow way = None ∷ []

-- the steps from these parts on
abbrev pub parts_trace : List Opening → List EntryPart → Opening
parts_trace above [] follow way = follow way
parts_trace above (Identity word ∷ parts) follow way =
    parts_trace above parts follow (with_words way (rendering word) (rendering word))
parts_trace above (Pair left right ∷ parts) follow way =
    parts_trace above parts follow (with_words way (rendering left) (rendering right))
parts_trace above (Expression e text ∷ parts) follow way =
    parts_trace above parts follow (with_words way (expression_bytes text) (expression_bytes text))
parts_trace above (Paradigm n ∷ parts) follow way =
    None ∷ get_or above n no_entries (parts_trace above parts follow) way

-- the steps of an entry; it is passed over where it is ignored, or each way on through it would use
-- entries of both kinds
abbrev pub is_passed : List Uses → Bool → Bool → Entry → Bool
is_passed uses lr rl entry = entry.ignored || is_barren uses lr rl entry

abbrev pub entry_trace : List Uses → List Opening → Entry → Opening
entry_trace uses above entry follow way = if is_passed uses way.lr way.rl entry then None ∷ []
    else parts_trace above entry.parts follow (with_side way entry.side)

-- the steps of some entries, of which the last one passes on to what was open before
abbrev pub entries_trace : List Uses → List Opening → List Entry → Opening
entries_trace uses above [] follow way = None ∷ []
entries_trace uses above (entry ∷ entries) follow way = entry_trace uses above entry follow way
    ++ entries_trace uses above entries follow way

-- the steps of the paradigms
abbrev pub pardefs_trace : List Uses → List Opening → List Pardef → List Opening
pardefs_trace uses above [] = above
pardefs_trace uses above (pardef ∷ pardefs) =
    pardefs_trace uses (above ++ entries_trace uses above pardef.entries ∷ []) pardefs

-- at the end of a way stands its line
abbrev pub end_trace : Follow
end_trace way = way_line way ∷ []

-- the steps of some sections
abbrev pub sections_trace : List Uses → List Opening → List Section → List (Option (List ℕ))
sections_trace uses above [] = []
sections_trace uses above (section ∷ sections) =
    entries_trace uses above section.entries end_trace (words [] [])
    ++ sections_trace uses above sections

-- the parts that are left to do from that frame on, which is numbered from 1 at the bottom; the
-- list has the top first
abbrev pub todo_of : List Frame → ℕ → List EntryPart
todo_of [] number = []
todo_of (frame ∷ below) number = if number == length below + 1
    then frame.rest.now ++ todo_of below frame.parent else todo_of below number

-- a frame's way
abbrev pub frame_way : List ℕ → List ℕ → Frame → Way
frame_way left right frame =
    record {
      left = take frame.left_len left;
      right = take frame.right_len right;
      lr =
          frame.lr;
      rl = frame.rl;
    }

-- the steps of a frame above these
abbrev pub frame_trace : List Uses → List Opening → List ℕ → List ℕ → Frame → List Frame →
    List (Option (List ℕ))
frame_trace uses above left right frame below =
    entries_trace uses above frame.entries.now
    (parts_trace above (frame.rest.now ++ todo_of below frame.parent) end_trace)
    (frame_way left right frame)

-- the steps of the frames, the top first
abbrev pub stack_trace : List Uses → List Opening → List ℕ → List ℕ → List Frame →
    List (Option (List ℕ))
stack_trace uses above left right [] = []
stack_trace uses above left right (frame ∷ below) = frame_trace uses above left right frame below
    ++ stack_trace uses above (take frame.left_len left) (take frame.right_len right) below

-- each frame's words begin those of the one above it, and its parent stands below it
abbrev pub IsStack : List ℕ → List ℕ → List Frame → Type 0
IsStack left right [] = Unit {0}
IsStack left right (frame ∷ below) = (frame.parent ≤ length below) × (frame.left_len ≤ length left)
    × (frame.right_len ≤ length right)
    × IsStack (take frame.left_len left) (take frame.right_len right) below

-- each frame's parent stands below it
abbrev pub AreLinked : List Frame → Type 0
AreLinked [] = Unit {0}
AreLinked (frame ∷ below) = (frame.parent ≤ length below) × AreLinked below

-- the lines among the steps
abbrev pub lines_among : List (Option (List ℕ)) → List (List ℕ)
lines_among steps = flat_map (λ (step : Option (List ℕ)). option_to_list step) steps

-- the second list begins with the first
pub record Begins (xs ys : List ℕ) : Type 0 where
  pub more : List ℕ
  pub is : ys ≡ xs ++ more

-- the step that was taken where a line was written, or none
abbrev pub written_step : Bool → List ℕ → Option (List ℕ)
written_step true line = Some line
written_step false line = None
