use Rattle.std.specs.Prelude.{◌≡◌, ℕ, ◌≤◌, false, IsTrue, List, [], ◌∷◌, ◌++◌, Option, Some, None, length, reverse, zero, suc}
use Rattle.ap_dix.specs.Soundness.{are_sound_pardefs}
use Rattle.ap_dix.specs.declared.dictionary.EntryPart.{EntryPart}
use Rattle.ap_dix.specs.declared.dictionary.Entry.{Entry}
use Rattle.ap_dix.specs.declared.dictionary.Pardef.{Pardef}
use Rattle.ap_expand.specs.Lines.{Way}
use Rattle.ap_expand.specs.Search.{IsStack, pardefs_trace, stack_trace, sections_trace, frame_trace, written_step, lines_among}
use Rattle.ap_expand.specs.Walks.{todo_trace}
use Rattle.ap_expand.specs.declared.frame.Frame.{Frame}
use Rattle.ap_expand.specs.declared.uses.Uses.{Uses}
use Rattle.ap_expand.specs.declared.search.Search.{Search}
use Rattle.ap_expand.specs.declared.search.Arrival.{Arrival}
use Rattle.ap_expand.specs.declared.search.Arrival.TheVariants.{Opened, Ended}
use Rattle.ap_expand.specs.declared.search.Step.{Step}
use Rattle.ap_expand.specs.declared.search.Step.TheVariants.{Line, NoLine, End}

-- the steps that are still to come
abbrev pub search_trace : Search → List (Option (List ℕ))
search_trace s = stack_trace s.uses.items (pardefs_trace s.uses.items [] s.pardefs.now) s.left.items
    s.right.items (s.top ∷ reverse s.below.items)
    ++ sections_trace s.uses.items (pardefs_trace s.uses.items [] s.pardefs.now) s.sections.now

-- a search as it stands between two steps
pub record IsSearch (s : Search) : Type 0 where
  pub stack : IsStack s.left.items s.right.items (s.top ∷ reverse s.below.items)
  pub sound : IsTrue (are_sound_pardefs 0 s.pardefs.now)

-- the entries of the paradigm of that number
abbrev pub entries_at : List Pardef → ℕ → List Entry
entries_at [] n = []
entries_at (pardef ∷ pardefs) zero = pardef.entries
entries_at (pardef ∷ pardefs) (suc n) = entries_at pardefs n

-- an entry was entered: the frame that is to open, or the end of the way
abbrev pub Advanced : List Uses → List Pardef → List Frame → List EntryPart → Way → List ℕ →
    List ℕ → List ℕ → Arrival → Type 0
Advanced uses pardefs frames parts way left right line (Opened frame) =
    (todo_trace (pardefs_trace uses [] pardefs) (reverse frames) parts (length frames) way ≡ None
    ∷ frame_trace uses (pardefs_trace uses [] pardefs) left right frame (reverse frames))
    × (frame.parent ≤ length frames) × (frame.left_len ≡ length left)
    × (frame.right_len ≡ length right) × (line ≡ [])
Advanced uses pardefs frames parts way left right line (Ended written) =
    (todo_trace (pardefs_trace uses [] pardefs) (reverse frames) parts (length frames) way
    ≡ written_step written line ∷ []) × (written ≡ false → line ≡ [])

-- what a step took from the steps to come
abbrev pub Took : Search → Search → List ℕ → Step → Type 0
Took old new line Line = search_trace old ≡ Some line ∷ search_trace new
Took old new line NoLine = (search_trace old ≡ None ∷ search_trace new) × (line ≡ [])
Took old new line End = (lines_among (search_trace old) ≡ [])
    × (lines_among (search_trace new) ≡ []) × (line ≡ [])

-- the frame of a section
pub record IsSectionFrame (entries : List Entry) (frame : Frame) : Type 0 where
  pub entries_are : frame.entries.now ≡ entries
  pub rest_is : frame.rest.now ≡ []
  pub parent_is : frame.parent ≡ 0
  pub left_is : frame.left_len ≡ 0
  pub right_is : frame.right_len ≡ 0
  pub lr_is : frame.lr ≡ false
  pub rl_is : frame.rl ≡ false
