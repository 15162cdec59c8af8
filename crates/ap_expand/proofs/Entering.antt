use Rattle.std.proofs.Common.{◌≡◌, ℕ, ◌+◌, ◌-◌, ◌≤◌, Bool, false, ◌||◌, List, [], ◌∷◌, ◌++◌, length, take, arith, sym, ap, ◌∙◌, subst, Option, None, Bor}
use Rattle.std.specs.Prelude.{IsTrue, reverse, if◌then◌else◌}
use Rattle.std.proofs.lemmas.List.{append_assoc, reverse-append, length-reverse, length-append, length-take-le, take-take, take_all, take_at}
use Rattle.ap_dix.specs.Soundness.{are_sound_pardefs}
use Rattle.ap_dix.specs.declared.dictionary.Entry.{Entry}
use Rattle.ap_dix.specs.declared.dictionary.EntryPart.{EntryPart}
use Rattle.ap_dix.specs.declared.dictionary.EntryPart.TheVariants.{Paradigm}
use Rattle.ap_dix.specs.declared.dictionary.Pardef.{Pardef}
use Rattle.ap_expand.specs.Lines.{Way}
use Rattle.ap_expand.specs.Search.{Opening, Follow, parts_trace, entry_trace, entries_trace, pardefs_trace, stack_trace, frame_trace, frame_way, todo_of, end_trace, with_side, is_lr, is_rl, AreLinked, IsStack, Begins, is_passed}
use Rattle.ap_expand.specs.declared.uses.Uses.{Uses}
use Rattle.ap_expand.specs.Walks.{SameSteps, todo_trace, way_of}
use Rattle.ap_expand.specs.Places.{entries_at}
use Rattle.ap_expand.specs.declared.frame.Frame.{Frame}
use Rattle.ap_expand.proofs.Todo.{todo_of-top, stack-linked}
use Rattle.ap_expand.proofs.Traces.{parts_trace-append}
use Rattle.ap_expand.proofs.Paradigms.{paradigm-opens}
use Rattle.ap_expand.proofs.Walking.{begins-take, begins-length}

module _ (uses : List Uses) where
  -- the frame of a paradigm that a walk came to
  pub met-steps : (pardefs : List Pardef) (frames : List Frame) (parts : List EntryPart) (parent : ℕ)
      (left right new_left new_right : List ℕ) (lr rl : Bool) (number : ℕ) (frame : Frame)
      → IsTrue (are_sound_pardefs 0 pardefs)
      → SameSteps frames parts parent left right (Paradigm number ∷ frame.rest.now) frame.parent
      new_left new_right
      → frame.entries.now ≡ entries_at pardefs number → frame.left_len ≡ length new_left →
      frame.right_len ≡ length new_right → frame.lr ≡ lr → frame.rl ≡ rl
      → todo_trace (pardefs_trace uses [] pardefs) frames parts parent (way_of left right lr rl) ≡ None
      ∷ frame_trace uses (pardefs_trace uses [] pardefs) new_left new_right frame frames
  met-steps pardefs frames parts parent left right new_left new_right lr rl number frame sound steps
      entries ll rll lr_is rl_is =
      let follow : Follow = parts_trace (pardefs_trace uses [] pardefs)
      (frame.rest.now ++ todo_of frames frame.parent) end_trace in
      let left_is : take frame.left_len new_left ≡ new_left =
      take_all frame.left_len new_left (omega arith) in
      let right_is : take frame.right_len new_right ≡ new_right =
      take_all frame.right_len new_right (omega arith) in
      let way_is : way_of new_left new_right lr rl ≡ frame_way new_left new_right frame =
      ap (λ s. way_of s new_right lr rl) (sym left_is)
      ∙ ap (λ s. way_of (take frame.left_len new_left) s lr rl) (sym right_is)
      ∙ ap (λ b. way_of (take frame.left_len new_left) (take frame.right_len new_right) b rl)
      (sym lr_is) ∙ ap (λ b. way_of (take frame.left_len new_left)
      (take frame.right_len new_right) frame.lr b) (sym rl_is)
      in
      steps (pardefs_trace uses [] pardefs) lr rl
      ∙ ap (λ s. None ∷ s) (paradigm-opens uses pardefs number follow
      (way_of new_left new_right lr rl) sound)
      ∙ ap (λ (es : List Entry). None
      ∷ entries_trace uses (pardefs_trace uses [] pardefs) es follow (way_of new_left new_right lr rl))
      (sym entries)
      ∙ ap (λ (w : Way). None ∷ entries_trace uses (pardefs_trace uses [] pardefs) frame.entries.now
      follow w) way_is

pub reverse-push : (frames below : List Frame) (frame : Frame) → frames ≡ below ++ frame ∷ [] →
    reverse frames ≡ frame ∷ reverse below
reverse-push frames below frame is = ap reverse is ∙ reverse-append below (frame ∷ [])

-- a frame with other entries
abbrev pub with_entries : Frame → Bor (List Entry) → Frame
with_entries frame others =
    record {
      entries = others;
      rest = frame.rest;
      parent = frame.parent;
      left_len =
          frame.left_len;
      right_len = frame.right_len;
      lr = frame.lr;
      rl = frame.rl;
    }

pub push-linked : (left right : List ℕ) (below frames : List Frame) (top : Frame)
    (others : Bor (List Entry)) → IsStack left right (top ∷ reverse below) →
    frames ≡ below ++ with_entries top others ∷ [] → AreLinked (reverse frames)
push-linked left right below frames top others stack is =
    subst AreLinked (sym (reverse-push frames below (with_entries top others) is))
    (stack.0, (stack-linked left right (top ∷ reverse below) stack).1)

kept-words : (xs mid new : List ℕ) (n : ℕ) → n ≤ length xs → mid ≡ take n xs → Begins mid new →
    take n new ≡ take n xs
kept-words xs mid new n le is begins =
    let count : length mid ≡ n = ap length is ∙ length-take-le n xs le in
    begins-take mid new n begins (omega arith) ∙ ap (take n) is ∙ take-take n n xs (omega arith)

words-stay : (xs mid new : List ℕ) (n : ℕ) → n ≤ length xs → mid ≡ take n xs → Begins mid new →
    n ≤ length new
words-stay xs mid new n le is begins =
    let count : length mid ≡ n = ap length is ∙ length-take-le n xs le in
    let more : length mid ≤ length new = begins-length mid new begins in
    omega arith

-- the frame of a paradigm stands on the others
pub opened-stack : (left right : List ℕ) (below : List Frame) (top : Frame)
    (others : Bor (List Entry)) (mid_left mid_right : List ℕ) (frames : List Frame)
    (new_left new_right : List ℕ) (frame : Frame) → IsStack left right (top ∷ reverse below) →
    mid_left ≡ take top.left_len left → mid_right ≡ take top.right_len right →
    frames ≡ below ++ with_entries top others ∷ [] → Begins mid_left new_left →
    Begins mid_right new_right → frame.parent ≤ length frames →
    frame.left_len ≡ length new_left → frame.right_len ≡ length new_right →
    IsStack new_left new_right (frame ∷ reverse frames)
opened-stack left right below top others mid_left mid_right frames new_left new_right frame stack
    left_is right_is frames_are left_begins right_begins parent ll rll =
    let reversed : reverse frames ≡ with_entries top others ∷ reverse below =
    reverse-push frames below (with_entries top others) frames_are in
    let whole_left : take frame.left_len new_left ≡ new_left =
    take_all frame.left_len new_left (omega arith) in
    let whole_right : take frame.right_len new_right ≡ new_right =
    take_all frame.right_len new_right (omega arith) in
    let lower : IsStack (take top.left_len new_left) (take top.right_len new_right)
    (reverse below) =
    subst (λ s. IsStack s (take top.right_len new_right) (reverse below))
    (sym (kept-words left mid_left new_left top.left_len stack.1 left_is left_begins))
    (subst (λ s. IsStack (take top.left_len left) s (reverse below))
    (sym (kept-words right mid_right new_right top.right_len stack.2 right_is right_begins))
    stack.3) in
    let rest : IsStack new_left new_right (with_entries top others ∷ reverse below) = (
      stack.0,
      words-stay left mid_left new_left top.left_len stack.1 left_is left_begins,
      words-stay right mid_right new_right top.right_len stack.2 right_is right_begins,
      lower,
    ) in (
      omega (arith, length-reverse frames),
      omega arith,
      omega arith,
      subst (λ fs. IsStack (take frame.left_len new_left) (take frame.right_len new_right) fs)
          (sym reversed)
          (subst (λ s. IsStack s (take frame.right_len new_right)
          (with_entries top others ∷ reverse below)) (sym whole_left)
          (subst (λ s. IsStack new_left s (with_entries top others ∷ reverse below))
          (sym whole_right) rest)),
    )

module _ (uses : List Uses) where
  -- an entry was taken from the top frame
  pub record Enters (left right : List ℕ) (below : List Frame) (top : Frame) (entry : Entry)
      (others : Bor (List Entry)) (mid_left mid_right : List ℕ) (lr rl : Bool) (frames : List Frame)
      (new_left new_right : List ℕ) : Type 0 where
    pub stack : IsStack left right (top ∷ reverse below)
    pub first : top.entries.now ≡ entry ∷ others.now
    pub taken : is_passed uses top.lr top.rl entry ≡ false
    pub lr_is : lr ≡ (top.lr || is_lr entry.side)
    pub rl_is : rl ≡ (top.rl || is_rl entry.side)
    pub left_is : mid_left ≡ take top.left_len left
    pub right_is : mid_right ≡ take top.right_len right
    pub frames_are : frames ≡ below ++ with_entries top others ∷ []
    pub left_begins : Begins mid_left new_left
    pub right_begins : Begins mid_right new_right

  taken-steps : (above : List Opening) (entry : Entry) (follow : Follow) (way : Way) →
      is_passed uses way.lr way.rl entry ≡ false → entry_trace uses above entry follow way
      ≡ parts_trace above entry.parts follow (with_side way entry.side)
  taken-steps above entry follow way h =
      ap (λ b. if b then None ∷ []
      else parts_trace above entry.parts follow (with_side way entry.side)) h

  pub entered : (above : List Opening) (left right : List ℕ) (below : List Frame) (top : Frame)
      (entry : Entry) (others : Bor (List Entry)) (mid_left mid_right : List ℕ) (lr rl : Bool)
      (frames : List Frame) (new_left new_right : List ℕ)
      → Enters left right below top entry others mid_left mid_right lr rl frames new_left new_right
      → stack_trace uses above left right (top ∷ reverse below)
      ≡ todo_trace above (reverse frames) entry.parts (length frames)
      (way_of mid_left mid_right lr rl) ++ stack_trace uses above new_left new_right (reverse frames)
  entered above left right below top entry others mid_left mid_right lr rl frames new_left
      new_right e =
      let follow : Follow = parts_trace above
      (top.rest.now ++ todo_of (reverse below) top.parent) end_trace in
      let way : Way = frame_way left right top in
      let lower : List (Option (List ℕ)) =
      stack_trace uses above (take top.left_len left) (take top.right_len right) (reverse below) in
      let reversed : reverse frames ≡ with_entries top others ∷ reverse below =
      reverse-push frames below (with_entries top others) e.frames_are in
      let count : length frames ≡ length (reverse below) + 1 =
      ap length e.frames_are ∙ length-append below (with_entries top others ∷ [])
      ∙ ap (λ n. n + 1) (sym (length-reverse below)) in
      let way_is : way_of mid_left mid_right lr rl ≡ with_side way entry.side =
      ap (λ s. way_of s mid_right lr rl) e.left_is
      ∙ ap (λ s. way_of (take top.left_len left) s lr rl) e.right_is
      ∙ ap (λ b. way_of (take top.left_len left) (take top.right_len right) b rl) e.lr_is
      ∙ ap (λ b. way_of (take top.left_len left) (take top.right_len right)
      (top.lr || is_lr entry.side) b) e.rl_is
      in
      let parts_are : todo_trace above (reverse frames) entry.parts (length frames)
      (way_of mid_left mid_right lr rl) ≡ entry_trace uses above entry follow way =
      ap (λ fs. todo_trace above fs entry.parts (length frames)
      (way_of mid_left mid_right lr rl)) reversed
      ∙ ap (λ (ps : List EntryPart). parts_trace above (entry.parts ++ ps) end_trace
      (way_of mid_left mid_right lr rl))
      (todo_of-top (with_entries top others) (reverse below) (length frames) count)
      ∙ ap (λ (k : Follow). k (way_of mid_left mid_right lr rl))
      (parts_trace-append above entry.parts
      (top.rest.now ++ todo_of (reverse below) top.parent) end_trace)
      ∙ ap (parts_trace above entry.parts follow) way_is
      ∙ sym (taken-steps above entry follow way e.taken)
      in
      let stack_is : stack_trace uses above new_left new_right (reverse frames)
      ≡ entries_trace uses above others.now follow way ++ lower =
      ap (stack_trace uses above new_left new_right) reversed
      ∙ ap (λ s. entries_trace uses above others.now follow
      (way_of s (take top.right_len new_right) top.lr top.rl)
      ++ stack_trace uses above s (take top.right_len new_right) (reverse below))
      (kept-words left mid_left new_left top.left_len e.stack.1 e.left_is e.left_begins)
      ∙ ap (λ s. entries_trace uses above others.now follow
      (way_of (take top.left_len left) s top.lr top.rl)
      ++ stack_trace uses above (take top.left_len left) s (reverse below))
      (kept-words right mid_right new_right top.right_len e.stack.2 e.right_is e.right_begins)
      in
      ap (λ (es : List Entry). entries_trace uses above es follow way ++ lower) e.first
      ∙ append_assoc (entry_trace uses above entry follow way)
      (entries_trace uses above others.now follow way) lower
      ∙ ap (λ s. s ++ (entries_trace uses above others.now follow way ++ lower)) (sym parts_are)
      ∙ ap (λ s. todo_trace above (reverse frames) entry.parts (length frames)
      (way_of mid_left mid_right lr rl) ++ s) (sym stack_is)

  -- a paradigm opens
  pub opened : (above : List Opening) (sections : List (Option (List ℕ))) (left right : List ℕ)
      (below : List Frame) (top : Frame) (entry : Entry) (others : Bor (List Entry))
      (mid_left mid_right : List ℕ) (lr rl : Bool) (frames : List Frame) (new_left new_right : List ℕ)
      (frame : Frame)
      → Enters left right below top entry others mid_left mid_right lr rl frames new_left new_right
      → todo_trace above (reverse frames) entry.parts (length frames)
      (way_of mid_left mid_right lr rl) ≡ None
      ∷ frame_trace uses above new_left new_right frame (reverse frames)
      → frame.left_len ≡ length new_left → frame.right_len ≡ length new_right
      → stack_trace uses above left right (top ∷ reverse below) ++ sections ≡ None
      ∷ (stack_trace uses above new_left new_right (frame ∷ reverse frames) ++ sections)
  opened above sections left right below top entry others mid_left mid_right lr rl frames new_left
      new_right frame e steps ll rll =
      let left_is : take frame.left_len new_left ≡ new_left =
      take_all frame.left_len new_left (omega arith) in
      let right_is : take frame.right_len new_right ≡ new_right =
      take_all frame.right_len new_right (omega arith) in
      ap (λ s. s ++ sections)
      (entered above left right below top entry others mid_left mid_right lr rl frames
      new_left new_right e
      ∙ ap (λ s. s ++ stack_trace uses above new_left new_right (reverse frames)) steps
      ∙ ap (λ s. None ∷ (frame_trace uses above new_left new_right frame (reverse frames)
      ++ stack_trace uses above s new_right (reverse frames))) (sym left_is)
      ∙ ap (λ s. None ∷ (frame_trace uses above new_left new_right frame (reverse frames)
      ++ stack_trace uses above (take frame.left_len new_left) s (reverse frames))) (sym right_is))

  -- a way ends
  pub ended : (above : List Opening) (sections : List (Option (List ℕ))) (left right : List ℕ)
      (below : List Frame) (top : Frame) (entry : Entry) (others : Bor (List Entry))
      (mid_left mid_right : List ℕ) (lr rl : Bool) (frames : List Frame) (new_left new_right : List ℕ)
      (new_below : List Frame) (step : Option (List ℕ))
      → Enters left right below top entry others mid_left mid_right lr rl frames new_left new_right
      → todo_trace above (reverse frames) entry.parts (length frames)
      (way_of mid_left mid_right lr rl) ≡ step ∷ []
      → new_below ≡ take (length frames - 1) frames
      → stack_trace uses above left right (top ∷ reverse below) ++ sections ≡ step
      ∷ (stack_trace uses above new_left new_right (with_entries top others
      ∷ reverse new_below) ++ sections)
  ended above sections left right below top entry others mid_left mid_right lr rl frames new_left
      new_right new_below step e steps popped =
      let count : length frames ≡ length below + 1 =
      ap length e.frames_are ∙ length-append below (with_entries top others ∷ []) in
      let below_is : new_below ≡ below = popped ∙ ap (take (length frames - 1)) e.frames_are
      ∙ take_at below (with_entries top others ∷ []) (length frames - 1) (omega arith) in
      ap (λ s. s ++ sections)
      (entered above left right below top entry others mid_left mid_right lr rl frames
      new_left new_right e
      ∙ ap (λ s. s ++ stack_trace uses above new_left new_right (reverse frames)) steps
      ∙ ap (λ fs. step ∷ stack_trace uses above new_left new_right fs)
      (reverse-push frames below (with_entries top others) e.frames_are)
      ∙ ap (λ fs. step ∷ stack_trace uses above new_left new_right (with_entries top others ∷ reverse fs))
      (sym below_is))
