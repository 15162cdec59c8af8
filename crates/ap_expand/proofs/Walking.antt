use Rattle.std.proofs.Common.{◌≡◌, ℕ, ◌+◌, ◌<◌, ◌≤◌, Bool, List, [], ◌++◌, length, get_or, take, arith, ap, ◌∙◌}
use Rattle.std.specs.Prelude.{reverse}
use Rattle.std.proofs.lemmas.List.{take-append-le, length-append, nil_from_length}
use Rattle.ap_dix.specs.declared.dictionary.EntryPart.{EntryPart}
use Rattle.ap_expand.specs.Search.{Opening, parts_trace, todo_of, end_trace, AreLinked, Begins}
use Rattle.ap_expand.specs.Walks.{SameSteps, todo_trace, way_of}
use Rattle.ap_expand.specs.declared.frame.Frame.{Frame}
use Rattle.ap_expand.proofs.Todo.{Parent, parent-of, todo_of-zero}

pub begins-take : (xs ys : List ℕ) (n : ℕ) → Begins xs ys → n ≤ length xs → take n ys ≡ take n xs
begins-take xs ys n h le = ap (take n) h.is ∙ take-append-le n xs h.more le

pub begins-length : (xs ys : List ℕ) → Begins xs ys → length xs ≤ length ys
begins-length xs ys h = omega (arith, ap length h.is, length-append xs h.more)

-- how far a walk has come
pub record Walked (frames : List Frame) (parts : List EntryPart) (parent : ℕ) (left right : List ℕ)
    (new_parts : List EntryPart) (new_parent : ℕ) (new_left new_right : List ℕ) : Type 0 where
  pub bound : new_parent ≤ length frames
  pub steps : SameSteps (reverse frames) parts parent left right new_parts new_parent
      new_left new_right
  pub left_begins : Begins left new_left
  pub right_begins : Begins right new_right

pub walked-parent : (frames : List Frame) (parts : List EntryPart) (parent : ℕ)
    (left right : List ℕ) (now_parts : List EntryPart) (now : ℕ) (now_left now_right : List ℕ)
    (q : ℕ) (frame : Frame)
    → Walked frames parts parent left right now_parts now now_left now_right →
    AreLinked (reverse frames) → length now_parts ≡ 0 → now ≡ q + 1 → q < length frames →
    frame ≡ get_or frames q frame
    → Walked frames parts parent left right frame.rest.now frame.parent now_left now_right
walked-parent frames parts parent left right now_parts now now_left now_right q frame w linked
    none e lt is =
    let p : Parent frames q frame = parent-of frames q frame lt is linked in
    let lower : frame.parent ≤ q = p.lower in
    record {
      bound = omega arith;
      steps = λ above lr rl. w.steps above lr rl
          ∙ ap (λ ps. todo_trace above (reverse frames) ps now (way_of now_left now_right lr rl))
          (nil_from_length now_parts none)
          ∙ ap (λ n. todo_trace above (reverse frames) [] n (way_of now_left now_right lr rl)) e
          ∙ ap (λ ps. parts_trace above ps end_trace (way_of now_left now_right lr rl)) p.todo;
      left_begins = w.left_begins;
      right_begins = w.right_begins;
    }

-- the parent has the same parts to go, and stands lower
pub parent-smaller : (frames : List Frame) (now_parts : List EntryPart) (now : ℕ) (q : ℕ)
    (frame : Frame) → AreLinked (reverse frames) → length now_parts ≡ 0 → now ≡ q + 1 →
    q < length frames → frame ≡ get_or frames q frame
    → length (frame.rest.now ++ todo_of (reverse frames) frame.parent) + frame.parent < length
    (now_parts ++ todo_of (reverse frames) now) + now
parent-smaller frames now_parts now q frame linked none e lt is =
    let p : Parent frames q frame = parent-of frames q frame lt is linked in
    let lower : frame.parent ≤ q = p.lower in
    let same : length (now_parts ++ todo_of (reverse frames) now)
    ≡ length (frame.rest.now ++ todo_of (reverse frames) frame.parent) =
    ap (λ (ps : List EntryPart). length (ps ++ todo_of (reverse frames) now))
    (nil_from_length now_parts none)
    ∙ ap (λ n. length (todo_of (reverse frames) n)) e
    ∙ ap (λ (ps : List EntryPart). length ps) p.todo
    in omega arith

pub walked-end : (frames : List Frame) (parts : List EntryPart) (parent : ℕ) (left right : List ℕ)
    (now_parts : List EntryPart) (now : ℕ) (now_left now_right : List ℕ)
    → Walked frames parts parent left right now_parts now now_left now_right →
    length now_parts ≡ 0 → now ≡ 0
    → (above : List Opening) (lr rl : Bool) →
    todo_trace above (reverse frames) parts parent (way_of left right lr rl)
    ≡ end_trace (way_of now_left now_right lr rl)
walked-end frames parts parent left right now_parts now now_left now_right w none e above lr rl =
    w.steps above lr rl
    ∙ ap (λ ps. todo_trace above (reverse frames) ps now (way_of now_left now_right lr rl))
    (nil_from_length now_parts none)
    ∙ ap (λ n. todo_trace above (reverse frames) [] n (way_of now_left now_right lr rl)) e
    ∙ ap (λ ps. parts_trace above ps end_trace (way_of now_left now_right lr rl))
    (todo_of-zero (reverse frames))
