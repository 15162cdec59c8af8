use Rattle.std.proofs.Common.{◌≡◌, ℕ, ◌+◌, ◌<◌, ◌≤◌, List, [], ◌∷◌, ◌++◌, length, take, drop, get_or, arith, sym, ap, ◌∙◌, refl, subst}
use Rattle.std.specs.Prelude.{reverse}
use Rattle.std.proofs.lemmas.Bool.Decides.{nat_tests}
use Rattle.std.proofs.lemmas.List.{append_assoc, reverse-append, take-append-drop, drop_more, length-reverse, length-take-le, length-append}
use Rattle.ap_expand.specs.Search.{todo_of, AreLinked, IsStack}
use Rattle.ap_expand.specs.declared.frame.Frame.{Frame}

pub todo_of-zero : (frames : List Frame) → todo_of frames 0 ≡ []
todo_of-zero [] = refl
todo_of-zero (frame ∷ below) = grind (arith, nat_tests, todo_of-zero below)

pub todo_of-top : (frame : Frame) (below : List Frame) (n : ℕ) → n ≡ length below + 1 →
    todo_of (frame ∷ below) n ≡ frame.rest.now ++ todo_of below frame.parent
todo_of-top frame below n h = grind (arith, nat_tests)

pub todo_of-below : (frame : Frame) (below : List Frame) (n : ℕ) → n ≤ length below →
    todo_of (frame ∷ below) n ≡ todo_of below n
todo_of-below frame below n h = grind (arith, nat_tests)

-- a frame in the middle of others
todo_of-within : (above : List Frame) (frame : Frame) (older : List Frame) (n : ℕ) →
    n ≤ length older → todo_of (above ++ frame ∷ older) n ≡ todo_of older n
todo_of-within [] frame older n h = todo_of-below frame older n h
todo_of-within (g ∷ above) frame older n h =
    todo_of-below g (above ++ frame ∷ older) n (omega (arith, length-append above (frame ∷ older)))
    ∙ todo_of-within above frame older n h

todo_of-middle : (above : List Frame) (frame : Frame) (older : List Frame) (n : ℕ) →
    n ≡ length older + 1 → todo_of (above ++ frame ∷ older) n ≡ frame.rest.now
    ++ todo_of older frame.parent
todo_of-middle [] frame older n h = todo_of-top frame older n h
todo_of-middle (g ∷ above) frame older n h =
    todo_of-below g (above ++ frame ∷ older) n (omega (arith, length-append above (frame ∷ older)))
    ∙ todo_of-middle above frame older n h

linked-middle : (above : List Frame) (frame : Frame) (older : List Frame) →
    AreLinked (above ++ frame ∷ older) → frame.parent ≤ length older
linked-middle [] frame older h = h.0
linked-middle (g ∷ above) frame older h = linked-middle above frame older h.1

-- where a frame stands in the list that has the top first
reversed : (frames : List Frame) (q : ℕ) (frame : Frame) → q < length frames →
    frame ≡ get_or frames q frame → reverse frames ≡ reverse (drop (q + 1) frames) ++ frame
    ∷ reverse (take q frames)
reversed frames q frame lt is =
    ap reverse (sym (take-append-drop q frames))
    ∙ ap (λ xs. reverse (take q frames ++ xs)) (drop_more frames q frame lt)
    ∙ ap (λ f. reverse (take q frames ++ f ∷ drop (q + 1) frames)) (sym is)
    ∙ reverse-append (take q frames) (frame ∷ drop (q + 1) frames)
    ∙ ap (λ xs. xs ++ reverse (take q frames)) (reverse-append (frame ∷ []) (drop (q + 1) frames))
    ∙ append_assoc (reverse (drop (q + 1) frames)) (frame ∷ []) (reverse (take q frames))

-- what is left from a frame on is the rest of its entry, and what is left from its parent on
pub record Parent (frames : List Frame) (q : ℕ) (frame : Frame) : Type 0 where
  pub lower : frame.parent ≤ q
  pub todo : todo_of (reverse frames) (q + 1) ≡ frame.rest.now
      ++ todo_of (reverse frames) frame.parent

pub parent-of : (frames : List Frame) (q : ℕ) (frame : Frame) → q < length frames →
    frame ≡ get_or frames q frame → AreLinked (reverse frames) → Parent frames q frame
parent-of frames q frame lt is linked =
    let split : reverse frames ≡ reverse (drop (q + 1) frames) ++ frame ∷ reverse (take q frames) =
    reversed frames q frame lt is in
    let count : length (reverse (take q frames)) ≡ q = length-reverse (take q frames)
    ∙ length-take-le q frames (omega arith) in
    let lower : frame.parent ≤ length (reverse (take q frames)) =
    linked-middle (reverse (drop (q + 1) frames)) frame (reverse (take q frames))
    (subst AreLinked split linked) in
    record {
      lower = omega arith;
      todo = rw split (todo_of-middle (reverse (drop (q + 1) frames)) frame
          (reverse (take q frames)) (q + 1) (omega arith)
          ∙ ap (λ xs. frame.rest.now ++ xs)
          (sym (todo_of-within (reverse (drop (q + 1) frames)) frame (reverse (take q frames))
          frame.parent lower)));
    }

-- a stack's frames are linked
pub stack-linked : (left right : List ℕ) (frames : List Frame) → IsStack left right frames →
    AreLinked frames
stack-linked left right [] h = tt
stack-linked left right (frame ∷ below) h =
    (h.0, stack-linked (take frame.left_len left) (take frame.right_len right) below h.3)
