-- One part of an element after another.
use Rattle.std.proofs.Common.{◌≡◌, ℕ, ◌+◌, ◌<◌, ◌≤◌, true, false, cond, List, [], ◌∷◌, ◌++◌, drop, length, get_or, sym, ap, ◌∙◌, append_assoc, append-nil}
use Rattle.std.proofs.lemmas.List.{drop_all}
use Rattle.ap_markup.specs.Said.{is_named, child}
use Rattle.ap_markup.specs.Tree.{Done, Run as text_then, Element as element_then}
use Rattle.ap_markup.specs.View.{part_then, parts_of, tag_of}
use Rattle.ap_markup.specs.declared.node.Node.{Node}
use Rattle.ap_markup.specs.declared.node.Part.{Part, Run, Element}
use Rattle.ap_markup.proofs.ViewLemmas.{part_then-Element}
use Rattle.ap_markup.proofs.Steps.{from_here}

pub at_run : (parts : List Part) (i : ℕ) (p : Part) (text : List ℕ) (at : ℕ) → i < length parts →
    p ≡ get_or parts i p → p ≡ Run text at →
    parts_of (drop i parts) ≡ text_then text at (parts_of (drop (i + 1) parts))
at_run parts i p text at lt is shape = from_here parts i p lt is
    ∙ ap (λ (q : Part). part_then q (parts_of (drop (i + 1) parts))) shape

pub at_node : (parts : List Part) (i : ℕ) (p : Part) (n : Node) → i < length parts →
    p ≡ get_or parts i p → p ≡ Element n →
    parts_of (drop i parts) ≡ element_then (tag_of n) (parts_of n.parts.items)
    (parts_of (drop (i + 1) parts))
at_node parts i p n lt is shape = from_here parts i p lt is
    ∙ ap (λ (q : Part). part_then q (parts_of (drop (i + 1) parts))) shape
    ∙ part_then-Element n (parts_of (drop (i + 1) parts))

pub at_end : (parts : List Part) (i : ℕ) → length parts ≤ i → parts_of (drop i parts) ≡ Done
at_end parts i over = ap parts_of (drop_all i parts over)

-- what has been made grows by what the next part gives
pub grows : {X : Type 0} (made made' one rest whole all : List X) → whole ≡ one ++ rest →
    made' ≡ made ++ one → made ++ whole ≡ all → made' ++ rest ≡ all
grows made made' one rest whole all whole_is made_is h = ap (λ m. m ++ rest) made_is
    ∙ append_assoc made one rest ∙ ap (λ w. made ++ w) (sym whole_is) ∙ h

pub stays : {X : Type 0} (made made' rest whole all : List X) → whole ≡ rest → made' ≡ made →
    made ++ whole ≡ all → made' ++ rest ≡ all
stays made made' rest whole all whole_is made_is h = ap (λ m. m ++ rest) made_is
    ∙ ap (λ w. made ++ w) (sym whole_is) ∙ h

pub ends : {X : Type 0} (made whole all : List X) → whole ≡ [] → made ++ whole ≡ all → made ≡ all
ends made whole all whole_is h = sym (append-nil made) ∙ ap (λ w. made ++ w) (sym whole_is) ∙ h

pub two_pushes : {X : Type 0} (made one both : List X) (x : X) (rest : List X) →
    one ≡ made ++ x ∷ [] → both ≡ one ++ rest → both ≡ made ++ (x ∷ rest)
two_pushes made one both x rest one_is both_is = both_is ∙ ap (λ m. m ++ rest) one_is
    ∙ append_assoc made (x ∷ []) rest

-- the child of a name
pub child_run : (name : List ℕ) (parts : List Part) (i : ℕ) (p : Part) (text : List ℕ) (at : ℕ) →
    i < length parts → p ≡ get_or parts i p → p ≡ Run text at → child name (parts_of (drop i parts))
    ≡ child name (parts_of (drop (i + 1) parts))
unfolding child
child_run name parts i p text at lt is shape =
    ap (child name) (at_run parts i p text at lt is shape)

pub child_node : (name : List ℕ) (parts : List Part) (i : ℕ) (p : Part) (n : Node) →
    i < length parts → p ≡ get_or parts i p → p ≡ Element n → child name (parts_of (drop i parts))
    ≡ cond (is_named name (tag_of n)) (parts_of n.parts.items)
    (child name (parts_of (drop (i + 1) parts)))
unfolding child
child_node name parts i p n lt is shape = ap (child name) (at_node parts i p n lt is shape)

pub child_end : (name : List ℕ) (parts : List Part) (i : ℕ) → length parts ≤ i →
    child name (parts_of (drop i parts)) ≡ Done
unfolding child
child_end name parts i over = ap (child name) (at_end parts i over)

pub child_yes : (name : List ℕ) (parts : List Part) (i : ℕ) (p : Part) (n : Node) →
    i < length parts → p ≡ get_or parts i p → p ≡ Element n → is_named name (tag_of n) ≡ true →
    child name (parts_of (drop i parts)) ≡ parts_of n.parts.items
child_yes name parts i p n lt is shape named = child_node name parts i p n lt is shape
    ∙ ap (λ b. cond b (parts_of n.parts.items) (child name (parts_of (drop (i + 1) parts)))) named

pub child_no : (name : List ℕ) (parts : List Part) (i : ℕ) (p : Part) (n : Node) →
    i < length parts → p ≡ get_or parts i p → p ≡ Element n → is_named name (tag_of n) ≡ false →
    child name (parts_of (drop i parts)) ≡ child name (parts_of (drop (i + 1) parts))
child_no name parts i p n lt is shape named = child_node name parts i p n lt is shape
    ∙ ap (λ b. cond b (parts_of n.parts.items) (child name (parts_of (drop (i + 1) parts)))) named
