-- A draft with a tag left out of its right sides accepts what is left of the strings of the draft.
use Rattle.std.proofs.Common.{◌≡◌, ℕ, List, [], ◌++◌, map, refl, sym, ◌∙◌, ap, subst, Option, Some, None, Bool, true, false}
use Rattle.std.specs.Prelude.{IsTrue, ◌↔◌, option_to_list, if◌then◌else◌}
use Rattle.std.specs.Option.{option_and_then}
use Rattle.std.proofs.lemmas.Option.{none-some, same_Some}
use Rattle.ap_fst.specs.Lists.{IsIn}
use Rattle.ap_fst.specs.Machines.{Machine}
use Rattle.ap_fst.specs.Paths.{Path, here, on, Accepts}
use Rattle.ap_fst.specs.Sides.{has_side}
use Rattle.ap_fst.specs.Sketches.{Sketch, IsWithin, IsSketch}
use Rattle.ap_fst.specs.Walks.{AcceptsLabels}
use Rattle.ap_fst.specs.Without.{label_without, left_of_label, labels_without, move_without, IsLeftOf}
use Rattle.ap_fst.specs.declared.draft.Move.{Move}
use Rattle.ap_fst.specs.declared.label.Label.{Label}
use Rattle.ap_fst.proofs.Listing.{in_map, in_mapped, IsImage}

kept_if : (b : Bool) (x l : Label) → b ≡ has_side x → (if b then Some x else None) ≡ Some l →
    IsTrue (has_side l)
kept_if true x l e h = ap has_side (sym (same_Some x l h)) ∙ sym e
kept_if false x l e h = absurd (none-some l h)

-- what is left of a label has a side
left_has_side : (tag : List ℕ) (label l : Label) → left_of_label tag label ≡ Some l →
    IsTrue (has_side l)
left_has_side tag label l e = kept_if (has_side (label_without tag label)) (label_without tag label)
    l refl e

-- a move whose label comes from a label
any_has_side : (tag : List ℕ) (label : Option Label) (l : Label) →
    option_and_then (left_of_label tag) label ≡ Some l → IsTrue (has_side l)
any_has_side tag None l e = absurd (none-some l e)
any_has_side tag (Some label) l e = left_has_side tag label l e

within : (tag : List ℕ) (states start finish : ℕ) (moves : List Move) →
    ((m : Move) → IsIn m moves → IsWithin states start finish m) → (m : Move) →
    IsIn m (map (move_without tag) moves) → IsWithin states start finish m
within tag states start finish moves each m i =
    let k : IsImage (move_without tag) m moves = in_mapped (move_without tag) m moves i in
    let w : IsWithin states start finish k.source = each k.source k.listed in
    subst (λ (z : Move). IsWithin states start finish z) (sym k.image)
    (record { from_in = w.from_in; to_in = w.to_in; leaves = w.leaves; enters = w.enters })

sided : (tag : List ℕ) (moves : List Move) (m : Move) (l : Label) →
    IsIn m (map (move_without tag) moves) → m.label ≡ Some l → IsTrue (has_side l)
sided tag moves m l i has =
    let k : IsImage (move_without tag) m moves = in_mapped (move_without tag) m moves i in
    any_has_side tag k.source.label l (sym (ap (λ (z : Move). z.label) k.image) ∙ has)

pub without_is_sketch : (tag : List ℕ) (a : Sketch) (made : List Move) → IsSketch a →
    made ≡ map (move_without tag) a.moves →
    IsSketch (record { states = a.states; start = a.start; finish = a.finish; moves = made })
without_is_sketch tag a made sound e =
    subst (λ (z : List Move). IsSketch
    (record { states = a.states; start = a.start; finish = a.finish; moves = z })) (sym e)
    (record {
      start_in = sound.start_in;
      finish_in = sound.finish_in;
      apart = sound.apart;
      each = within tag a.states a.start a.finish a.moves sound.each;
      sided = sided tag a.moves;
    })

-- the labels of one move and of those that follow it
left_front : (tag : List ℕ) (label : Option Label) (labels : List Label) →
    option_to_list (option_and_then (left_of_label tag) label) ++ labels_without tag labels
    ≡ labels_without tag (option_to_list label ++ labels)
left_front tag None labels = refl
left_front tag (Some label) labels = refl

-- over the moves of a draft, with labels of which these are left
record IsLeftPath (tag : List ℕ) (moves : List Move) (s : ℕ) (labels : List Label)
    (t : ℕ) : Type 0 where
  pub whole : List Label
  pub path : Path moves s whole t
  pub left_is : labels ≡ labels_without tag whole

to_whole : (tag : List ℕ) (moves : List Move) (s t : ℕ) (labels : List Label) →
    Path (map (move_without tag) moves) s labels t → IsLeftPath tag moves s labels t
to_whole tag moves s t [] (here e) = record { whole = []; path = here e; left_is = refl }
to_whole tag moves s t labels (on {labels = rest} x i from whole p) =
    let k : IsImage (move_without tag) x moves = in_mapped (move_without tag) x moves i in
    let r : IsLeftPath tag moves x.to rest t = to_whole tag moves x.to t rest p in
    record {
      whole = option_to_list k.source.label ++ r.whole;
      path = on k.source k.listed (from ∙ ap (λ (z : Move). z.from) k.image) refl
          (subst (λ (z : ℕ). Path moves z r.whole t) (ap (λ (z : Move). z.to) k.image) r.path);
      left_is = whole ∙ ap (λ (z : List Label). option_to_list x.label ++ z) r.left_is
          ∙ ap (λ (z : Option Label). option_to_list z ++ labels_without tag r.whole)
          (ap (λ (z : Move). z.label) k.image)
          ∙ left_front tag k.source.label r.whole;
    }

from_whole : (tag : List ℕ) (moves : List Move) (s t : ℕ) (whole : List Label) →
    Path moves s whole t → Path (map (move_without tag) moves) s (labels_without tag whole) t
from_whole tag moves s t [] (here e) = here e
from_whole tag moves s t whole (on {labels = rest} x i from is p) =
    on (move_without tag x) (in_map (move_without tag) x moves i) from
    (ap (labels_without tag) is ∙ sym (left_front tag x.label rest))
    (from_whole tag moves x.to t rest p)

pub without_law : (tag : List ℕ) (m : Machine) (a : Sketch) (made : List Move) →
    ((labels : List Label) → Accepts a labels ↔ AcceptsLabels m labels) →
    made ≡ map (move_without tag) a.moves → (labels : List Label) →
    Path made a.start labels a.finish ↔ IsLeftOf m tag labels
without_law tag m a made same e labels =
    subst (λ (z : List Move). Path z a.start labels a.finish ↔ IsLeftOf m tag labels) (sym e) (
      (λ p. let r : IsLeftPath tag a.moves a.start labels a.finish =
          to_whole tag a.moves a.start a.finish labels p in
          record {
            whole = r.whole;
            accepted = (same r.whole).0 r.path;
            left_is = r.left_is;
          }),
      (λ l. subst (λ (z : List Label). Path (map (move_without tag) a.moves) a.start z a.finish)
          (sym l.left_is)
          (from_whole tag a.moves a.start a.finish l.whole ((same l.whole).1 l.accepted))),
    )
