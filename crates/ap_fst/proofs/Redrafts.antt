-- A draft of a transducer accepts what the transducer accepts.
use Rattle.std.proofs.Common.{◌≡◌, ◌⊎◌, inl, inr, ℕ, ◌+◌, ◌<◌, List, [], ◌∷◌, ◌++◌, map, refl, sym, ◌∙◌, ap, subst, arith, Option, Some, None}
use Rattle.std.specs.Prelude.{IsTrue, ◌↔◌}
use Rattle.std.specs.Option.{option_to_list}
use Rattle.std.proofs.lemmas.Option.{none-some, same_Some}
use Rattle.ap_fst.specs.Lists.{IsIn}
use Rattle.ap_fst.specs.Machines.{Machine, IsMachine, IsEdgeWithin}
use Rattle.ap_fst.specs.Paths.{Path, here, on}
use Rattle.ap_fst.specs.Sides.{has_side}
use Rattle.ap_fst.specs.Sketches.{IsWithin, IsSketch}
use Rattle.ap_fst.specs.Redrafting.{edge_move, end_move, start_move, draft_moves}
use Rattle.ap_fst.specs.Walks.{Walk, ends, goes, AcceptsLabels}
use Rattle.ap_fst.specs.declared.draft.Move.{Move}
use Rattle.ap_fst.specs.declared.label.Label.{Label}
use Rattle.ap_fst.proofs.Listing.{in_front, in_back, in_either, in_map, in_mapped, IsImage, placed_in, IsPlaced, in_from_place}

-- a move is that of the start, that of an edge, or that of a final state
sorted : (m : Machine) (x : Move) → IsIn x (draft_moves m) → (x ≡ start_move m.states)
    ⊎ (IsImage edge_move x m.edges ⊎ IsImage (end_move (m.states + 1)) x m.finals)
sorted m x i = elim (in_either x (start_move m.states ∷ map edge_move m.edges)
    (map (end_move (m.states + 1)) m.finals) i) [
      | inl a ↦ elim a [ inl e ↦ inl e | inr k ↦ inr (inl (in_mapped edge_move x m.edges k)) ]
      | inr b ↦ inr (inr (in_mapped (end_move (m.states + 1)) x m.finals b))
    ]

within : (m : Machine) → IsMachine m → (x : Move) → IsIn x (draft_moves m) →
    IsWithin (m.states + 2) m.states (m.states + 1) x
within m sound x i = elim (sorted m x i) [
  | inl s ↦
      let some : 0 < m.states = sound.some in
      let from : x.from ≡ m.states = ap (λ (y : Move). y.from) s in
      let to : x.to ≡ 0 = ap (λ (y : Move). y.to) s in
      record {
        from_in = omega arith;
        to_in = omega arith;
        leaves = λ k. omega arith;
        enters =
            λ k. omega arith;
      }
  | inr o ↦ elim o [
    | inl g ↦
        let w : IsEdgeWithin m.states g.source = sound.each g.source g.listed in
        let low : g.source.from < m.states = w.from_in in
        let high : g.source.to < m.states = w.to_in in
        let from : x.from ≡ g.source.from = ap (λ (y : Move). y.from) g.image in
        let to : x.to ≡ g.source.to = ap (λ (y : Move). y.to) g.image in
        record {
          from_in = omega arith;
          to_in = omega arith;
          leaves = λ k. omega arith;
          enters =
              λ k. omega arith;
        }
    | inr g ↦
        let low : g.source < m.states = sound.finals_in g.source g.listed in
        let from : x.from ≡ g.source = ap (λ (y : Move). y.from) g.image in
        let to : x.to ≡ m.states + 1 = ap (λ (y : Move). y.to) g.image in
        record {
          from_in = omega arith;
          to_in = omega arith;
          leaves = λ k. omega arith;
          enters =
              λ k. omega arith;
        }
  ]
]

sided : (m : Machine) → IsMachine m → (x : Move) (l : Label) → IsIn x (draft_moves m) →
    x.label ≡ Some l → IsTrue (has_side l)
sided m sound x l i has = elim (sorted m x i) [
  | inl s ↦ absurd (none-some l (sym (ap (λ (y : Move). y.label) s) ∙ has))
  | inr o ↦ elim o [
    | inl g ↦
        let same : g.source.label ≡ l =
        same_Some g.source.label l (sym (ap (λ (y : Move). y.label) g.image) ∙ has) in
        subst (λ (z : Label). IsTrue (has_side z)) same ((sound.each g.source g.listed).sided)
    | inr g ↦ absurd (none-some l (sym (ap (λ (y : Move). y.label) g.image) ∙ has))
  ]
]

pub redraft_is_sketch : (m : Machine) (n all : ℕ) (moves : List Move) → IsMachine m → n ≡ m.states →
    all ≡ n + 2 → moves ≡ draft_moves m →
    IsSketch (record { states = all; start = n; finish = n + 1; moves = moves })
redraft_is_sketch m n all moves sound e f g =
    subst (λ (z : List Move). IsSketch
    (record { states = all; start = n; finish = n + 1; moves = z })) (sym g)
    (subst (λ (k : ℕ). IsSketch
    (record { states = k; start = n; finish = n + 1; moves = draft_moves m })) (sym f)
    (subst (λ (k : ℕ). IsSketch
    (record { states = k + 2; start = k; finish = k + 1; moves = draft_moves m })) (sym e)
    (record {
      start_in = omega arith;
      finish_in = omega arith;
      apart = λ k. omega arith;
      each =
          within m sound;
      sided = sided m sound;
    })))

-- no move leaves the end
at_end : (m : Machine) → IsMachine m → (s t : ℕ) (labels : List Label) →
    Path (draft_moves m) s labels t → s ≡ m.states + 1 → labels ≡ []
at_end m sound s t [] (here e) q = refl
at_end m sound s t labels (on x i from whole p) q =
    absurd ((within m sound x i).leaves (sym from ∙ q))

-- the labels lead from the state to a final one
record Finishes (m : Machine) (s : ℕ) (labels : List Label) : Type 0 where
  pub last : ℕ
  pub final : IsIn last m.finals
  pub walk : Walk m.edges s labels last

inner : (m : Machine) → IsMachine m → (s t : ℕ) (labels : List Label) →
    Path (draft_moves m) s labels t → s < m.states → t ≡ m.states + 1 → Finishes m s labels
inner m sound s t [] (here e) low q = absurd (omega arith)
inner m sound s t labels (on {labels = rest} x i from whole p) low q = elim (sorted m x i) [
  | inl st ↦ let f : x.from ≡ m.states = ap (λ (y : Move). y.from) st in absurd (omega arith)
  | inr o ↦ elim o [
    | inl g ↦
        let f : x.from ≡ g.source.from = ap (λ (y : Move). y.from) g.image in
        let to : x.to ≡ g.source.to = ap (λ (y : Move). y.to) g.image in
        let label : x.label ≡ Some g.source.label = ap (λ (y : Move). y.label) g.image in
        let high : g.source.to < m.states = (sound.each g.source g.listed).to_in in
        let r : Finishes m x.to rest = inner m sound x.to t rest p (omega arith) q in
        let k : IsPlaced g.source m.edges = placed_in g.source m.edges g.listed in
        record {
          last = r.last;
          final = r.final;
          walk =
              goes k.place g.source k.at (from ∙ f)
              (whole ∙ ap (λ (z : Option Label). option_to_list z ++ rest) label)
              (subst (λ (z : ℕ). Walk m.edges z rest r.last) to r.walk);
        }
    | inr g ↦
        let f : x.from ≡ g.source = ap (λ (y : Move). y.from) g.image in
        let to : x.to ≡ m.states + 1 = ap (λ (y : Move). y.to) g.image in
        let label : x.label ≡ None = ap (λ (y : Move). y.label) g.image in
        let e : labels ≡ [] = whole ∙ ap (λ (z : Option Label). option_to_list z ++ rest) label
        ∙ at_end m sound x.to t rest p to in
        record {
          last = s;
          final = subst (λ (z : ℕ). IsIn z m.finals) (sym (from ∙ f)) g.listed;
          walk = subst (λ (z : List Label). Walk m.edges s z s) (sym e) (ends refl);
        }
  ]
]

from_start : (m : Machine) → IsMachine m → (s t : ℕ) (labels : List Label) →
    Path (draft_moves m) s labels t → s ≡ m.states → t ≡ m.states + 1 → AcceptsLabels m labels
from_start m sound s t [] (here e) is q = absurd (omega arith)
from_start m sound s t labels (on {labels = rest} x i from whole p) is q = elim (sorted m x i) [
  | inl st ↦
      let to : x.to ≡ 0 = ap (λ (y : Move). y.to) st in
      let some : 0 < m.states = sound.some in
      let r : Finishes m x.to rest = inner m sound x.to t rest p (omega arith) q in
      let e : labels ≡ rest = whole
      ∙ ap (λ (z : Option Label). option_to_list z ++ rest) (ap (λ (y : Move). y.label) st) in
      record {
        last = r.last;
        final = r.final;
        walk =
            subst (λ (z : List Label). Walk m.edges 0 z r.last) (sym e)
            (subst (λ (z : ℕ). Walk m.edges z rest r.last) to r.walk);
      }
  | inr o ↦ elim o [
    | inl g ↦
        let f : x.from ≡ g.source.from = ap (λ (y : Move). y.from) g.image in
        let low : g.source.from < m.states = (sound.each g.source g.listed).from_in in
        absurd (omega arith)
    | inr g ↦
        let f : x.from ≡ g.source = ap (λ (y : Move). y.from) g.image in
        let low : g.source < m.states = sound.finals_in g.source g.listed in
        absurd (omega arith)
  ]
]

to_end : (m : Machine) (s t : ℕ) (labels : List Label) → Walk m.edges s labels t → IsIn t m.finals →
    Path (draft_moves m) s labels (m.states + 1)
to_end m s t [] (ends e) final =
    on (end_move (m.states + 1) t)
    (in_back (end_move (m.states + 1) t) (start_move m.states ∷ map edge_move m.edges)
    (map (end_move (m.states + 1)) m.finals)
    (in_map (end_move (m.states + 1)) t m.finals final)) e refl (here refl)
to_end m s t labels (goes {labels = rest} j e at from whole w) final =
    on (edge_move e) (in_front (edge_move e) (start_move m.states ∷ map edge_move m.edges)
    (map (end_move (m.states + 1)) m.finals)
    (inr (in_map edge_move e m.edges (in_from_place m.edges j e at)))) from whole
    (to_end m e.to t rest w final)

pub redraft_law : (m : Machine) (n : ℕ) (moves : List Move) → IsMachine m → n ≡ m.states →
    moves ≡ draft_moves m → (labels : List Label) → Path moves n labels (n + 1)
    ↔ AcceptsLabels m labels
redraft_law m n moves sound e g labels =
    subst (λ (z : List Move). Path z n labels (n + 1) ↔ AcceptsLabels m labels) (sym g)
    (subst (λ (k : ℕ). Path (draft_moves m) k labels (k + 1) ↔ AcceptsLabels m labels) (sym e) (
      (λ p. from_start m sound m.states (m.states + 1) labels p refl refl),
      (λ a. on (start_move m.states) (inl refl) refl refl
          (to_end m 0 a.last labels a.walk a.final)),
    ))
