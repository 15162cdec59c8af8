-- Edges with an empty left side: what they reach, and the strings that they spell.
use Rattle.std.proofs.Common.{◌≡◌, inl, inr, ℕ, Bool, true, not, List, [], ◌∷◌, ◌++◌, map, refl, sym, ◌∙◌, ap, subst, append_assoc, Option, Some, None}
use Rattle.std.specs.Prelude.{◌↔◌, IsTrue}
use Rattle.std.specs.Option.{option_to_list, is_some}
use Rattle.std.specs.List.{filter}
use Rattle.ap_symbol.specs.declared.symbol.Symbol.{Symbol}
use Rattle.ap_fst.specs.Lists.{IsIn}
use Rattle.ap_fst.specs.Graphs.{arc_from, forward, Reaches, begins, follows}
use Rattle.ap_fst.specs.Machines.{Machine}
use Rattle.ap_fst.specs.Walks.{Walk, ends, goes}
use Rattle.ap_fst.specs.Sides.{left_word}
use Rattle.ap_fst.specs.Silence.{is_silent, HasEmptySide}
use Rattle.ap_fst.specs.declared.graph.Arc.{Arc}
use Rattle.ap_fst.specs.declared.label.Label.{Label}
use Rattle.ap_fst.specs.declared.label.Edge.{Edge}
use Rattle.ap_fst.proofs.Listing.{in_from_place, in_map, in_mapped, IsImage, in_filter, filter_in, IsKept}
use Rattle.ap_fst.proofs.WalkLaws.{walk_edge}

abbrev pub silent_arcs_of : List Edge → List Arc
silent_arcs_of edges = map forward (filter is_silent edges)

-- an empty left side adds nothing to the left word
side_none : (o : Option Symbol) → not (is_some o) ≡ true → o ≡ None
side_none None h = refl
side_none (Some x) h = cc

pub silent_none : (e : Edge) → is_silent e ≡ true → e.label.left ≡ None
silent_none e h = side_none e.label.left h

pub none_silent : (e : Edge) → e.label.left ≡ None → is_silent e ≡ true
none_silent e h = ap (λ o. not (is_some o)) h

pub left_word_then : (v w : List Label) → left_word (v ++ w) ≡ left_word v ++ left_word w
left_word_then [] w = refl
left_word_then (l ∷ v) w = ap (λ z. option_to_list l.left ++ z) (left_word_then v w)
    ∙ sym (append_assoc (option_to_list l.left) (left_word v) (left_word w))

-- a left word is empty where each label's left side is
pub first_none : (o : Option Symbol) (w : List Symbol) → option_to_list o ++ w ≡ [] →
    (o ≡ None) × (w ≡ [])
first_none None w h = (refl, h)
first_none (Some x) w h = cc

pub record IsSilentWalk (edges : List Edge) (s t : ℕ) : Type 0 where
  pub labels : List Label
  pub walk : Walk edges s labels t
  pub empty : left_word labels ≡ []

pub silent_by_arcs : (edges : List Edge) (s : ℕ) → Reaches (silent_arcs_of edges) (0 ∷ []) s →
    IsSilentWalk edges 0 s
silent_by_arcs edges s (begins (inl e)) = record { labels = []; walk = ends (sym e); empty = refl }
silent_by_arcs edges s (begins (inr n)) = elim n [ ]
silent_by_arcs edges s (follows a before listed to) =
    let r : IsSilentWalk edges 0 a.from = silent_by_arcs edges a.from before in
    let i : IsImage forward a (filter is_silent edges) =
    in_mapped forward a (filter is_silent edges) listed in
    let k : IsKept is_silent i.source edges = filter_in is_silent i.source edges i.listed in
    let w : Walk edges 0 r.labels i.source.from =
    subst (λ (x : ℕ). Walk edges 0 r.labels x) (ap arc_from i.image) r.walk in
    record {
      labels = r.labels ++ i.source.label ∷ [];
      walk = subst (λ (x : ℕ). Walk edges 0 (r.labels ++ i.source.label ∷ []) x)
          (sym (to ∙ ap (λ (x : Arc). x.to) i.image))
          (walk_edge edges 0 r.labels i.source k.listed w);
      empty = left_word_then r.labels (i.source.label ∷ [])
          ∙ ap (λ z. z ++ left_word (i.source.label ∷ [])) r.empty
          ∙ ap (λ o. option_to_list o ++ left_word []) (silent_none i.source k.passes);
    }

arcs_by_walk : (edges : List Edge) (s t : ℕ) (w : List Label) →
    Reaches (silent_arcs_of edges) (0 ∷ []) s → Walk edges s w t → left_word w ≡ [] →
    Reaches (silent_arcs_of edges) (0 ∷ []) t
arcs_by_walk edges s t w r (ends e) empty =
    subst (λ (x : ℕ). Reaches (silent_arcs_of edges) (0 ∷ []) x) e r
arcs_by_walk edges s t w r (goes {labels = labels} j e at from whole rest) empty =
    let both : (e.label.left ≡ None) × (left_word labels ≡ []) =
    first_none e.label.left (left_word labels) (sym (ap left_word whole) ∙ empty) in
    let listed : IsIn (forward e) (silent_arcs_of edges) =
    in_map forward e (filter is_silent edges)
    (in_filter is_silent e edges (in_from_place edges j e at) (none_silent e both.0)) in
    arcs_by_walk edges e.to t labels
    (follows (forward e) (subst (λ (x : ℕ). Reaches (silent_arcs_of edges) (0 ∷ []) x) from r)
    listed refl) rest both.1

pub empty_side_by : (m : Machine) (arcs : List Arc) (starts reached finals : List ℕ) →
    arcs ≡ silent_arcs_of m.edges → starts ≡ 0 ∷ [] → finals ≡ m.finals
    → ((s : ℕ) → IsIn s reached ↔ Reaches arcs starts s) → (answer : Bool) →
    IsTrue answer ↔ ((s : ℕ) × (IsIn s finals × IsIn s reached)) →
    IsTrue answer ↔ HasEmptySide m
empty_side_by m arcs starts reached finals e se f r answer h = (
  λ t.
      let (s, (i, k)) = h.0 t in
      let q : Reaches (silent_arcs_of m.edges) (0 ∷ []) s =
      subst (λ (z : List ℕ). Reaches (silent_arcs_of m.edges) z s) se
      (subst (λ (z : List Arc). Reaches z starts s) e ((r s).0 k)) in
      let w : IsSilentWalk m.edges 0 s = silent_by_arcs m.edges s q in
      record {
        labels = w.labels;
        accepted =
            record { last = s; final = subst (λ (z : List ℕ). IsIn s z) f i; walk = w.walk };
        empty = w.empty;
      },
  λ p.
      let s : ℕ = p.accepted.last in
      let q : Reaches (silent_arcs_of m.edges) (0 ∷ []) s =
      arcs_by_walk m.edges 0 s p.labels (begins (inl refl)) p.accepted.walk p.empty in
      h.1 (
        s,
        (
          subst (λ (z : List ℕ). IsIn s z) (sym f) p.accepted.final,
          (r s).1 (subst (λ (z : List Arc). Reaches z starts s) (sym e)
              (subst (λ (z : List ℕ). Reaches (silent_arcs_of m.edges) z s) (sym se) q)),
        ),
      ),
)
