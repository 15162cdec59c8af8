-- Walks over edges, and what is reached over arcs made of edges.
use Rattle.std.proofs.Common.{◌≡◌, ◌⊎◌, inl, inr, ℕ, ◌<◌, ◌≤◌, Bool, List, [], ◌∷◌, ◌++◌, map, length, get_or, refl, sym, ◌∙◌, ap, subst, arith}
use Rattle.std.specs.Prelude.{◌↔◌}
use Rattle.std.specs.List.{filter}
use Rattle.std.specs.List.Sorted.{IsPermutation, IsNonDecreasingBy}
use Rattle.std.specs.Ordering.{nat_cmp, ordering_then}
use Rattle.std.specs.declared.cmp.Ordering.{Ordering}
use Rattle.std.specs.declared.cmp.Ordering.TheVariants.{Less, Equal, Greater}
use Rattle.std.proofs.lemmas.Bool.{cases_order}
use Rattle.std.proofs.lemmas.List.{get_or-map, length-map}
use Rattle.std.proofs.lemmas.List.Kept.{IsNonDecreasingBy-filter}
use Rattle.std.proofs.lemmas.Bool.Decides.{nat_tests}
use Rattle.ap_fst.specs.Lists.{IsIn, Ascends}
use Rattle.ap_fst.specs.Order.{edge_cmp, label_cmp}
use Rattle.ap_fst.specs.Graphs.{arc_from, forward, backward, Reaches, begins, follows}
use Rattle.ap_fst.specs.Machines.{Machine, IsMachine, edge_from}
use Rattle.ap_fst.specs.Walks.{Walk, ends, goes}
use Rattle.ap_fst.specs.Trimming.{IsReached, IsFinishing, IsUseful}
use Rattle.ap_fst.specs.declared.graph.Arc.{Arc}
use Rattle.ap_fst.specs.declared.label.Label.{Label}
use Rattle.ap_fst.specs.declared.label.Edge.{Edge}
use Rattle.ap_fst.proofs.Listing.{in_from_place, placed_in, IsPlaced, in_map, in_mapped, IsImage, in_permutation, from_permutation, ascends_by}
use Rattle.ap_fst.proofs.PlaceLaws.{less_from_cmp, cmp_more}

pub walk_then : (edges : List Edge) (s t u : ℕ) (w v : List Label) → Walk edges s w t →
    Walk edges t v u → Walk edges s (w ++ v) u
walk_then edges s t u w v (ends e) q = subst (λ (x : ℕ). Walk edges x v u) (sym e) q
walk_then edges s t u w v (goes {labels = labels} j e at from whole rest) q =
    goes j e at from (ap (λ z. z ++ v) whole) (walk_then edges e.to t u labels v rest q)

-- one edge more
pub walk_edge : (edges : List Edge) (s : ℕ) (w : List Label) (e : Edge) → IsIn e edges →
    Walk edges s w e.from → Walk edges s (w ++ e.label ∷ []) e.to
walk_edge edges s w e listed h =
    let p : IsPlaced e edges = placed_in e edges listed in
    walk_then edges s e.from e.to w (e.label ∷ []) h (goes p.place e p.at refl refl (ends refl))

-- a walk ends at a state
pub walk_within : (m : Machine) (s t : ℕ) (w : List Label) → IsMachine m → s < m.states →
    Walk m.edges s w t → t < m.states
walk_within m s t w ok lt (ends e) = subst (λ (x : ℕ). x < m.states) e lt
walk_within m s t w ok lt (goes {labels = labels} j e at from whole rest) =
    walk_within m e.to t labels ok (ok.each e (in_from_place m.edges j e at)).to_in rest

-- ---- forward

pub reached_by_arcs : (m : Machine) (s : ℕ) → Reaches (map forward m.edges) (0 ∷ []) s →
    IsReached m s
reached_by_arcs m s (begins (inl e)) = record { labels = []; walk = ends (sym e) }
reached_by_arcs m s (begins (inr n)) = elim n [ ]
reached_by_arcs m s (follows a before listed to) =
    let r : IsReached m a.from = reached_by_arcs m a.from before in
    let i : IsImage forward a m.edges = in_mapped forward a m.edges listed in
    let w : Walk m.edges 0 r.labels i.source.from =
    subst (λ (x : ℕ). Walk m.edges 0 r.labels x) (ap arc_from i.image) r.walk in
    record {
      labels = r.labels ++ i.source.label ∷ [];
      walk = subst (λ (x : ℕ). Walk m.edges 0 (r.labels ++ i.source.label ∷ []) x)
          (sym (to ∙ ap (λ (x : Arc). x.to) i.image))
          (walk_edge m.edges 0 r.labels i.source i.listed w);
    }

arcs_by_walk : (m : Machine) (s t : ℕ) (w : List Label) → Reaches (map forward m.edges) (0 ∷ []) s →
    Walk m.edges s w t → Reaches (map forward m.edges) (0 ∷ []) t
arcs_by_walk m s t w r (ends e) = subst (λ (x : ℕ). Reaches (map forward m.edges) (0 ∷ []) x) e r
arcs_by_walk m s t w r (goes {labels = labels} j e at from whole rest) =
    arcs_by_walk m e.to t labels
    (follows (forward e) (subst (λ (x : ℕ). Reaches (map forward m.edges) (0 ∷ []) x) from r)
    (in_map forward e m.edges (in_from_place m.edges j e at)) refl) rest

pub arcs_by_reached : (m : Machine) (s : ℕ) → IsReached m s →
    Reaches (map forward m.edges) (0 ∷ []) s
arcs_by_reached m s r = arcs_by_walk m 0 s r.labels (begins (inl refl)) r.walk

-- ---- backward

pub finishing_by_arcs : (m : Machine) (arcs : List Arc) (s : ℕ) →
    IsPermutation (map backward m.edges) arcs → Reaches arcs m.finals s → IsFinishing m s
finishing_by_arcs m arcs s p (begins i) =
    record { labels = []; last = s; final = i; walk = ends refl }
finishing_by_arcs m arcs s p (follows a before listed to) =
    let f : IsFinishing m a.from = finishing_by_arcs m arcs a.from p before in
    let i : IsImage backward a m.edges =
    in_mapped backward a m.edges (from_permutation a (map backward m.edges) arcs p listed) in
    let q : IsPlaced i.source m.edges = placed_in i.source m.edges i.listed in
    record {
      labels = i.source.label ∷ f.labels;
      last = f.last;
      final = f.final;
      walk = goes q.place i.source q.at (to ∙ ap (λ (x : Arc). x.to) i.image) refl
          (subst (λ (x : ℕ). Walk m.edges x f.labels f.last) (ap arc_from i.image) f.walk);
    }

back_by_walk : (m : Machine) (arcs : List Arc) (s t : ℕ) (w : List Label) →
    IsPermutation (map backward m.edges) arcs → IsIn t m.finals → Walk m.edges s w t →
    Reaches arcs m.finals s
back_by_walk m arcs s t w p i (ends e) = begins (subst (λ (x : ℕ). IsIn x m.finals) (sym e) i)
back_by_walk m arcs s t w p i (goes {labels = labels} j e at from whole rest) =
    follows (backward e) (back_by_walk m arcs e.to t labels p i rest)
    (in_permutation (backward e) (map backward m.edges) arcs p
    (in_map backward e m.edges (in_from_place m.edges j e at))) from

pub arcs_by_finishing : (m : Machine) (arcs : List Arc) (s : ℕ) →
    IsPermutation (map backward m.edges) arcs → IsFinishing m s → Reaches arcs m.finals s
arcs_by_finishing m arcs s p f = back_by_walk m arcs s f.last f.labels p f.final f.walk

-- ---- the order of edges

ordering_parts : (a b : Ordering) → ordering_then a b ≡ Less → (a ≡ Less) ⊎ (a ≡ Equal)
ordering_parts Less b h = inl refl
ordering_parts Equal b h = inr refl
ordering_parts Greater b h = cc

pub equal_from_cmp : (x y : ℕ) → nat_cmp x y ≡ Equal → x ≡ y
equal_from_cmp x y h = elim (cases_order x y) [
  | inl e ↦ e
  | inr o ↦ elim o [
    | inl lt ↦ let k : nat_cmp x y ≡ Less = grind (arith, nat_tests) in cc
    | inr gt ↦ let k : nat_cmp x y ≡ Greater = cmp_more x y gt in cc
  ]
]

pub from_rises : (a b : Edge) → edge_cmp a b ≡ Less → a.from ≤ b.from
from_rises a b h = elim (ordering_parts (nat_cmp a.from b.from)
    (ordering_then (label_cmp a.label b.label) (nat_cmp a.to b.to)) h) [
      | inl l ↦ let k : a.from < b.from = less_from_cmp a.from b.from l in omega arith
      | inr e ↦ let k : a.from ≡ b.from = equal_from_cmp a.from b.from e in omega arith
    ]

pub edges_sorted : (edges : List Edge) → Ascends edge_cmp edges → IsNonDecreasingBy edge_from edges
edges_sorted edges a = ascends_by edge_cmp edge_from from_rises edges a

rises_map : (edges : List Edge) (f : Edge → Arc) → ((e : Edge) → arc_from (f e) ≡ e.from) →
    IsNonDecreasingBy edge_from edges → IsNonDecreasingBy arc_from (map f edges)
rises_map [] f same h i j d le lt = absurd (omega arith)
rises_map (x ∷ xs) f same h i j d le lt =
    let n : length (map f (x ∷ xs)) ≡ length (x ∷ xs) = length-map (x ∷ xs) f in
    let p : get_or (map f (x ∷ xs)) i d ≡ f (get_or (x ∷ xs) i x) =
    get_or-map f (x ∷ xs) i x d (omega arith) in
    let q : get_or (map f (x ∷ xs)) j d ≡ f (get_or (x ∷ xs) j x) =
    get_or-map f (x ∷ xs) j x d (omega arith) in
    let u : arc_from (get_or (map f (x ∷ xs)) i d) ≡ edge_from (get_or (x ∷ xs) i x) =
    ap arc_from p ∙ same (get_or (x ∷ xs) i x) in
    let v : arc_from (get_or (map f (x ∷ xs)) j d) ≡ edge_from (get_or (x ∷ xs) j x) =
    ap arc_from q ∙ same (get_or (x ∷ xs) j x) in
    let r : edge_from (get_or (x ∷ xs) i x) ≤ edge_from (get_or (x ∷ xs) j x) =
    h i j x le (omega arith) in
    omega arith

pub forward_sorted : (edges : List Edge) (arcs : List Arc) → Ascends edge_cmp edges →
    arcs ≡ map forward edges → IsNonDecreasingBy arc_from arcs
forward_sorted edges arcs a e = let P : List Arc → Type 0 = λ z. IsNonDecreasingBy arc_from z in
    subst P (sym e) (rises_map edges forward (λ x. refl) (edges_sorted edges a))

pub silent_sorted : (edges : List Edge) (p : Edge → Bool) (arcs : List Arc) →
    Ascends edge_cmp edges → arcs ≡ map forward (filter p edges) → IsNonDecreasingBy arc_from arcs
silent_sorted edges p arcs a e = let P : List Arc → Type 0 = λ z. IsNonDecreasingBy arc_from z in
    subst P (sym e) (rises_map (filter p edges) forward (λ x. refl)
    (IsNonDecreasingBy-filter edge_from p edges (edges_sorted edges a)))

-- ---- the useful states

pub useful_by_arcs : (m : Machine) (ahead behind : List ℕ) (arcs turned : List Arc) (starts ends' : List ℕ) → arcs ≡ map forward m.edges → IsPermutation (map backward m.edges) turned
    → starts ≡ 0 ∷ [] → ends' ≡ m.finals
    → ((s : ℕ) → IsIn s ahead ↔ Reaches arcs starts s) →
    ((s : ℕ) → IsIn s behind ↔ Reaches turned ends' s)
    → (both : List ℕ) → ((s : ℕ) → IsIn s both ↔ IsIn s ahead × IsIn s behind) → (s : ℕ) →
    IsIn s both ↔ IsUseful m s
useful_by_arcs m ahead behind arcs turned starts ends' e p se ee a b both h s =
    let A : List Arc → Type 0 = λ z. Reaches z starts s in
    let S : List ℕ → Type 0 = λ z. Reaches (map forward m.edges) z s in
    let E : List ℕ → Type 0 = λ z. Reaches turned z s in (
      λ i. let (x, y) = (h s).0 i in (
        reached_by_arcs m s (subst S se (subst A e ((a s).0 x))),
        finishing_by_arcs m turned s p (subst E ee ((b s).0 y)),
      ),
      λ u. (h s).1 (
        (a s).1 (subst A (sym e) (subst S (sym se) (arcs_by_reached m s u.0))),
        (b s).1 (subst E (sym ee) (arcs_by_finishing m turned s p u.1)),
      ),
    )
