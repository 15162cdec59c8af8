-- Cycles of edges with an empty left side.
use Rattle.std.proofs.Common.{◌≡◌, inl, inr, ℕ, ◌+◌, ◌<◌, ◌≤◌, zero, suc, Bool, true, false, not, eqb, List, [], ◌∷◌, ◌++◌, length, length-append, refl, sym, ◌∙◌, ap, subst, arith, Option, Some, None}
use Rattle.std.specs.Prelude.{◌↔◌, slice_get, IsTrue}
use Rattle.std.specs.Option.{option_to_list, is_some}
use Rattle.std.specs.List.{filter, IsDistinct, AllByRecursion}
use Rattle.std.proofs.lemmas.Bool.{cases_eq}
use Rattle.std.proofs.lemmas.Bool.Decides.{nat_tests}
use Rattle.std.proofs.lemmas.Option.{same_Some, slice_get_within}
use Rattle.std.proofs.lemmas.Map.Steps.{length-le_from_distinct_below}
use Rattle.ap_fst.specs.Lists.{IsIn}
use Rattle.ap_fst.specs.Graphs.{arc_from, forward, Reaches, begins, follows}
use Rattle.ap_fst.specs.Machines.{Machine, IsMachine}
use Rattle.ap_fst.specs.Walks.{Walk, ends, goes, AcceptsLabels}
use Rattle.ap_fst.specs.Sides.{left_word}
use Rattle.ap_fst.specs.Trimming.{IsTrimmed, IsReached, IsFinishing}
use Rattle.ap_fst.specs.Silence.{is_silent, SilentWalk, still, step, IsOnEmptyCycle, HasNoEmptyCycle, KeepsUp, Rises, RiseBefore, HasBoundedRuns}
use Rattle.ap_fst.specs.declared.graph.Arc.{Arc}
use Rattle.ap_fst.specs.declared.label.Label.{Label}
use Rattle.ap_fst.specs.declared.label.Edge.{Edge}
use Rattle.ap_fst.proofs.Listing.{in_from_place, placed_in, IsPlaced, in_map, in_mapped, IsImage, in_filter, filter_in, IsKept}
use Rattle.ap_fst.proofs.Growing.{in_from_any}
use Rattle.ap_fst.proofs.WalkLaws.{walk_then, walk_edge, walk_within}
use Rattle.ap_fst.proofs.SilenceLaws.{silent_arcs_of, silent_none, none_silent, first_none, left_word_then}

-- ---- numbers that no such edge lowers

kept_along : (number : ℕ → Option ℕ) (edges : List Edge) →
    ((e : Edge) → IsIn e edges → is_silent e ≡ true → KeepsUp number e) → (s n t a : ℕ) →
    number s ≡ Some a → SilentWalk edges s n t → (b : ℕ) × (number t ≡ Some b) × (a ≤ b)
kept_along number edges all s zero t a p (still e) = (a, ap number (sym e) ∙ p, omega arith)
kept_along number edges all s (suc n) t a p (step u j e walk at silent f g) =
    let r : (b : ℕ) × (number u ≡ Some b) × (a ≤ b) = kept_along number edges all s n u a p walk in
    let k : KeepsUp number e = all e (in_from_place edges j e at) (none_silent e silent) in
    let one : r.0 ≡ k.from = same_Some r.0 k.from (sym r.1 ∙ ap number f ∙ k.numbers.from_number) in
    let so_far : a ≤ r.0 = r.2 in
    let on : k.from ≤ k.to = k.keeps in
    (k.to, ap number g ∙ k.numbers.to_number, omega arith)

-- what leads to a higher number lies on no cycle
no_cycle_on_rise : (number : ℕ → Option ℕ) (edges : List Edge) (j : ℕ) →
    ((e : Edge) → IsIn e edges → is_silent e ≡ true → KeepsUp number e) →
    (c : IsOnEmptyCycle edges j) → Rises number c.edge → ⊥
no_cycle_on_rise number edges j all c up =
    let r : (b : ℕ) × (number c.edge.from ≡ Some b) × (up.to ≤ b) =
    kept_along number edges all c.edge.to c.length c.edge.from up.to
    up.numbers.to_number c.back in
    let one : r.0 ≡ up.from = same_Some r.0 up.from (sym r.1 ∙ up.numbers.from_number) in
    let lt : up.from < up.to = up.rises in
    let le : up.to ≤ r.0 = r.2 in
    omega arith

pub no_cycle_before : (number : ℕ → Option ℕ) (edges : List Edge) (j : ℕ) →
    ((e : Edge) → IsIn e edges → is_silent e ≡ true → KeepsUp number e) → RiseBefore number edges j
    → (i : ℕ) → i < j → IsOnEmptyCycle edges i → ⊥
no_cycle_before number edges j all up i lt c =
    no_cycle_on_rise number edges i all c (up i c.edge lt c.at (none_silent c.edge c.silent))

pub no_cycle_at_all : (number : ℕ → Option ℕ) (edges : List Edge) →
    ((e : Edge) → IsIn e edges → is_silent e ≡ true → KeepsUp number e) →
    RiseBefore number edges (length edges) → (j : ℕ) → IsOnEmptyCycle edges j → ⊥
no_cycle_at_all number edges all up j c =
    no_cycle_before number edges (length edges) all up j (slice_get_within edges j c.edge c.at) c

-- ---- by search

walk_by_arcs : (edges : List Edge) (s t : ℕ) → Reaches (silent_arcs_of edges) (s ∷ []) t →
    (n : ℕ) × SilentWalk edges s n t
walk_by_arcs edges s t (begins (inl e)) = (zero, still (sym e))
walk_by_arcs edges s t (begins (inr n)) = elim n [ ]
walk_by_arcs edges s t (follows a before listed to) =
    let (n, w) = walk_by_arcs edges s a.from before in
    let i : IsImage forward a (filter is_silent edges) =
    in_mapped forward a (filter is_silent edges) listed in
    let k : IsKept is_silent i.source edges = filter_in is_silent i.source edges i.listed in
    let p : IsPlaced i.source edges = placed_in i.source edges k.listed in (
      suc n,
      step a.from p.place i.source w p.at (silent_none i.source k.passes)
          (ap arc_from i.image) (to ∙ ap (λ (x : Arc). x.to) i.image),
    )

arcs_by_walk : (edges : List Edge) (s n t : ℕ) → SilentWalk edges s n t →
    Reaches (silent_arcs_of edges) (s ∷ []) t
arcs_by_walk edges s zero t (still e) = begins (inl (sym e))
arcs_by_walk edges s (suc n) t (step u j e walk at silent f g) =
    follows (forward e) (subst (λ (x : ℕ). Reaches (silent_arcs_of edges) (s ∷ []) x) f
    (arcs_by_walk edges s n u walk))
    (in_map forward e (filter is_silent edges)
    (in_filter is_silent e edges (in_from_place edges j e at) (none_silent e silent))) g

pub on_cycle_by : (edges : List Edge) (arcs : List Arc) (reached starts : List ℕ) (at : ℕ)
    (e : Edge) (answer : Bool) → arcs ≡ silent_arcs_of edges → slice_get edges at ≡ Some e →
    is_some e.label.left ≡ false
    → starts ≡ e.to ∷ [] → ((s : ℕ) → IsIn s reached ↔ Reaches arcs starts s) →
    IsTrue answer ↔ IsIn e.from reached → IsTrue answer ↔ IsOnEmptyCycle edges at
on_cycle_by edges arcs reached starts at e answer same here none se r h =
    let none' : e.label.left ≡ None = silent_none e (ap not none) in (
      λ t.
          let q : Reaches (silent_arcs_of edges) (e.to ∷ []) e.from =
          subst (λ (z : List ℕ). Reaches (silent_arcs_of edges) z e.from) se
          (subst (λ (z : List Arc). Reaches z starts e.from) same ((r e.from).0 (h.0 t))) in
          let (n, w) = walk_by_arcs edges e.to e.from q in
          record { edge = e; at = here; silent = none'; length = n; back = w },
      λ c.
          let one : c.edge ≡ e = same_Some c.edge e (sym c.at ∙ here) in
          let w : SilentWalk edges e.to c.length e.from =
          subst (λ (x : Edge). SilentWalk edges x.to c.length x.from) one c.back in
          h.1 ((r e.from).1 (subst (λ (z : List Arc). Reaches z starts e.from) (sym same)
          (subst (λ (z : List ℕ). Reaches (silent_arcs_of edges) z e.from) (sym se)
          (arcs_by_walk edges e.to c.length e.from w)))),
    )

-- ---- without a cycle, walks are short

record Visits (m : Machine) (n t : ℕ) : Type 0 where
  states : List ℕ
  long : length states ≡ suc n
  goes_on : (x : ℕ) → IsIn x states → (k : ℕ) × SilentWalk m.edges x k t
  below : (x : ℕ) → IsIn x states → x < m.states
  distinct : IsDistinct eqb states

all_apart : (t : ℕ) (xs : List ℕ) → (IsIn t xs → ⊥) → AllByRecursion (λ y. eqb t y ≡ false) xs
all_apart t [] h = tt
all_apart t (y ∷ xs) h = (
  elim (cases_eq t y) [ inl e ↦ absurd (h (inl e)) | inr d ↦ grind (arith, nat_tests) ],
  all_apart t xs (λ i. h (inr i)),
)

visits : (m : Machine) → IsMachine m → HasNoEmptyCycle m → (s n t : ℕ) → s < m.states →
    SilentWalk m.edges s n t → Visits m n t
unfolding IsDistinct
visits m ok none s zero t lt (still e) = record {
  states = s ∷ [];
  long = omega arith;
  goes_on = λ x i. elim i [ inl f ↦ (zero, still (f ∙ e)) | inr n ↦ elim n [ ] ];
  below = λ x i. elim i [ inl f ↦ subst (λ (z : ℕ). z < m.states) (sym f) lt | inr n ↦ elim n [ ] ];
  distinct = (tt, tt);
}
visits m ok none s (suc n) t lt (step u j e walk at silent f g) =
    let v : Visits m n u = visits m ok none s n u lt walk in
    let low : t < m.states =
    subst (λ (z : ℕ). z < m.states) (sym g) (ok.each e (in_from_place m.edges j e at)).to_in in
    record {
      states = t ∷ v.states;
      long = (let h : length v.states ≡ suc n = v.long in omega arith);
      goes_on = λ x i. elim i [
        | inl h ↦ (zero, still h)
        | inr k ↦ let (l, w) = v.goes_on x k in
            (suc l, step u j e w at silent f g)
      ];
      below = λ x i. elim i [
        | inl h ↦ subst (λ (z : ℕ). z < m.states) (sym h) low
        | inr k ↦
            v.below x k
      ];
      distinct = (
        all_apart t v.states (λ i.
            let (k, w) = v.goes_on t i in
            none j (record {
              edge = e;
              at = at;
              silent = silent;
              length = k;
              back =
                  subst (λ (z : ℕ). SilentWalk m.edges e.to k z) f
                  (subst (λ (z : ℕ). SilentWalk m.edges z k u) g w);
            })),
        v.distinct,
      );
    }

pub short_walks : (m : Machine) → IsMachine m → HasNoEmptyCycle m → (s n t : ℕ) →
    SilentWalk m.edges s n t → s < m.states → n < m.states
short_walks m ok none s n t w lt =
    let v : Visits m n t = visits m ok none s n t lt w in
    let few : length v.states ≤ m.states =
    length-le_from_distinct_below v.states m.states v.distinct
    (λ q h. v.below q (in_from_any q v.states h)) in
    let long : length v.states ≡ suc n = v.long in
    omega arith

-- ---- walks and label strings

record IsCut (edges : List Edge) (s : ℕ) (v z : List Label) (t : ℕ) : Type 0 where
  middle : ℕ
  first : Walk edges s v middle
  second : Walk edges middle z t

walk_cut : (edges : List Edge) (s t : ℕ) (w v z : List Label) → w ≡ v ++ z → Walk edges s w t →
    IsCut edges s v z t
walk_cut edges s t w [] z e walk =
    record {
      middle = s;
      first = ends refl;
      second =
          subst (λ (x : List Label). Walk edges s x t) e walk;
    }
walk_cut edges s t w (l ∷ v) z e (ends q) = absurd (cc)
walk_cut edges s t w (l ∷ v) z e (goes {labels = labels} j d at from whole rest) =
    let both : d.label ∷ labels ≡ l ∷ (v ++ z) = sym whole ∙ e in
    let head : l ≡ d.label = cc in
    let tail : labels ≡ v ++ z = cc in
    let c : IsCut edges d.to v z t = walk_cut edges d.to t labels v z tail rest in
    record {
      middle = c.middle;
      first = goes j d at from (ap (λ x. x ∷ v) head) c.first;
      second = c.second;
    }

silent_first : (edges : List Edge) (s n t j : ℕ) (e : Edge) → slice_get edges j ≡ Some e →
    e.label.left ≡ None → s ≡ e.from → SilentWalk edges e.to n t → SilentWalk edges s (suc n) t
silent_first edges s zero t j e at silent from (still q) =
    step s j e (still refl) at silent from (sym q)
silent_first edges s (suc n) t j e at silent from (step u k d walk at' silent' f g) =
    step u k d (silent_first edges s n u j e at silent from walk) at' silent' f g

silent_of_walk : (edges : List Edge) (s t : ℕ) (w : List Label) → left_word w ≡ [] →
    Walk edges s w t → (n : ℕ) × (n ≡ length w) × SilentWalk edges s n t
silent_of_walk edges s t w empty (ends e) = (zero, refl, still e)
silent_of_walk edges s t w empty (goes {labels = labels} j e at from whole rest) =
    let both : (e.label.left ≡ None) × (left_word labels ≡ []) =
    first_none e.label.left (left_word labels) (sym (ap left_word whole) ∙ empty) in
    let r : (n : ℕ) × (n ≡ length labels) × SilentWalk edges e.to n t =
    silent_of_walk edges e.to t labels both.1 rest in
    let long : length w ≡ length (e.label ∷ labels) = ap length whole in
    let n : r.0 ≡ length labels = r.1 in
    (suc r.0, omega arith, silent_first edges s r.0 t j e at both.0 from r.2)

pub bounded_runs : (m : Machine) → IsMachine m → HasNoEmptyCycle m → HasBoundedRuns m
bounded_runs m ok none = record {
  bound = m.states;
  short = λ labels middle h r.
      let a : IsCut m.edges 0 r.front (middle ++ r.back) h.last =
      walk_cut m.edges 0 h.last labels r.front (middle ++ r.back) r.whole h.walk in
      let b : IsCut m.edges a.middle middle r.back h.last =
      walk_cut m.edges a.middle h.last (middle ++ r.back) middle r.back refl a.second in
      let w : (n : ℕ) × (n ≡ length middle) × SilentWalk m.edges a.middle n b.middle =
      silent_of_walk m.edges a.middle b.middle middle r.silent b.first in
      let lt : w.0 < m.states =
      short_walks m ok none a.middle w.0 b.middle w.2
      (walk_within m 0 a.middle r.front ok ok.some a.first) in
      let n : w.0 ≡ length middle = w.1 in
      omega arith;
}

-- ---- a cycle is gone round as often as one likes

record IsSpelled (edges : List Edge) (s n t : ℕ) : Type 0 where
  labels : List Label
  walk : Walk edges s labels t
  silent : left_word labels ≡ []
  long : length labels ≡ n

spelled : (edges : List Edge) (s n t : ℕ) → SilentWalk edges s n t → IsSpelled edges s n t
spelled edges s zero t (still e) = record { labels = []; walk = ends e; silent = refl; long = refl }
spelled edges s (suc n) t (step u j e walk at silent f g) =
    let r : IsSpelled edges s n u = spelled edges s n u walk in
    let w : Walk edges s r.labels e.from = subst (λ (x : ℕ). Walk edges s r.labels x) f r.walk in
    let k : length r.labels ≡ n = r.long in
    record {
      labels = r.labels ++ e.label ∷ [];
      walk = subst (λ (x : ℕ). Walk edges s (r.labels ++ e.label ∷ []) x) (sym g)
          (walk_edge edges s r.labels e (in_from_place edges j e at) w);
      silent = left_word_then r.labels (e.label ∷ [])
          ∙ ap (λ z. z ++ left_word (e.label ∷ [])) r.silent
          ∙ ap (λ o. option_to_list o ++ left_word []) silent;
      long = (let q : length (r.labels ++ e.label ∷ []) ≡ length r.labels + length (e.label ∷ []) =
          length-append r.labels (e.label ∷ []) in omega arith);
    }

record IsRound (edges : List Edge) (s k : ℕ) : Type 0 where
  labels : List Label
  walk : Walk edges s labels s
  silent : left_word labels ≡ []
  long : k ≤ length labels

rounds : (edges : List Edge) (s n k : ℕ) → IsSpelled edges s (suc n) s → IsRound edges s k
rounds edges s n zero c =
    record { labels = []; walk = ends refl; silent = refl; long = omega arith }
rounds edges s n (suc k) c =
    let r : IsRound edges s k = rounds edges s n k c in
    let a : length c.labels ≡ suc n = c.long in
    let b : k ≤ length r.labels = r.long in
    record {
      labels = c.labels ++ r.labels;
      walk = walk_then edges s s s c.labels r.labels c.walk r.walk;
      silent = left_word_then c.labels r.labels
          ∙ ap (λ z. z ++ left_word r.labels) c.silent ∙ r.silent;
      long = (let q : length (c.labels ++ r.labels) ≡ length c.labels + length r.labels =
          length-append c.labels r.labels in omega arith);
    }

too_long : (m : Machine) (s n : ℕ) → HasBoundedRuns m → IsReached m s → IsFinishing m s →
    IsSpelled m.edges s (suc n) s → ⊥
too_long m s n b r f c =
    let o : IsRound m.edges s (suc b.bound) = rounds m.edges s n (suc b.bound) c in
    let w : Walk m.edges 0 (r.labels ++ (o.labels ++ f.labels)) f.last =
    walk_then m.edges 0 s f.last r.labels (o.labels ++ f.labels) r.walk
    (walk_then m.edges s s f.last o.labels f.labels o.walk f.walk) in
    let h : AcceptsLabels m (r.labels ++ (o.labels ++ f.labels)) =
    record { last = f.last; final = f.final; walk = w } in
    let le : length o.labels ≤ b.bound =
    b.short (r.labels ++ (o.labels ++ f.labels)) o.labels h
    (record { front = r.labels; back = f.labels; whole = refl; silent = o.silent }) in
    let ge : suc b.bound ≤ length o.labels = o.long in
    omega arith

cycle_spelled : (m : Machine) (j : ℕ) (c : IsOnEmptyCycle m.edges j) →
    IsSpelled m.edges c.edge.from (suc c.length) c.edge.from
cycle_spelled m j c = spelled m.edges c.edge.from (suc c.length) c.edge.from
    (silent_first m.edges c.edge.from c.length c.edge.from j c.edge c.at c.silent refl c.back)

no_cycle_at : (m : Machine) (j s : ℕ) → IsMachine m → IsTrimmed m → HasBoundedRuns m →
    (c : IsOnEmptyCycle m.edges j) → s ≡ c.edge.from → ⊥
no_cycle_at m j zero ok t b c e =
    let r : IsReached m c.edge.from = record { labels = []; walk = ends e } in
    let none : (w : List Label) → AcceptsLabels m w → ⊥ = λ w h.
    too_long m c.edge.from c.length b r
    (record {
      labels = w;
      last = h.last;
      final = h.final;
      walk =
          subst (λ (x : ℕ). Walk m.edges x w h.last) e h.walk;
    }) (cycle_spelled m j c) in
    let one : (m.states ≡ 1) × (m.edges ≡ []) = t.nothing none in
    elim (subst (λ (z : List Edge). IsIn c.edge z) one.1 (in_from_place m.edges j c.edge c.at)) [ ]
no_cycle_at m j (suc s) ok t b c e =
    let low : c.edge.from < m.states =
    (ok.each c.edge (in_from_place m.edges j c.edge c.at)).from_in in
    too_long m c.edge.from c.length b (t.reached c.edge.from (omega arith) low)
    (t.finishing c.edge.from (omega arith) low) (cycle_spelled m j c)

pub empty_cycle_runs : (m : Machine) → IsMachine m → IsTrimmed m →
    HasNoEmptyCycle m ↔ HasBoundedRuns m
empty_cycle_runs m ok t =
    (λ none. bounded_runs m ok none, λ b j c. no_cycle_at m j c.edge.from ok t b c refl)
