-- What empty moves lead to, and states that lead on as others do.
use Rattle.std.proofs.Common.{get_or, ◌≡◌, inl, inr, ℕ, ◌+◌, ◌<◌, ◌≤◌, true, false, not, eqb, List, [], ◌∷◌, ◌++◌, map, length, refl, sym, ◌∙◌, ap, subst, arith, Option, Some, None}
use Rattle.std.specs.Prelude.{slice_get}
use Rattle.std.specs.Option.{is_some}
use Rattle.std.specs.List.{filter}
use Rattle.std.specs.List.Sorted.{IsPermutation}
use Rattle.std.proofs.lemmas.Bool.{cases_lt}
use Rattle.std.proofs.lemmas.Bool.Decides.{nat_tests}
use Rattle.std.proofs.lemmas.Option.{same_Some, slice_get_within, slice_get-get_or}
use Rattle.ap_fst.specs.Lists.{IsIn}
use Rattle.ap_fst.specs.Graphs.{arc_from, arcs_at, Reaches, begins, follows}
use Rattle.ap_fst.specs.Quiet.{Quiet, still, along, IsEdge, Steps, final, next}
use Rattle.ap_fst.specs.Removal.{is_quiet, move_arc, turned_arc, IsLoudArc, AreLoud}
use Rattle.ap_fst.specs.Covering.{ArcLists, AreArcsOf, AreEntering, AreFollowedBy, IsLeadingToAny, AreCoveringBy, Covers, IsPassedOn, IsLead, IsLedAt}
use Rattle.ap_fst.specs.declared.graph.Arc.{Arc}
use Rattle.ap_fst.specs.declared.draft.Move.{Move}
use Rattle.ap_fst.specs.declared.label.Label.{Label}
use Rattle.ap_fst.proofs.Listing.{placed_in, IsPlaced, place_front, in_map, in_mapped, IsImage, in_filter, filter_in, IsKept, in_permutation, from_permutation}
use Rattle.ap_fst.proofs.QuietLaws.{steps_along}

pub quiet_option : (o : Option Label) → not (is_some o) ≡ true → o ≡ None
quiet_option None h = refl
quiet_option (Some x) h = cc

pub loud_option : (o : Option Label) (l : Label) → o ≡ Some l → not (is_some o) ≡ false
loud_option o l e = ap (λ z. not (is_some z)) e

pub quiet_on : (moves : List Move) (s u t : ℕ) → Quiet moves s u → Quiet moves u t → Quiet moves s t
quiet_on moves s u t (still e) q = subst (λ (x : ℕ). Quiet moves x t) (sym e) q
quiet_on moves s u t (along m listed from none rest) q =
    along m listed from none (quiet_on moves m.to u t rest q)

pub steps_quiet : (moves : List Move) (finish s u : ℕ) (w : List Label) → Quiet moves s u →
    Steps moves finish u w → Steps moves finish s w
steps_quiet moves finish s u w (still e) h = subst (λ (x : ℕ). Steps moves finish x w) (sym e) h
steps_quiet moves finish s u w (along m listed from none rest) h =
    steps_along moves finish s m w listed from none (steps_quiet moves finish m.to u w rest h)

pub covers_quiet : (moves : List Move) (finish s t : ℕ) → Quiet moves s t → Covers moves finish s t
covers_quiet moves finish s t q = λ w h. steps_quiet moves finish s t w q h

pub covers_same : (moves : List Move) (finish s t : ℕ) → s ≡ t → Covers moves finish s t
covers_same moves finish s t e = covers_quiet moves finish s t (still e)

-- ---- arcs

pub record IsArcAt (arcs : List Arc) (s : ℕ) (a : Arc) : Type 0 where
  pub listed : IsIn a arcs
  pub from_is : a.from ≡ s

pub arc_at : (arcs : List Arc) (s : ℕ) (a : Arc) → IsIn a (arcs_at arcs s) → IsArcAt arcs s a
arc_at arcs s a i =
    let k : IsKept (λ b. eqb (arc_from b) s) a arcs = filter_in (λ b. eqb (arc_from b) s) a arcs i in
    record {
      listed = k.listed;
      from_is = (let t : eqb (arc_from a) s ≡ true = k.passes in grind (arith, nat_tests));
    }

pub arc_in : (arcs : List Arc) (s : ℕ) (a : Arc) → IsIn a arcs → a.from ≡ s →
    IsIn a (arcs_at arcs s)
arc_in arcs s a i e = in_filter (λ b. eqb (arc_from b) s) a arcs i (grind (arith, nat_tests))

pub arcs_made : (moves : List Move) (q t l : List Arc) (finish : ℕ)
    → IsPermutation (map move_arc (filter is_quiet moves)) q
    → IsPermutation (map turned_arc (filter is_quiet moves)) t → AreLoud moves l →
    AreArcsOf moves (record { quiet = q; entering = t; loud = l; finish = finish })
arcs_made moves q t l finish pq pt al = record {
  quiet_only = λ b i.
      let m : IsImage move_arc b (filter is_quiet moves) =
      in_mapped move_arc b (filter is_quiet moves)
      (from_permutation b (map move_arc (filter is_quiet moves)) q pq i) in
      let k : IsKept is_quiet m.source moves = filter_in is_quiet m.source moves m.listed in
      along m.source k.listed (ap (λ (x : Arc). x.from) m.image)
      (quiet_option m.source.label k.passes) (still (sym (ap (λ (x : Arc). x.to) m.image)));
  quiet_all = λ m i none. in_permutation (move_arc m) (map move_arc (filter is_quiet moves)) q pq
      (in_map move_arc m (filter is_quiet moves)
      (in_filter is_quiet m moves i (ap (λ o. not (is_some o)) none)));
  entering_only = λ b i.
      let m : IsImage turned_arc b (filter is_quiet moves) =
      in_mapped turned_arc b (filter is_quiet moves)
      (from_permutation b (map turned_arc (filter is_quiet moves)) t pt i) in
      let k : IsKept is_quiet m.source moves = filter_in is_quiet m.source moves m.listed in
      along m.source k.listed (ap (λ (x : Arc). x.to) m.image)
      (quiet_option m.source.label k.passes) (still (sym (ap (λ (x : Arc). x.from) m.image)));
  entering_all = λ m i none.
      in_permutation (turned_arc m) (map turned_arc (filter is_quiet moves)) t pt
      (in_map turned_arc m (filter is_quiet moves)
      (in_filter is_quiet m moves i (ap (λ o. not (is_some o)) none)));
  loud_are = al;
}

-- an empty move that leaves the state
pub quiet_arc_at : (moves : List Move) (a : ArcLists) (s : ℕ) (b : Arc) → AreArcsOf moves a →
    IsIn b (arcs_at a.quiet s) → Quiet moves s b.to
quiet_arc_at moves a s b h i =
    let k : IsArcAt a.quiet s b = arc_at a.quiet s b i in
    subst (λ (x : ℕ). Quiet moves x b.to) k.from_is (h.quiet_only b k.listed)

pub entering_arc_at : (moves : List Move) (a : ArcLists) (t : ℕ) (b : Arc) → AreArcsOf moves a →
    IsIn b (arcs_at a.entering t) → Quiet moves b.to t
entering_arc_at moves a t b h i =
    let k : IsArcAt a.entering t b = arc_at a.entering t b i in
    subst (λ (x : ℕ). Quiet moves b.to x) k.from_is (h.entering_only b k.listed)

pub quiet_to : (moves : List Move) (a : ArcLists) (t s : ℕ) → AreArcsOf moves a →
    Reaches a.entering (t ∷ []) s → Quiet moves s t
quiet_to moves a t s h (begins (inl e)) = still e
quiet_to moves a t s h (begins (inr n)) = elim n [ ]
quiet_to moves a t s h (follows b before listed to) =
    subst (λ (x : ℕ). Quiet moves x t) (sym to)
    (quiet_on moves b.to b.from t (h.entering_only b listed) (quiet_to moves a t b.from h before))

pub quiet_reached : (moves : List Move) (a : ArcLists) (t s : ℕ) → AreArcsOf moves a →
    Reaches a.quiet (t ∷ []) s → Quiet moves t s
quiet_reached moves a t s h (begins (inl e)) = still (sym e)
quiet_reached moves a t s h (begins (inr n)) = elim n [ ]
quiet_reached moves a t s h (follows b before listed to) =
    subst (λ (x : ℕ). Quiet moves t x) (sym to)
    (quiet_on moves t b.from b.to (quiet_reached moves a t b.from h before)
    (h.quiet_only b listed))

-- the arc of an empty move from the state
pub arc_of_quiet : (moves : List Move) (a : ArcLists) (s : ℕ) (m : Move) → AreArcsOf moves a →
    IsIn m moves → s ≡ m.from → m.label ≡ None → IsIn (move_arc m) (arcs_at a.quiet s)
arc_of_quiet moves a s m h listed from none =
    arc_in a.quiet s (move_arc m) (h.quiet_all m listed none) (sym from)

-- the arc of a labelled move from the state
pub loud_at : (moves : List Move) (a : ArcLists) (s p : ℕ) (m : Move) → AreArcsOf moves a →
    slice_get moves p ≡ Some m → is_quiet m ≡ false → s ≡ m.from →
    IsIn (let b : Arc = record { from = m.from; to = p } in b) (arcs_at a.loud s)
loud_at moves a s p m h at loud from =
    let b : Arc = record { from = m.from; to = p } in
    let l : IsLoudArc moves p b =
    record { move = m; move_at = at; loud = loud; from_is = refl; to_is = refl } in
    arc_in a.loud s b (h.loud_are.there p b l) (sym from)

-- ---- covering

passed_loud : (moves : List Move) (a : ArcLists) (t : ℕ) (m : Move) (l : Label) → AreArcsOf moves a
    → IsPassedOn a t → IsIn m moves → t ≡ m.from → m.label ≡ Some l → ⊥
passed_loud moves a t m l h p listed from is =
    let k : IsPlaced m moves = placed_in m moves listed in
    let b : Arc = record { from = m.from; to = k.place } in
    let i : IsIn b (arcs_at a.loud t) =
    loud_at moves a t k.place m h k.at (loud_option m.label l is) from in
    elim (subst (λ (z : List Arc). IsIn b z) p.silent i) [ ]

passed_edge : (moves : List Move) (a : ArcLists) (first t u : ℕ) (l : Label) (w : List Label)
    (m : Move) → AreArcsOf moves a → IsPassedOn a t →
    ((b : Arc) → IsIn b (arcs_at a.quiet t) → Quiet moves first b.to) → Quiet moves t m.from →
    IsIn m moves → m.label ≡ Some l → u ≡ m.to → IsEdge moves first l u
passed_edge moves a first t u l w m h p all (still f) i is to =
    absurd (passed_loud moves a t m l h p i f is)
passed_edge moves a first t u l w m h p all (along n listed from none rest) i is to = record {
  move = m;
  quiet = quiet_on moves first n.to m.from
      (all (move_arc n) (arc_of_quiet moves a t n h listed from none)) rest;
  listed = i;
  label_is = is;
  to_is = to;
}

pub covers_passed : (moves : List Move) (a : ArcLists) (first t : ℕ) → AreArcsOf moves a →
    IsPassedOn a t → ((b : Arc) → IsIn b (arcs_at a.quiet t) → Quiet moves first b.to) →
    (w : List Label) → Steps moves a.finish t w → Steps moves a.finish first w
covers_passed moves a first t h p all w (final e (still f)) = absurd (p.goes_on f)
covers_passed moves a first t h p all w (final e (along m listed from none rest)) =
    final e (quiet_on moves first m.to a.finish
    (all (move_arc m) (arc_of_quiet moves a t m h listed from none)) rest)
covers_passed moves a first t h p all w (next label u more e edge rest) =
    next label u more e (passed_edge moves a first t u label w edge.move h p all edge.quiet
    edge.listed edge.label_is edge.to_is) rest

pub lead_here : (moves : List Move) (finish s : ℕ) → IsLead moves finish s s
lead_here moves finish s =
    record { quiet = still refl; covers = covers_same moves finish s s refl }

pub lead_back : (moves : List Move) (finish s lead : ℕ) → Quiet moves s lead → Quiet moves lead s →
    IsLead moves finish s lead
lead_back moves finish s lead q r =
    record { quiet = q; covers = covers_quiet moves finish lead s r }

pub lead_on : (moves : List Move) (finish s t u : ℕ) → IsLead moves finish s t →
    IsLead moves finish t u → IsLead moves finish s u
lead_on moves finish s t u l m = record {
  quiet = quiet_on moves s t u l.quiet m.quiet;
  covers = λ w h. m.covers w (l.covers w h);
}

pub item_at : {X : Type 0} (xs : List X) (i : ℕ) (x : X) → i < length xs → x ≡ get_or xs i x →
    slice_get xs i ≡ Some x
item_at xs i x lt e = slice_get-get_or xs i x lt ∙ ap Some (sym e)

pub next_by : (moves : List Move) (a : ArcLists) (from to : ℕ) (arcs : List Arc) →
    AreArcsOf moves a → ((b : Arc) → IsIn b arcs → IsIn b (arcs_at a.entering to)) →
    AreEntering arcs from → Quiet moves from to
next_by moves a from to arcs h f k =
    subst (λ (z : ℕ). Quiet moves z to) k.to_is
    (entering_arc_at moves a to k.arc h (f k.arc k.listed))

pub followed_on : (moves : List Move) (a : ArcLists) (from to : ℕ) (arcs : List Arc) →
    AreArcsOf moves a → ((b : Arc) → IsIn b arcs → IsIn b (arcs_at a.quiet from)) →
    AreFollowedBy moves arcs to → Quiet moves from to
followed_on moves a from to arcs h f k =
    quiet_on moves from k.arc.to to (quiet_arc_at moves a from k.arc h (f k.arc k.listed)) k.quiet

pub followed_before : (moves : List Move) (a : ArcLists) (from to : ℕ) (arcs : List Arc) →
    AreArcsOf moves a → ((b : Arc) → IsIn b arcs → IsIn b (arcs_at a.entering to)) →
    IsLeadingToAny moves from arcs → Quiet moves from to
followed_before moves a from to arcs h f k =
    quiet_on moves from k.arc.to to k.quiet (entering_arc_at moves a to k.arc h (f k.arc k.listed))

abbrev pub AreFollowed : List Move → ℕ → List Arc → ℕ → Type 0
AreFollowed moves from all n = (k : ℕ) (b : Arc) → k < n → slice_get all k ≡ Some b →
    Quiet moves from b.to

pub followed_more : (moves : List Move) (from : ℕ) (all : List Arc) (n : ℕ) (x : Arc) →
    slice_get all n ≡ Some x → Quiet moves from x.to → AreFollowed moves from all n →
    AreFollowed moves from all (n + 1)
followed_more moves from all n x here q r k b lt at = elim (cases_lt k n) [
  | inl below ↦ r k b below at
  | inr le ↦
      let is : k ≡ n = omega arith in
      let one : x ≡ b = same_Some x b (sym here ∙ ap (slice_get all) (sym is) ∙ at) in
      subst (λ (z : Arc). Quiet moves from z.to) one q
]

pub followed_all : (moves : List Move) (from : ℕ) (all : List Arc) (n : ℕ) (b : Arc) →
    length all ≤ n → AreFollowed moves from all n → IsIn b all → Quiet moves from b.to
followed_all moves from all n b le r i =
    let k : IsPlaced b all = placed_in b all i in
    let lt : k.place < length all = slice_get_within all k.place b k.at in
    r k.place b (omega arith) k.at

pub lead_found : (moves : List Move) (a : ArcLists) (s found : ℕ) (arcs : List Arc) →
    AreArcsOf moves a → ((b : Arc) → IsIn b arcs → IsIn b (arcs_at a.quiet s)) →
    AreCoveringBy moves a.finish arcs s found → IsLead moves a.finish s found
lead_found moves a s found arcs h f k = record {
  quiet = subst (λ (z : ℕ). Quiet moves s z) k.to_is
      (quiet_arc_at moves a s k.arc h (f k.arc k.listed));
  covers = k.covers;
}

-- ---- the loop over moves

pub record AreLedBelow (moves : List Move) (finish n : ℕ) (leads : List ℕ) : Type 0 where
  pub count : length leads ≡ n
  pub each : (p : ℕ) (m : Move) → p < n → slice_get moves p ≡ Some m →
      IsLedAt moves finish leads p m

pub led_none : (moves : List Move) (finish : ℕ) (leads : List ℕ) → leads ≡ [] →
    AreLedBelow moves finish 0 leads
led_none moves finish leads e =
    record { count = ap length e; each = λ p m lt at. absurd (omega arith) }

last_at : (xs : List ℕ) (x : ℕ) → slice_get (xs ++ x ∷ []) (length xs) ≡ Some x
last_at [] x = refl
last_at (y ∷ xs) x = last_at xs x

length_push : (xs : List ℕ) (x : ℕ) → length (xs ++ x ∷ []) ≡ length xs + 1
length_push [] x = refl
length_push (y ∷ xs) x = let e : length (xs ++ x ∷ []) ≡ length xs + 1 = length_push xs x in
    omega arith

pub led_more : (moves : List Move) (finish n : ℕ) (leads new : List ℕ) (m : Move) (lead : ℕ) →
    slice_get moves n ≡ Some m → IsLead moves finish m.to lead → new ≡ leads ++ lead ∷ [] →
    AreLedBelow moves finish n leads → AreLedBelow moves finish (n + 1) new
led_more moves finish n leads new m lead here is e h = record {
  count = ap length e ∙ length_push leads lead ∙ ap (λ k. k + 1) h.count;
  each = λ p k lt at. elim (cases_lt p n) [
    | inl below ↦ let l : IsLedAt moves finish leads p k = h.each p k below at in record {
      lead = l.lead;
      at = subst (λ (z : List ℕ). slice_get z p ≡ Some l.lead) (sym e)
          (place_front leads (lead ∷ []) p l.lead l.at);
      is = l.is;
    }
    | inr le ↦ let same : p ≡ n = omega arith in
        let one : k ≡ m = same_Some k m (sym at ∙ ap (slice_get moves) same ∙ here) in
        record {
          lead = lead;
          at = ap (slice_get new) (same ∙ sym h.count)
              ∙ subst (λ (z : List ℕ). slice_get z (length leads) ≡ Some lead) (sym e)
              (last_at leads lead);
          is = subst (λ (z : ℕ). IsLead moves finish z lead) (sym (ap (λ (y : Move). y.to) one)) is;
        }
  ];
}

pub led_all : (moves : List Move) (finish n : ℕ) (leads : List ℕ) → length moves ≤ n →
    AreLedBelow moves finish n leads → (p : ℕ) (m : Move) → slice_get moves p ≡ Some m →
    IsLedAt moves finish leads p m
led_all moves finish n leads le h p m at =
    let lt : p < length moves = slice_get_within moves p m at in h.each p m (omega arith) at
