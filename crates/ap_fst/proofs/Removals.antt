-- The transducer without empty moves: what its edges and final states are, and what it accepts.
use Rattle.std.proofs.Common.{cond, eqb, ◌≡◌, inl, inr, ℕ, ◌+◌, ◌-◌, ◌<◌, ◌≤◌, true, false, not, List, [], ◌∷◌, ◌++◌, map, length, refl, sym, ◌∙◌, ap, subst, arith, Option, Some, None}
use Rattle.std.specs.Prelude.{◌↔◌, slice_get}
use Rattle.std.specs.declared.alloc.Global.{Global}
use Rattle.std.specs.declared.vec.Vec.{Vec}
use Rattle.std.specs.List.Sorted.{IsPermutation}
use Rattle.std.specs.Ordering.{nat_cmp}
use Rattle.std.proofs.lemmas.Bool.{cases_lt, cases_eq, cond-true, cond-false}
use Rattle.std.proofs.lemmas.Bool.Decides.{nat_tests}
use Rattle.std.proofs.lemmas.Option.{none-some, same_Some, slice_get_within}
use Rattle.ap_fst.specs.Lists.{IsIn, Ascends}
use Rattle.ap_fst.specs.Order.{edge_cmp}
use Rattle.ap_fst.specs.Graphs.{place_of, Reaches, begins, follows}
use Rattle.ap_fst.specs.Machines.{Machine, IsMachine}
use Rattle.ap_fst.specs.Sketches.{Sketch, IsSketch}
use Rattle.ap_fst.specs.Paths.{Accepts}
use Rattle.ap_fst.specs.Walks.{Walk, ends, goes, AcceptsLabels}
use Rattle.ap_fst.specs.Quiet.{Quiet, still, along, IsEdge, Steps, final, next}
use Rattle.ap_fst.specs.Removal.{AddsWhere, is_quiet, turned_arc, IsLoudArc, AreLoud, IsNumberIn, AddsFinal, added, same}
use Rattle.ap_fst.specs.Covering.{ArcLists, AreArcsOf, Covers, AreLeads, IsLedAt, IsExit, IsHeld, IsRow, AreRows, AreKept}
use Rattle.ap_fst.specs.Exits.{IsMoved, IsMovedBy, IsEdgeOut, HasEdge, HasEdges, AddsEdges, AreEdges, KeepsRow}
use Rattle.ap_fst.specs.declared.graph.Arc.{Arc}
use Rattle.ap_fst.specs.declared.draft.Move.{Move}
use Rattle.ap_fst.specs.declared.label.Label.{Label}
use Rattle.ap_fst.specs.declared.label.Edge.{Edge}
use Rattle.ap_fst.proofs.Listing.{in_front, in_back, in_either, in_from_place, placed_in, IsPlaced, in_permutation, from_permutation, ascends_push}
use Rattle.ap_fst.proofs.PlaceLaws.{place_some, place_in, cmp_less}
use Rattle.ap_fst.proofs.Adding.{AtBelow, adds_as, adds_all, adds_one}
use Rattle.ap_fst.proofs.QuietLaws.{steps_from_path, path_from_steps}
use Rattle.ap_fst.proofs.Coverings.{quiet_to, loud_option, quiet_on, steps_quiet}

-- ---- the loops

pub record MovedAt (moves : List Move) (leads kept : List ℕ) (number : ℕ) (row : List ℕ) (k : ℕ)
    (e : Edge) : Type 0 where
  pub place : ℕ
  pub at : slice_get row k ≡ Some place
  pub moved : IsMoved moves leads kept number place e

pub moved_at : (moves : List Move) (leads kept : List ℕ) (number : ℕ) (row : List ℕ) (k p : ℕ)
    (xs ys : List Edge) → slice_get row k ≡ Some p →
    AddsWhere (IsMoved moves leads kept number p) xs ys →
    AddsWhere (MovedAt moves leads kept number row k) xs ys
moved_at moves leads kept number row k p xs ys at h =
    adds_as (IsMoved moves leads kept number p) (MovedAt moves leads kept number row k) xs ys (λ e. (
      λ m. record { place = p; at = at; moved = m },
      λ m. subst (λ (x : ℕ). IsMoved moves leads kept number x e)
          (same_Some m.place p (sym m.at ∙ at)) m.moved,
    )) h

pub moved_by : (moves : List Move) (leads kept : List ℕ) (number : ℕ) (row : List ℕ) (n : ℕ)
    (xs ys : List Edge) → length row ≤ n →
    AddsWhere (AtBelow (MovedAt moves leads kept number row) n) xs ys →
    AddsWhere (IsMovedBy moves leads kept number row) xs ys
moved_by moves leads kept number row n xs ys le h =
    adds_as (AtBelow (MovedAt moves leads kept number row) n)
    (IsMovedBy moves leads kept number row) xs ys (λ e. (
      λ m. record {
        place = m.holds.place;
        listed = in_from_place row m.number m.holds.place m.holds.at;
        moved = m.holds.moved;
      },
      λ m. let p : IsPlaced m.place row = placed_in m.place row m.listed in
          let lt : p.place < length row = slice_get_within row p.place m.place p.at in
          record {
            number = p.place;
            below = omega arith;
            holds = record { place = m.place; at = p.at; moved = m.moved };
          },
    )) h

pub adds_edges : (moves : List Move) (finish : ℕ) (leads kept : List ℕ) (number s : ℕ)
    (row : List ℕ) (xs ys : List Edge) → slice_get kept number ≡ Some s →
    IsRow moves finish s row → AddsWhere (IsMovedBy moves leads kept number row) xs ys →
    AddsEdges moves finish leads kept number xs ys
adds_edges moves finish leads kept number s row xs ys at r h = record {
  only = λ e i. elim (h.only e i) [
    | inl k ↦ inl k
    | inr m ↦ inr (record {
      start = s;
      start_at = at;
      place = m.place;
      exit = r.only m.place m.listed;
      moved = m.moved;
    })
  ];
  stays = h.stays;
  all = λ t p there x.
      let k : IsHeld moves finish row p =
      r.all p (subst (λ (z : ℕ). IsExit moves z p) (same_Some t s (sym there ∙ at)) x) in record {
        place = k.place;
        like = k.like;
        there = λ e m. h.there e (record { place = k.place; listed = k.listed; moved = m });
      };
}

pub adds_no_edges : (moves : List Move) (finish : ℕ) (leads kept : List ℕ) (number : ℕ)
    (xs : List Edge) → None ≡ slice_get kept number → AddsEdges moves finish leads kept number xs xs
adds_no_edges moves finish leads kept number xs none = record {
  only = λ e i. inl i;
  stays = λ e i. i;
  all = λ s p there x. absurd (none-some s (none ∙ there));
}

pub rows_kept : (moves : List Move) (finish s : ℕ) (row : Vec ℕ Global)
    (old new : ℕ → Option (Vec ℕ Global)) → AreRows moves finish old → KeepsRow old new s row →
    IsRow moves finish s row.items → AreRows moves finish new
rows_kept moves finish s row old new h k r t other at =
    elim (k t other at) [
      | inl o ↦ h t other o
      | inr b ↦ subst (λ (z : ℕ). IsRow moves finish z other.items) (sym b.0)
          (subst (λ (z : Vec ℕ Global). IsRow moves finish s z.items) (sym b.1) r)
    ]

pub row_kept : (state : ℕ) (row : Vec ℕ Global) (old new : ℕ → Option (Vec ℕ Global)) →
    ((q : ℕ) → new q ≡ cond (eqb state q) (Some row) (old q)) → KeepsRow old new state row
row_kept state row old new h s r at = elim (cases_eq state s) [
  | inl e ↦ inr (
    sym e,
    same_Some r row (sym at ∙ h s
        ∙ cond-true (eqb state s) (Some row) (old s) (grind (arith, nat_tests))),
  )
  | inr d ↦ inl (sym (h s ∙ cond-false (eqb state s) (Some row) (old s)
      (grind (arith, nat_tests))) ∙ at)
]

-- edges of the last so many numbers
pub record AreLastEdges (moves : List Move) (finish : ℕ) (leads kept : List ℕ) (n : ℕ)
    (edges : List Edge) : Type 0 where
  pub only : (e : Edge) → IsIn e edges → IsEdgeOut moves leads kept e.from e
  pub all : (number : ℕ) → length kept ≤ number + n →
      HasEdges moves finish leads kept number edges

pub last_none : (moves : List Move) (finish : ℕ) (leads kept : List ℕ) (edges : List Edge) →
    edges ≡ [] → AreLastEdges moves finish leads kept 0 edges
last_none moves finish leads kept edges none = record {
  only = λ e i. elim (subst (λ (z : List Edge). IsIn e z) none i) [ ];
  all = λ number le s p at x. let lt : number < length kept = slice_get_within kept number s at in
      absurd (omega arith);
}

has_more : (moves : List Move) (finish : ℕ) (leads kept : List ℕ) (number : ℕ)
    (xs ys : List Edge) → ((e : Edge) → IsIn e xs → IsIn e ys) →
    HasEdges moves finish leads kept number xs → HasEdges moves finish leads kept number ys
has_more moves finish leads kept number xs ys f h s p at x =
    let k : HasEdge moves finish leads kept number xs p = h s p at x in
    record { place = k.place; like = k.like; there = λ e m. f e (k.there e m) }

edges_as : (moves : List Move) (finish : ℕ) (leads kept : List ℕ) (xs ys : List Edge) →
    ((e : Edge) → IsIn e ys ↔ IsIn e xs) → AreEdges moves finish leads kept xs →
    AreEdges moves finish leads kept ys
edges_as moves finish leads kept xs ys h r = record {
  only = λ e i. r.only e ((h e).0 i);
  all = λ number. has_more moves finish leads kept number xs ys (λ e i. (h e).1 i) (r.all number);
}

pub last_more : (moves : List Move) (finish : ℕ) (leads kept : List ℕ) (n number : ℕ)
    (xs ys : List Edge) → number ≡ length kept - 1 - n → n < length kept →
    AddsEdges moves finish leads kept number xs ys → AreLastEdges moves finish leads kept n xs →
    AreLastEdges moves finish leads kept (n + 1) ys
last_more moves finish leads kept n number xs ys is within a r = record {
  only = λ e i. elim (a.only e i) [
    | inl k ↦ r.only e k
    | inr o ↦ subst (λ (k : ℕ). IsEdgeOut moves leads kept k e) (sym o.moved.from_is) o
  ];
  all = λ k le. elim (cases_lt (k + n) (length kept)) [
    | inl below ↦ let same : number ≡ k = omega arith in
        subst (λ (z : ℕ). HasEdges moves finish leads kept z ys) same a.all
    | inr above ↦ has_more moves finish leads kept k xs ys a.stays (r.all k above)
  ];
}

pub last_all : (moves : List Move) (finish : ℕ) (leads kept : List ℕ) (n : ℕ)
    (edges : List Edge) → length kept ≤ n → AreLastEdges moves finish leads kept n edges →
    AreEdges moves finish leads kept edges
last_all moves finish leads kept n edges le r =
    record { only = r.only; all = λ number. r.all number (omega arith) }

pub loud_all : (moves : List Move) (n : ℕ) (xs ys : List Arc) → length moves ≤ n → xs ≡ [] →
    AddsWhere (AtBelow (IsLoudArc moves) n) xs ys → AreLoud moves ys
loud_all moves n xs ys le none h = record {
  only = λ a i.
      let m : AtBelow (IsLoudArc moves) n a =
      (adds_all (AtBelow (IsLoudArc moves) n) xs ys none h a).0 i in
      subst (λ (k : ℕ). IsLoudArc moves k a) (sym m.holds.to_is) m.holds;
  there = λ at a l.
      let lt : at < length moves = slice_get_within moves at l.move l.move_at in
      (adds_all (AtBelow (IsLoudArc moves) n) xs ys none h a).1
      (record { number = at; below = omega arith; holds = l });
}

pub loud_sorted : (moves : List Move) (xs ys : List Arc) → IsPermutation xs ys → AreLoud moves xs →
    AreLoud moves ys
loud_sorted moves xs ys p l =
    record {
      only = λ a i. l.only a (from_permutation a xs ys p i);
      there =
          λ at a q. in_permutation a xs ys p (l.there at a q);
    }

pub loud_one : (moves : List Move) (at : ℕ) (m : Move) (xs ys : List Arc) →
    slice_get moves at ≡ Some m → is_quiet m ≡ false →
    ys ≡ xs ++ (let a : Arc = record { from = m.from; to = at } in a) ∷ [] →
    AddsWhere (IsLoudArc moves at) xs ys
loud_one moves at m xs ys here loud e =
    let a : Arc = record { from = m.from; to = at } in
    adds_one (IsLoudArc moves at) xs ys a e
    (record { move = m; move_at = here; loud = loud; from_is = refl; to_is = refl }) (λ x l.
    let f : x.from ≡ m.from =
    l.from_is ∙ ap (λ (y : Move). y.from) (same_Some l.move m (sym l.move_at ∙ here)) in
    let t : x.to ≡ at = l.to_is in
    λ i. record { from = f i; to = t i })

pub moved_one : (moves : List Move) (leads kept : List ℕ) (number p : ℕ) (m : Move) (l l' : Label)
    (lead t : ℕ) (xs ys : List Edge) → slice_get moves p ≡ Some m → slice_get leads p ≡ Some lead →
    m.label ≡ Some l → l' ≡ l → place_of kept lead ≡ Some t
    → ys ≡ xs ++ (let e : Edge = record { from = number; label = l'; to = t } in e) ∷ [] →
    AddsWhere (IsMoved moves leads kept number p) xs ys
moved_one moves leads kept number p m l l' lead t xs ys at led is copied to e =
    let n : Edge = record { from = number; label = l'; to = t } in
    adds_one (IsMoved moves leads kept number p) xs ys n e
    (record {
      move = m;
      move_at = at;
      label_is = is ∙ ap Some (sym copied);
      from_is = refl;
      lead = lead;
      lead_at = led;
      to_is = to;
    }) (λ x h.
    let one : h.move ≡ m = same_Some h.move m (sym h.move_at ∙ at) in
    let led_one : h.lead ≡ lead = same_Some h.lead lead (sym h.lead_at ∙ led) in
    let f : x.from ≡ number = h.from_is in
    let b : x.label ≡ l' = same_Some x.label l (sym h.label_is ∙ ap (λ (y : Move). y.label) one
    ∙ is) ∙ sym copied in
    let c : x.to ≡ t = same_Some x.to t (sym h.to_is ∙ ap (place_of kept) led_one ∙ to) in
    λ i. record { from = f i; label = b i; to = c i })

-- ---- the final states

pub record AreNumbers (kept back : List ℕ) (at : ℕ) (finals : List ℕ) : Type 0 where
  pub ascend : Ascends nat_cmp finals
  pub low : (n : ℕ) → IsIn n finals → n < at
  pub only : (n : ℕ) → IsIn n finals → IsNumberIn kept back n
  pub there : (n : ℕ) → n < at → IsNumberIn kept back n → IsIn n finals

pub numbers_on : (kept back : List ℕ) (at : ℕ) (old new : List ℕ) → AddsFinal kept back at old new →
    AreNumbers kept back at old → AreNumbers kept back (at + 1) new
numbers_on kept back at old new (added here e) r = let P : List ℕ → Type 0 =
    λ z. AreNumbers kept back (at + 1) z in
    subst P (sym e) (record {
      ascend = ascends_push nat_cmp old at r.ascend (λ n i. cmp_less n at (r.low n i));
      low = λ n i. elim (in_either n old (at ∷ []) i) [
        | inl k ↦ let l : n < at = r.low n k in
            omega arith
        | inr k ↦ elim k [ inl f ↦ omega arith | inr x ↦ elim x [ ] ]
      ];
      only = λ n i. elim (in_either n old (at ∷ []) i) [
        | inl k ↦ r.only n k
        | inr k ↦
            elim k [
              | inl f ↦ subst (λ (z : ℕ). IsNumberIn kept back z) (sym f) here
              | inr x ↦
                  elim x [ ]
            ]
      ];
      there = λ n lt h. elim (cases_lt n at) [
        | inl below ↦
            in_front n old (at ∷ []) (r.there n below h)
        | inr le ↦
            in_back n old (at ∷ []) (inl (omega arith))
      ];
    })
numbers_on kept back at old new (same none e) r = let P : List ℕ → Type 0 =
    λ z. AreNumbers kept back (at + 1) z in
    subst P (sym e) (record {
      ascend = r.ascend;
      low = λ n i. let l : n < at = r.low n i in omega arith;
      only = r.only;
      there = λ n lt h. elim (cases_lt n at) [
        | inl below ↦ r.there n below h
        | inr le ↦
            let is : n ≡ at = omega arith in
            absurd (none (subst (λ (z : ℕ). IsNumberIn kept back z) is h))
      ];
    })

pub numbers_all : (kept back : List ℕ) (n : ℕ) (finals : List ℕ) → length kept ≤ n →
    AreNumbers kept back n finals → (k : ℕ) → IsIn k finals ↔ IsNumberIn kept back k
numbers_all kept back n finals le r k = (
  r.only k,
  λ h. let lt : k < length kept = slice_get_within kept k h.state h.at in
      r.there k (omega arith) h,
)

-- ---- empty moves to the end

to_quiet : (moves : List Move) (a : ArcLists) (t s : ℕ) → AreArcsOf moves a → Quiet moves s t →
    Reaches a.entering (t ∷ []) s
to_quiet moves a t s h (still e) = begins (inl e)
to_quiet moves a t s h (along m listed from none rest) =
    follows (turned_arc m) (to_quiet moves a t m.to h rest) (h.entering_all m listed none) from

-- ---- all together

pub record IsRemoval (d : Sketch) (a : ArcLists) (leads kept back : List ℕ)
    (m : Machine) : Type 0 where
  pub arcs_are : AreArcsOf d.moves a
  pub leads_are : AreLeads d.moves d.finish leads
  pub kept_are : AreKept d.moves leads d.start kept
  pub back_are : (s : ℕ) → IsIn s back ↔ Reaches a.entering (d.finish ∷ []) s
  pub states_are : m.states ≡ length kept
  pub edges_are : AreEdges d.moves d.finish leads kept m.edges
  pub finals_are : (n : ℕ) → IsIn n m.finals ↔ IsNumberIn kept back n

module _ (d : Sketch) (a : ArcLists) (leads kept back : List ℕ) (m : Machine)
    (r : IsRemoval d a leads kept back m) where
  -- the move of the draft that an edge stands for
  record IsOld (s : ℕ) (e : Edge) : Type 0 where
    to : ℕ
    lead : ℕ
    lead_at : slice_get kept e.to ≡ Some lead
    edge : IsEdge d.moves s e.label to
    quiet : Quiet d.moves to lead

  old_edge : (e : Edge) (s : ℕ) → slice_get kept e.from ≡ Some s → IsIn e m.edges → IsOld s e
  old_edge e s at i =
      let o : IsEdgeOut d.moves leads kept e.from e = r.edges_are.only e i in
      let x : IsExit d.moves o.start o.place = o.exit in
      let one : x.move ≡ o.moved.move = same_Some x.move o.moved.move (sym x.at ∙ o.moved.move_at) in
      let l : IsLedAt d.moves d.finish leads o.place x.move = r.leads_are o.place x.move x.at in
      record {
        to = x.move.to;
        lead = l.lead;
        lead_at = place_some kept l.lead e.to
            (ap (place_of kept) (same_Some l.lead o.moved.lead (sym l.at ∙ o.moved.lead_at))
            ∙ o.moved.to_is);
        edge = record {
          move = x.move;
          quiet = subst (λ (z : ℕ). Quiet d.moves z x.move.from)
              (same_Some o.start s (sym o.start_at ∙ at)) x.quiet;
          listed = in_from_place d.moves o.place x.move x.at;
          label_is = ap (λ (y : Move). y.label) one ∙ o.moved.label_is;
          to_is = refl;
        };
        quiet = l.is.quiet;
      }

  steps_by_walk : (i k s : ℕ) (w : List Label) → slice_get kept i ≡ Some s →
      IsNumberIn kept back k → Walk m.edges i w k → Steps d.moves d.finish s w
  steps_by_walk i k s w at f (ends e) =
      let is : f.state ≡ s = same_Some f.state s (sym f.at ∙ ap (slice_get kept) (sym e) ∙ at) in
      final refl (subst (λ (x : ℕ). Quiet d.moves x d.finish) is
      (quiet_to d.moves a d.finish f.state r.arcs_are ((r.back_are f.state).0 f.listed)))
  steps_by_walk i k s w at f (goes {labels = labels} j e here from whole rest) =
      let o : IsOld s e = old_edge e s (ap (slice_get kept) (sym from) ∙ at)
      (in_from_place m.edges j e here) in
      next e.label o.to labels whole o.edge
      (steps_quiet d.moves d.finish o.to o.lead labels o.quiet
      (steps_by_walk e.to k o.lead labels o.lead_at f rest))

  record IsNew (i : ℕ) (w : List Label) : Type 0 where
    last : ℕ
    is : IsNumberIn kept back last
    walk : Walk m.edges i w last

  -- an edge of the transducer that leads on as the move of the draft does
  record IsMore (i : ℕ) (label : Label) (t : ℕ) : Type 0 where
    to : ℕ
    lead : ℕ
    lead_at : slice_get kept to ≡ Some lead
    covers : Covers d.moves d.finish lead t
    there : IsIn (let n : Edge = record { from = i; label = label; to = to } in n) m.edges

  new_edge : (i s t : ℕ) (l : Label) → slice_get kept i ≡ Some s → IsEdge d.moves s l t →
      IsMore i l t
  new_edge i s t l at e =
      let p : IsPlaced e.move d.moves = placed_in e.move d.moves e.listed in
      let loud : is_quiet e.move ≡ false = loud_option e.move.label l e.label_is in
      let h : HasEdge d.moves d.finish leads kept i m.edges p.place =
      r.edges_are.all i s p.place at
      (record { move = e.move; at = p.at; loud = loud; quiet = e.quiet }) in
      let second : h.like.second ≡ e.move =
      same_Some h.like.second e.move (sym h.like.second_at ∙ p.at) in
      let label : h.like.first.label ≡ Some l =
      h.like.same ∙ ap (λ (y : Move). y.label) second ∙ e.label_is in
      let led : IsLedAt d.moves d.finish leads h.place h.like.first =
      r.leads_are h.place h.like.first h.like.first_at in
      let (k, q) = place_in kept led.lead
      (r.kept_are.there h.place h.like.first led.lead h.like.first_at
      (loud_option h.like.first.label l label) led.at) in
      let n : Edge = record { from = i; label = l; to = k } in
      let to : h.like.second.to ≡ t = ap (λ (y : Move). y.to) second ∙ sym e.to_is in
      record {
        to = k;
        lead = led.lead;
        lead_at = place_some kept led.lead k q;
        covers = λ w x. led.is.covers w (h.like.covers w
            (subst (λ (z : ℕ). Steps d.moves d.finish z w) (sym to) x));
        there = h.there n (record {
          move = h.like.first;
          move_at = h.like.first_at;
          label_is = label;
          from_is = refl;
          lead = led.lead;
          lead_at = led.at;
          to_is = q;
        });
      }

  new_end : (i s : ℕ) (w : List Label) → slice_get kept i ≡ Some s → w ≡ [] →
      Quiet d.moves s d.finish → IsNew i w
  new_end i s w at e q = record {
    last = i;
    is = record {
      state = s;
      at = at;
      listed = (r.back_are s).1 (to_quiet d.moves a d.finish s r.arcs_are q);
    };
    walk = subst (λ (x : List Label). Walk m.edges i x i) (sym e) (ends refl);
  }

  walk_by_steps : (w : List Label) (i s : ℕ) → slice_get kept i ≡ Some s →
      Steps d.moves d.finish s w → IsNew i w
  walk_by_steps [] i s at (final e q) = new_end i s [] at e q
  walk_by_steps [] i s at (next label t more e edge rest) = cc
  walk_by_steps (l ∷ ws) i s at (final e q) = cc
  walk_by_steps (l ∷ ws) i s at (next label t more e edge rest) =
      let same : ws ≡ more = cc in
      let n : IsMore i label t = new_edge i s t label at edge in
      let x : Edge = record { from = i; label = label; to = n.to } in
      let on : Steps d.moves d.finish n.lead ws =
      n.covers ws (subst (λ (z : List Label). Steps d.moves d.finish t z) (sym same) rest) in
      let o : IsNew n.to ws = walk_by_steps ws n.to n.lead n.lead_at on in
      let p : IsPlaced x m.edges = placed_in x m.edges n.there in
      record {
        last = o.last;
        is = o.is;
        walk = goes p.place x p.at refl (e ∙ ap (λ z. label ∷ z) (sym same)) o.walk;
      }

  pub removal_accepts : (w : List Label) → AcceptsLabels m w ↔ Accepts d w
  removal_accepts w = (
    λ h. path_from_steps d.moves d.finish d.start w
        (steps_by_walk 0 h.last d.start w r.kept_are.first ((r.finals_are h.last).0 h.final) h.walk),
    λ h. let o : IsNew 0 w =
        walk_by_steps w 0 d.start r.kept_are.first (steps_from_path d.moves d.finish d.start w h) in
        record { last = o.last; final = (r.finals_are o.last).1 o.is; walk = o.walk },
  )

  pub removal_is_machine : IsSketch d → Ascends edge_cmp m.edges → Ascends nat_cmp m.finals
      → IsMachine m
  removal_is_machine ok up fs =
      let n : m.states ≡ length kept = r.states_are in
      let z : 0 < length kept = slice_get_within kept 0 d.start r.kept_are.first in
      record {
        some = omega arith;
        edges_ascend = up;
        finals_ascend = fs;
        each = λ e i.
            let o : IsEdgeOut d.moves leads kept e.from e = r.edges_are.only e i in
            let f : e.from < length kept = slice_get_within kept e.from o.start o.start_at in
            let t : e.to < length kept =
            slice_get_within kept e.to o.moved.lead
            (place_some kept o.moved.lead e.to o.moved.to_is) in
            record {
              from_in = omega arith;
              to_in = omega arith;
              sided = ok.sided o.moved.move e.label
                  (in_from_place d.moves o.place o.moved.move o.moved.move_at)
                  o.moved.label_is;
            };
        finals_in = λ s i. let f : IsNumberIn kept back s = (r.finals_are s).0 i in
            let l : s < length kept = slice_get_within kept s f.state f.at in omega arith;
      }

pub removal_made : (d : Sketch) (ms : List Move) (a : ArcLists) (li l1 l2 kept back : List ℕ)
    (es0 es : List Edge) (m : Machine) → ms ≡ d.moves → AreArcsOf ms a → a.finish ≡ d.finish →
    AreLeads ms a.finish li → l1 ≡ li → l2 ≡ li → AreKept ms l1 d.start kept →
    ((s : ℕ) → IsIn s back ↔ Reaches a.entering (a.finish ∷ []) s) →
    AreEdges ms a.finish l2 kept es0 → ((e : Edge) → IsIn e es ↔ IsIn e es0) → m.edges ≡ es →
    m.states ≡ length kept → ((n : ℕ) → IsIn n m.finals ↔ IsNumberIn kept back n) →
    IsRemoval d a l1 kept back m
removal_made d ms a li l1 l2 kept back es0 es m e arcs f leads e1 e2 k b edges same_edges me n fs =
    let one : l2 ≡ l1 = e2 ∙ sym e1 in
    let E : AreEdges d.moves d.finish l1 kept es0 =
    subst (λ (z : List ℕ). AreEdges d.moves d.finish z kept es0) one
    (subst (λ (z : ℕ). AreEdges d.moves z l2 kept es0) f
    (subst (λ (z : List Move). AreEdges z a.finish l2 kept es0) e edges)) in
    record {
      arcs_are = subst (λ (z : List Move). AreArcsOf z a) e arcs;
      leads_are = subst (λ (z : ℕ). AreLeads d.moves z l1) f
          (subst (λ (z : List Move). AreLeads z a.finish l1) e
          (subst (λ (z : List ℕ). AreLeads ms a.finish z) (sym e1) leads));
      kept_are = subst (λ (z : List Move). AreKept z l1 d.start kept) e k;
      back_are = λ s. subst (λ (z : ℕ). IsIn s back ↔ Reaches a.entering (z ∷ []) s) f (b s);
      states_are = n;
      edges_are = edges_as d.moves d.finish l1 kept es0 m.edges
          (λ x. (
            λ i. (same_edges x).0 (subst (λ (z : List Edge). IsIn x z) me i),
            λ i. subst (λ (z : List Edge). IsIn x z) (sym me) ((same_edges x).1 i),
          )) E;
      finals_are = fs;
    }
