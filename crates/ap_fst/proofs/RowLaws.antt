-- Rows of places that stand for all labelled moves that follow a state.
use Rattle.std.proofs.Common.{◌≡◌, ◌⊎◌, inl, inr, ℕ, ◌+◌, ◌-◌, ◌<◌, ◌≤◌, false, not, List, [], ◌∷◌, ◌++◌, map, length, refl, sym, ◌∙◌, ap, subst, arith, Option, Some, None}
use Rattle.std.specs.Prelude.{slice_get}
use Rattle.std.specs.declared.alloc.Global.{Global}
use Rattle.std.specs.declared.vec.Vec.{Vec}
use Rattle.std.specs.Option.{is_some}
use Rattle.std.proofs.lemmas.Bool.{cases_lt, true≢false}
use Rattle.std.proofs.lemmas.Option.{none-some, same_Some, slice_get_within}
use Rattle.ap_fst.specs.Lists.{IsIn}
use Rattle.ap_fst.specs.Graphs.{arc_to, arcs_at, Grows}
use Rattle.ap_fst.specs.Quiet.{Quiet, still, along, Steps}
use Rattle.ap_fst.specs.Removal.{is_quiet, move_arc, IsLoudArc}
use Rattle.ap_fst.specs.Covering.{ArcLists, AreArcsOf, Covers, AreLeads, IsLedAt, IsExit, IsLike, IsLikeBefore, AddsUnlessLike, beyond, held, other, IsHeld, IsRow, AreRows, GoesOn, by_row, by_arcs, KeepsOn, AreKept}
use Rattle.ap_fst.specs.declared.graph.Arc.{Arc}
use Rattle.ap_fst.specs.declared.draft.Move.{Move}
use Rattle.std.specs.List.Sorted.{IsPermutation}
use Rattle.ap_fst.proofs.Listing.{in_front, in_back, in_either, in_from_place, placed_in, IsPlaced, place_front, in_map, in_mapped, IsImage, in_permutation, from_permutation}
use Rattle.ap_fst.proofs.Growing.{grows_keeps, grows_only, longer_old, few_left}
use Rattle.ap_fst.proofs.Coverings.{quiet_on, steps_quiet, covers_same, IsArcAt, arc_at, quiet_arc_at, arc_of_quiet, loud_at}

-- ---- moves that stand for others

pub like_same : (moves : List Move) (finish p : ℕ) (m : Move) → slice_get moves p ≡ Some m →
    IsLike moves finish p p
like_same moves finish p m at = record {
  first = m;
  first_at = at;
  second = m;
  second_at = at;
  same = refl;
  covers = covers_same moves finish m.to m.to refl;
}

pub like_then : (moves : List Move) (finish p q r : ℕ) → IsLike moves finish p q →
    IsLike moves finish q r → IsLike moves finish p r
like_then moves finish p q r a b =
    let one : a.second ≡ b.first = same_Some a.second b.first (sym a.second_at ∙ b.first_at) in
    record {
      first = a.first;
      first_at = a.first_at;
      second = b.second;
      second_at = b.second_at;
      same = a.same ∙ ap (λ (m : Move). m.label) one ∙ b.same;
      covers = λ w h. a.covers w
          (subst (λ (m : Move). Steps moves finish m.to w) (sym one) (b.covers w h));
    }

pub like_by_leads : (moves : List Move) (finish p q lead further : ℕ) (leads : List ℕ)
    (first second : Move) → slice_get moves p ≡ Some first → slice_get moves q ≡ Some second →
    first.label ≡ second.label → slice_get leads p ≡ Some lead → slice_get leads q ≡ Some further →
    AreLeads moves finish leads → Covers moves finish lead further → IsLike moves finish p q
like_by_leads moves finish p q lead further leads first second pm qm same pl ql h c =
    let a : IsLedAt moves finish leads p first = h p first pm in
    let b : IsLedAt moves finish leads q second = h q second qm in
    record {
      first = first;
      first_at = pm;
      second = second;
      second_at = qm;
      same = same;
      covers = λ w s.
          steps_quiet moves finish first.to lead w
          (subst (λ (x : ℕ). Quiet moves first.to x) (same_Some a.lead lead (sym a.at ∙ pl)) a.is.quiet)
          (c w (subst (λ (x : ℕ). Steps moves finish x w) (same_Some b.lead further (sym b.at ∙ ql))
          (b.is.covers w s)));
    }

pub held_here : (moves : List Move) (finish : ℕ) (row : List ℕ) (p : ℕ) (m : Move) →
    slice_get moves p ≡ Some m → IsIn p row → IsHeld moves finish row p
held_here moves finish row p m at i =
    record { place = p; listed = i; like = like_same moves finish p m at }

pub held_more : (moves : List Move) (finish : ℕ) (row more : List ℕ) (p : ℕ) →
    ((x : ℕ) → IsIn x row → IsIn x more) → IsHeld moves finish row p → IsHeld moves finish more p
held_more moves finish row more p f h =
    record { place = h.place; listed = f h.place h.listed; like = h.like }

pub held_then : (moves : List Move) (finish : ℕ) (row : List ℕ) (p q : ℕ) →
    IsHeld moves finish row p → IsLike moves finish p q → IsHeld moves finish row q
held_then moves finish row p q h l =
    record {
      place = h.place;
      listed = h.listed;
      like = like_then moves finish h.place p q h.like l;
    }

pub like_before : (moves : List Move) (finish : ℕ) (places : List ℕ) (at p q : ℕ) → 0 < at →
    Some p ≡ slice_get places (at - 1) → Some q ≡ slice_get places at → IsLike moves finish p q →
    IsLikeBefore moves finish places at
like_before moves finish places at p q some b e l = record {
  some = some;
  before = p;
  before_at = sym b;
  place = q;
  place_at = sym e;
  like = l;
}

pub exit_before : (moves : List Move) (s t p : ℕ) → Quiet moves s t → IsExit moves t p →
    IsExit moves s p
exit_before moves s t p q x =
    record {
      move = x.move;
      at = x.at;
      loud = x.loud;
      quiet = quiet_on moves s t x.move.from q x.quiet;
    }

-- ---- the search

-- what follows the state is at these places, or goes on in the states near
pub data IsGone (moves : List Move) (finish : ℕ) (near places : List ℕ) (s : ℕ) : Type 0 where
  whole : ((p : ℕ) → IsExit moves s p → IsHeld moves finish places p) →
      IsGone moves finish near places s
  parted : ((p : ℕ) (m : Move) → slice_get moves p ≡ Some m → is_quiet m ≡ false → s ≡ m.from →
      IsIn p places) → ((m : Move) → IsIn m moves → s ≡ m.from → m.label ≡ None →
      IsIn m.to near) → IsGone moves finish near places s

pub record IsSearching (moves : List Move) (finish s : ℕ) (near places : List ℕ) (at : ℕ) : Type 0 where
  pub sound : (x : ℕ) → IsIn x near → Quiet moves s x
  pub started : IsIn s near
  pub only : (p : ℕ) → IsIn p places → IsExit moves s p
  pub gone : (k x : ℕ) → slice_get near k ≡ Some x → k < at → IsGone moves finish near places x

pub searching_begun : (moves : List Move) (finish s : ℕ) (before near places : List ℕ) →
    before ≡ [] → Grows before (s ∷ []) near → places ≡ [] →
    IsSearching moves finish s near places 0
searching_begun moves finish s before near places none g e = record {
  sound = λ x i. elim (grows_only before (s ∷ []) near x g i) [
    | inl k ↦ elim (subst (λ (z : List ℕ). IsIn x z) none k) [ ]
    | inr k ↦ elim k [ inl f ↦ still (sym f) | inr n ↦ elim n [ ] ]
  ];
  started = g.there s (inl refl);
  only = λ p i. elim (subst (λ (z : List ℕ). IsIn p z) e i) [ ];
  gone = λ k x at lt. absurd (omega arith);
}

gone_more : (moves : List Move) (finish s : ℕ) (near near' places places' : List ℕ) →
    ((x : ℕ) → IsIn x near → IsIn x near') → ((x : ℕ) → IsIn x places → IsIn x places') →
    IsGone moves finish near places s → IsGone moves finish near' places' s
gone_more moves finish s near near' places places' f g (whole h) =
    whole (λ p x. held_more moves finish places places' p g (h p x))
gone_more moves finish s near near' places places' f g (parted h k) =
    parted (λ p m at loud from. g p (h p m at loud from))
    (λ m i from none. f m.to (k m i from none))

-- the steps that a search makes at a state
pub record IsStepped (moves : List Move) (finish s : ℕ) (near near' places places' : List ℕ) : Type 0 where
  pub near_stays : (x : ℕ) → IsIn x near → IsIn x near'
  pub near_same : (k x : ℕ) → k < length near → slice_get near' k ≡ Some x → slice_get near k ≡ Some x
  pub near_only : (x : ℕ) → IsIn x near' → IsIn x near ⊎ Quiet moves s x
  pub places_stay : (p : ℕ) → IsIn p places → IsIn p places'
  pub places_only : (p : ℕ) → IsIn p places' → IsIn p places ⊎ IsExit moves s p
  pub done : IsGone moves finish near' places' s

loud_exit : (moves : List Move) (a : ArcLists) (s p : ℕ) → AreArcsOf moves a →
    IsIn p (map arc_to (arcs_at a.loud s)) → IsExit moves s p
loud_exit moves a s p h i =
    let m : IsImage arc_to p (arcs_at a.loud s) = in_mapped arc_to p (arcs_at a.loud s) i in
    let k : IsArcAt a.loud s m.source = arc_at a.loud s m.source m.listed in
    let l : IsLoudArc moves m.source.to m.source = h.loud_are.only m.source k.listed in record {
      move = l.move;
      at = ap (slice_get moves) m.image ∙ l.move_at;
      loud = l.loud;
      quiet = still (sym k.from_is ∙ l.from_is);
    }

pub stepped : (moves : List Move) (a : ArcLists) (row_at : ℕ → Option (Vec ℕ Global)) (s : ℕ)
    (near near' places places' : List ℕ) → AreArcsOf moves a → AreRows moves a.finish row_at →
    GoesOn a row_at s near near' places places' →
    IsStepped moves a.finish s near near' places places'
stepped moves a row_at s near near' places places' h rows (by_row row at same e) =
    let r : IsRow moves a.finish s row.items = rows s row at in record {
      near_stays = λ x i. subst (λ (z : List ℕ). IsIn x z) (sym same) i;
      near_same = λ k x lt here. ap (λ (z : List ℕ). slice_get z k) (sym same) ∙ here;
      near_only = λ x i. inl (subst (λ (z : List ℕ). IsIn x z) same i);
      places_stay = λ p i. subst (λ (z : List ℕ). IsIn p z) (sym e) (in_front p places row.items i);
      places_only = λ p i.
          elim (in_either p places row.items (subst (λ (z : List ℕ). IsIn p z) e i)) [
            | inl k ↦ inl k
            | inr k ↦ inr (r.only p k)
          ];
      done = whole (λ p x. held_more moves a.finish row.items places' p
          (λ y i. subst (λ (z : List ℕ). IsIn y z) (sym e) (in_back y places row.items i))
          (r.all p x));
    }
stepped moves a row_at s near near' places places' h rows (by_arcs g e) =
    let new : List ℕ = map arc_to (arcs_at a.loud s) in
    let quiet : List ℕ = map arc_to (arcs_at a.quiet s) in record {
      near_stays = λ x i. grows_keeps near quiet near' x g i;
      near_same = λ k x lt here.
          longer_old near g.more k x lt (subst (λ (z : List ℕ). slice_get z k ≡ Some x) g.grown here);
      near_only = λ x i. elim (grows_only near quiet near' x g i) [
        | inl k ↦ inl k
        | inr k ↦ let m : IsImage arc_to x (arcs_at a.quiet s) =
            in_mapped arc_to x (arcs_at a.quiet s) k in
            inr (subst (λ (z : ℕ). Quiet moves s z) (sym m.image)
            (quiet_arc_at moves a s m.source h m.listed))
      ];
      places_stay = λ p i. subst (λ (z : List ℕ). IsIn p z) (sym e) (in_front p places new i);
      places_only = λ p i. elim (in_either p places new (subst (λ (z : List ℕ). IsIn p z) e i)) [
        | inl k ↦ inl k
        | inr k ↦ inr (loud_exit moves a s p h k)
      ];
      done = parted (λ p m at loud from.
          subst (λ (z : List ℕ). IsIn p z) (sym e) (in_back p places new
          (in_map arc_to (let b : Arc = record { from = m.from; to = p } in b) (arcs_at a.loud s)
          (loud_at moves a s p m h at loud from))))
          (λ m i from none. g.there m.to (in_map arc_to (move_arc m) (arcs_at a.quiet s)
          (arc_of_quiet moves a s m h i from none)));
    }

pub searching_on : (moves : List Move) (finish s x : ℕ) (near near' places places' : List ℕ)
    (at : ℕ) → slice_get near at ≡ Some x → IsStepped moves finish x near near' places places' →
    IsSearching moves finish s near places at → IsSearching moves finish s near' places' (at + 1)
searching_on moves finish s x near near' places places' at here t r =
    let q : Quiet moves s x = r.sound x (in_from_place near at x here) in
    let within : at < length near = slice_get_within near at x here in record {
      sound = λ y i. elim (t.near_only y i) [
        | inl k ↦ r.sound y k
        | inr k ↦ quiet_on moves s x y q k
      ];
      started = t.near_stays s r.started;
      only = λ p i. elim (t.places_only p i) [
        | inl k ↦ r.only p k
        | inr k ↦ exit_before moves s x p q k
      ];
      gone = λ k y there lt.
          let old : slice_get near k ≡ Some y = t.near_same k y (omega arith) there in
          elim (cases_lt k at) [
            | inl below ↦ gone_more moves finish y near near' places places' t.near_stays
                t.places_stay (r.gone k y old below)
            | inr le ↦
                let is : k ≡ at = omega arith in
                let one : x ≡ y = same_Some x y (sym here ∙ ap (slice_get near) (sym is) ∙ old) in
                subst (λ (z : ℕ). IsGone moves finish near' places' z) one t.done
          ];
    }

found_from : (moves : List Move) (finish s : ℕ) (near places : List ℕ) (at : ℕ) →
    None ≡ slice_get near at → IsSearching moves finish s near places at → (p y f : ℕ) (m : Move) →
    slice_get moves p ≡ Some m → is_quiet m ≡ false → f ≡ m.from → IsIn y near → Quiet moves y f →
    IsGone moves finish near places y → IsHeld moves finish places p
found_from moves finish s near places at none r p y f m here loud from i q (whole h) =
    h p (record {
      move = m;
      at = here;
      loud = loud;
      quiet = subst (λ (z : ℕ). Quiet moves y z) from q;
    })
found_from moves finish s near places at none r p y f m here loud from i (still e) (parted h k) =
    held_here moves finish places p m here (h p m here loud (e ∙ from))
found_from moves finish s near places at none r p y f m here loud from i
    (along n listed leaves quiet rest) (parted h k) =
    let j : IsIn n.to near = k n listed leaves quiet in
    let l : IsPlaced n.to near = placed_in n.to near j in
    found_from moves finish s near places at none r p n.to f m here loud from j rest
    (r.gone l.place n.to l.at (few_left near at l.place n.to none l.at))

pub found_all : (moves : List Move) (finish s : ℕ) (near places : List ℕ) (at : ℕ) →
    None ≡ slice_get near at → IsSearching moves finish s near places at →
    IsRow moves finish s places
found_all moves finish s near places at none r = record {
  only = r.only;
  all = λ p x. let l : IsPlaced s near = placed_in s near r.started in
      found_from moves finish s near places at none r p s x.move.from x.move x.at x.loud refl
      r.started x.quiet (r.gone l.place s l.at (few_left near at l.place s none l.at));
}

-- where no empty move leaves a state, the places of its own labelled moves are its row
pub own_row : (moves : List Move) (a : ArcLists) (s : ℕ) (places : List ℕ) → AreArcsOf moves a →
    arcs_at a.quiet s ≡ [] → places ≡ map arc_to (arcs_at a.loud s) → IsRow moves a.finish s places
own_row moves a s places h none is =
    let begun : Grows [] (s ∷ []) (s ∷ []) =
    record { more = s ∷ []; grown = refl; there = λ x i. i; only = λ x i. i } in
    let same : Grows (s ∷ []) (map arc_to (arcs_at a.quiet s)) (s ∷ []) =
    record {
      more = [];
      grown = refl;
      there = λ x i.
          elim (subst (λ (z : List Arc). IsIn x (map arc_to z)) none i) [ ];
      only = λ x i. elim i [ ];
    } in
    found_all moves a.finish s (s ∷ []) places 1 refl
    (searching_on moves a.finish s s (s ∷ []) (s ∷ []) [] places 0 refl
    (stepped moves a (λ _. None) s (s ∷ []) (s ∷ []) [] places h (λ t row at. absurd (cc))
    (by_arcs same is))
    (searching_begun moves a.finish s [] (s ∷ []) [] refl begun refl))

-- ---- rows without what others stand for

pub record ArePruned (moves : List Move) (finish : ℕ) (places : List ℕ) (n : ℕ)
    (row : List ℕ) : Type 0 where
  pub only : (p : ℕ) → IsIn p row → IsIn p places
  pub all : (k p : ℕ) (m : Move) → k < n → slice_get places k ≡ Some p →
      slice_get moves p ≡ Some m → IsHeld moves finish row p

pub pruned_none : (moves : List Move) (finish : ℕ) (places row : List ℕ) → row ≡ [] →
    ArePruned moves finish places 0 row
pruned_none moves finish places row e = record {
  only = λ p i. elim (subst (λ (z : List ℕ). IsIn p z) e i) [ ];
  all = λ k p m lt at here. absurd (omega arith);
}

pruned_kept : (moves : List Move) (finish : ℕ) (places row new : List ℕ) (n q : ℕ) →
    slice_get places n ≡ Some q → new ≡ row ++ q ∷ [] → ArePruned moves finish places n row →
    ArePruned moves finish places (n + 1) new
pruned_kept moves finish places row new n q there e r = record {
  only = λ p i. elim (in_either p row (q ∷ []) (subst (λ (z : List ℕ). IsIn p z) e i)) [
    | inl k ↦ r.only p k
    | inr k ↦
        elim k [
          | inl f ↦ subst (λ (z : ℕ). IsIn z places) (sym f) (in_from_place places n q there)
          | inr x ↦ elim x [ ]
        ]
  ];
  all = λ k p m lt at here. elim (cases_lt k n) [
    | inl below ↦ held_more moves finish row new p
        (λ x i. subst (λ (z : List ℕ). IsIn x z) (sym e) (in_front x row (q ∷ []) i))
        (r.all k p m below at here)
    | inr le ↦
        let is : k ≡ n = omega arith in
        let one : p ≡ q = same_Some p q (sym at ∙ ap (slice_get places) is ∙ there) in
        held_here moves finish new p m here
        (subst (λ (z : List ℕ). IsIn p z) (sym e) (in_back p row (q ∷ []) (inl one)))
  ];
}

pruned_held : (moves : List Move) (finish : ℕ) (places row : List ℕ) (n : ℕ) →
    IsLikeBefore moves finish places n → ArePruned moves finish places n row →
    ArePruned moves finish places (n + 1) row
pruned_held moves finish places row n l r = record {
  only = r.only;
  all = λ k q m lt at here. elim (cases_lt k n) [
    | inl below ↦ r.all k q m below at here
    | inr le ↦
        let is : k ≡ n = omega arith in
        let one : l.place ≡ q =
        same_Some l.place q (sym l.place_at ∙ ap (slice_get places) (sym is) ∙ at) in
        let some : 0 < n = l.some in
        held_then moves finish row l.before q
        (r.all (n - 1) l.before l.like.first (omega arith) l.before_at l.like.first_at)
        (subst (λ (z : ℕ). IsLike moves finish l.before z) one l.like)
  ];
}

pub pruned_on : (moves : List Move) (finish : ℕ) (places row new : List ℕ) (n : ℕ) →
    AddsUnlessLike moves finish places n row new → ArePruned moves finish places n row →
    ArePruned moves finish places (n + 1) new
pruned_on moves finish places row new n (beyond none same) r =
    let P : List ℕ → Type 0 = λ z. ArePruned moves finish places (n + 1) z in
    subst P (sym same) (record {
      only = r.only;
      all = λ k p m lt at here. elim (cases_lt k n) [
        | inl below ↦ r.all k p m below at here
        | inr le ↦ let is : k ≡ n = omega arith in
            absurd (none-some p (none ∙ ap (slice_get places) (sym is) ∙ at))
      ];
    })
pruned_on moves finish places row new n (held l same) r =
    let P : List ℕ → Type 0 = λ z. ArePruned moves finish places (n + 1) z in
    subst P (sym same) (pruned_held moves finish places row n l r)
pruned_on moves finish places row new n (other q there e) r =
    pruned_kept moves finish places row new n q there e r

pub pruned_all : (moves : List Move) (finish : ℕ) (places row : List ℕ) (n : ℕ) →
    length places ≤ n → ArePruned moves finish places n row → (p : ℕ) (m : Move) →
    slice_get moves p ≡ Some m → IsIn p places → IsHeld moves finish row p
pruned_all moves finish places row n le r p m here i =
    let k : IsPlaced p places = placed_in p places i in
    let lt : k.place < length places = slice_get_within places k.place p k.at in
    r.all k.place p m (omega arith) k.at here

pub row_pruned : (moves : List Move) (finish s : ℕ) (xs ys row : List ℕ) → IsPermutation xs ys →
    ((p : ℕ) → IsIn p row → IsIn p ys) → ((p : ℕ) (m : Move) → slice_get moves p ≡ Some m →
    IsIn p ys → IsHeld moves finish row p) → IsRow moves finish s xs → IsRow moves finish s row
row_pruned moves finish s xs ys row perm only all r = record {
  only = λ p i. r.only p (from_permutation p xs ys perm (only p i));
  all = λ p x.
      let h : IsHeld moves finish xs p = r.all p x in
      held_then moves finish row h.place p
      (all h.place h.like.first h.like.first_at (in_permutation h.place xs ys perm h.listed)) h.like;
}

-- ---- the states that are kept

pub keeps_by : (moves : List Move) (leads : List ℕ) (at s : ℕ) (old new : List ℕ) →
    Grows old (s ∷ []) new → ((m : Move) (t : ℕ) → slice_get moves at ≡ Some m →
    is_quiet m ≡ false → slice_get leads at ≡ Some t → Some s ≡ Some t) →
    KeepsOn moves leads at old new
keeps_by moves leads at s old new g h = record {
  first = λ x e. subst (λ (z : List ℕ). slice_get z 0 ≡ Some x) (sym g.grown)
      (place_front old g.more 0 x e);
  stays = λ x i. grows_keeps old (s ∷ []) new x g i;
  there = λ m t here loud led. subst (λ (z : ℕ). IsIn z new) (same_Some s t (h m t here loud led))
      (g.there s (inl refl));
}

pub keeps_none : (moves : List Move) (leads : List ℕ) (at : ℕ) (old : List ℕ) →
    ((m : Move) (t : ℕ) → slice_get moves at ≡ Some m → is_quiet m ≡ false →
    slice_get leads at ≡ Some t → ⊥) → KeepsOn moves leads at old old
keeps_none moves leads at old h = record {
  first = λ x e. e;
  stays = λ x i. i;
  there = λ m t here loud led. absurd (h m t here loud led);
}

pub not_loud : (moves : List Move) (at : ℕ) (n m : Move) → Some n ≡ slice_get moves at →
    slice_get moves at ≡ Some m → is_some n.label ≡ false → is_quiet m ≡ false → ⊥
not_loud moves at n m there here none loud =
    let one : n ≡ m = same_Some n m (there ∙ here) in
    true≢false (sym (ap not none) ∙ ap is_quiet one ∙ loud)

pub record AreKeptBelow (moves : List Move) (leads : List ℕ) (start n : ℕ)
    (kept : List ℕ) : Type 0 where
  pub first : slice_get kept 0 ≡ Some start
  pub there : (p : ℕ) (m : Move) (s : ℕ) → p < n → slice_get moves p ≡ Some m →
      is_quiet m ≡ false → slice_get leads p ≡ Some s → IsIn s kept

pub kept_begun : (moves : List Move) (leads : List ℕ) (start : ℕ) (kept : List ℕ) →
    kept ≡ start ∷ [] → AreKeptBelow moves leads start 0 kept
kept_begun moves leads start kept e = record {
  first = ap (λ (z : List ℕ). slice_get z 0) e;
  there = λ p m s lt here loud led. absurd (omega arith);
}

pub kept_more : (moves : List Move) (leads : List ℕ) (start n : ℕ) (old new : List ℕ) →
    KeepsOn moves leads n old new → AreKeptBelow moves leads start n old →
    AreKeptBelow moves leads start (n + 1) new
kept_more moves leads start n old new k r = record {
  first = k.first start r.first;
  there = λ p m s lt here loud led. elim (cases_lt p n) [
    | inl below ↦ k.stays s (r.there p m s below here loud led)
    | inr le ↦
        let is : p ≡ n = omega arith in
        k.there m s (ap (slice_get moves) (sym is) ∙ here) loud (ap (slice_get leads) (sym is) ∙ led)
  ];
}

pub kept_all : (moves : List Move) (leads : List ℕ) (start n : ℕ) (kept : List ℕ) →
    length moves ≤ n → AreKeptBelow moves leads start n kept → AreKept moves leads start kept
kept_all moves leads start n kept le r = record {
  first = r.first;
  there = λ p m s here loud led.
      let lt : p < length moves = slice_get_within moves p m here in
      r.there p m s (omega arith) here loud led;
}
