use Rattle.std.proofs.Common.{◌≡◌, ◌⊎◌, inl, inr, ℕ, ◌+◌, ◌<◌, ◌≤◌, Bool, true, false, cond, nat_eq, List, [], ◌∷◌, ◌++◌, refl, sym, ◌∙◌, ap, subst, append_assoc, append-nil, arith, Option, Some, None, slice_get, length, take, get_or, suc, zero, length-append}
use Rattle.std.proofs.lemmas.Option.{none-some, same_Some}
use Rattle.std.proofs.lemmas.Map.Steps.{length-le_from_distinct_below}
use Rattle.std.proofs.lemmas.List.{take-append-le, take_more}
use Rattle.std.proofs.Math.Seq.{take-length}
use Rattle.std.specs.Prelude.{◌&&◌}
use Rattle.std.specs.List.{list_any, IsDistinct}
use Rattle.std.proofs.lemmas.Bool.{cases_eq, cases_lt, true≢false}
use Rattle.std.proofs.lemmas.Bool.Decides.{nat_tests}
use Rattle.std.proofs.lemmas.Map.Keys.{IsDistinct-push}
use Rattle.std.proofs.lemmas.Cmp.{nat_eq_equiv}
use Rattle.ap_fst.specs.Lists.{IsIn}
use Rattle.std.specs.Prelude.{◌↔◌}
use Rattle.std.specs.Ordering.{nat_cmp}
use Rattle.std.specs.declared.cmp.Ordering.TheVariants.{Less}
use Rattle.std.specs.List.{dedup, AllByRecursion}
use Rattle.std.specs.List.Sorted.{IsPermutation, IsSorted, IsStrictlySortedBy}
use Rattle.std.proofs.Common.{eqb}
use Rattle.std.proofs.lemmas.List.Kept.{Contains-from_dedup, Contains-dedup_nat}
use Rattle.std.proofs.lemmas.Map.Keys.{IsStrictlyIncreasing-dedup, sorted_from_strictly_increasing}
use Rattle.ap_fst.proofs.Listing.{in_contains, contains_in, in_permutation, from_permutation}
use Rattle.ap_fst.proofs.PlaceLaws.{less_from_cmp}
use Rattle.ap_fst.specs.Machines.{Machine, IsMachine}
use Rattle.ap_fst.specs.declared.label.Edge.{Edge}
use Rattle.ap_live.specs.Fitting.{Input, picks}
use Rattle.ap_live.specs.declared.arrivals.Arrival.{Arrival}
use Rattle.ap_live.specs.Spreads.{arrival, with_state, Adds, SpreadOne, Picked, Spread, PickedFrom, From, given, onward, Closed, AnyPlace, IsPlace}

pub in_front : {X : Type 0} (x : X) (xs ys : List X) → IsIn x xs → IsIn x (xs ++ ys)
in_front x [] ys h = elim h [ ]
in_front x (y ∷ xs) ys (inl e) = inl e
in_front x (y ∷ xs) ys (inr h) = inr (in_front x xs ys h)

pub in_back : {X : Type 0} (x : X) (xs ys : List X) → IsIn x ys → IsIn x (xs ++ ys)
in_back x [] ys h = h
in_back x (y ∷ xs) ys h = inr (in_back x xs ys h)

pub in_either : {X : Type 0} (x : X) (xs ys : List X) → IsIn x (xs ++ ys) → IsIn x xs ⊎ IsIn x ys
in_either x [] ys h = inr h
in_either x (y ∷ xs) ys (inl e) = inl (inl e)
in_either x (y ∷ xs) ys (inr h) = elim (in_either x xs ys h) [ inl k ↦ inl (inr k) | inr k ↦ inr k ]

pub both_true : (a b : Bool) → a ≡ true → b ≡ true → (a && b) ≡ true
both_true true b p q = q
both_true false b p q = cc

pub in_from_place : {X : Type 0} (xs : List X) (j : ℕ) (x : X) → slice_get xs j ≡ Some x → IsIn x xs
in_from_place [] j x h = absurd (none-some x h)
in_from_place (y ∷ xs) zero x h = inl (sym (same_Some y x h))
in_from_place (y ∷ xs) (suc j) x h = inr (in_from_place xs j x h)

pub from_in : (m : Machine) → IsMachine m → (j : ℕ) (e : Edge) → slice_get m.edges j ≡ Some e →
    e.from < m.states
from_in m ok j e at = (ok.each e (in_from_place m.edges j e at)).from_in

pub to_in : (m : Machine) → IsMachine m → (j : ℕ) (e : Edge) → slice_get m.edges j ≡ Some e →
    e.to < m.states
to_in m ok j e at = (ok.each e (in_from_place m.edges j e at)).to_in

pub in_from_any : (x : ℕ) (xs : List ℕ) → list_any (λ y. nat_eq y x) xs ≡ true → IsIn x xs
in_from_any x [] h = cc
in_from_any x (y ∷ ys) h =
    elim (cases_eq y x) [
      | inl e ↦ inl (sym e)
      | inr d ↦
          inr (in_from_any x ys (grind (arith, nat_tests)))
    ]

none_equal : (x : ℕ) (xs : List ℕ) → list_any (λ y. nat_eq y x) xs ≡ false →
    list_any (nat_eq x) xs ≡ false
none_equal x [] h = refl
none_equal x (y ∷ ys) h =
    elim (cases_eq y x) [
      | inl e ↦ absurd (grind (arith, nat_tests))
      | inr d ↦
          let k : list_any (nat_eq x) ys ≡ false = none_equal x ys (grind (arith, nat_tests)) in
          grind (arith, nat_tests)
    ]

adds_by : (pick : Option Input) (states : List ℕ) (s : ℕ) (b : Bool) →
    list_any (λ y. nat_eq y s) states ≡ b → Adds pick states s (cond b states (states ++ s ∷ []))
adds_by pick states s true h =
    record {
      more = [];
      grown = sym (append-nil states);
      only = λ x i. elim i [ ];
      there =
          in_from_any s states h;
      distinct = λ n d. d;
    }
adds_by pick states s false h = record {
  more = s ∷ [];
  grown = refl;
  only = λ x i. elim i [ inl e ↦ e | inr k ↦ elim k [ ] ];
  there = in_back s states (s ∷ []) (inl refl);
  distinct = λ n d. IsDistinct-push nat_eq_equiv states s d (none_equal s states h);
}

pub adds : (pick : Option Input) (states : List ℕ) (s : ℕ) (states' : List ℕ) →
    states' ≡ with_state states s → Adds pick states s states'
adds pick states s states' e = let P : List ℕ → Type 0 = λ x. Adds pick states s x in
    subst P (sym e) (adds_by pick states s (list_any (λ y. nat_eq y s) states) refl)

pub adds_pushed : (pick : Option Input) (states : List ℕ) (s : ℕ) (states' : List ℕ) →
    (pick ≡ None → ⊥) → states' ≡ states ++ s ∷ [] → Adds pick states s states'
adds_pushed pick states s states' fits e =
    let P : List ℕ → Type 0 = λ x. Adds pick states s x in
    subst P (sym e) (record {
      more = s ∷ [];
      grown = refl;
      only = λ x i. elim i [ inl e ↦ e | inr k ↦ elim k [ ] ];
      there = in_back s states (s ∷ []) (inl refl);
      distinct = λ n d. absurd (fits n);
    })

-- nothing is added, where no edge that is picked is seen
pub spread_none : (edges : List Edge) (pick : Option Input) (from : ℕ) (seen : ℕ → Type 0)
    (states : List ℕ) (links : List Arrival) → ((s j : ℕ) → Picked edges pick from s j → seen j → ⊥)
    → SpreadOne edges pick from seen states links states links
spread_none edges pick from seen states links none = record {
  more = [];
  grown = sym (append-nil states);
  sound = λ s i. elim i [ ];
  complete = λ s j p q. absurd (none s j p q);
  links_sound = λ a i. inl i;
  links_kept = λ a i. i;
  distinct = λ n d. d;
}

pub one_edge : (edges : List Edge) (pick : Option Input) (from s k j : ℕ)
    (p : Picked edges pick from s k) (e : Edge) → k ≡ j → slice_get edges j ≡ Some e → p.edge ≡ e
one_edge edges pick from s k j p e same at =
    same_Some p.edge e (sym p.at ∙ ap (slice_get edges) same ∙ at)

-- one edge, that is picked
pub spread_edge : (edges : List Edge) (pick : Option Input) (j : ℕ) (states : List ℕ)
    (links : List Arrival) (states' : List ℕ) (links' : List Arrival) (e : Edge) →
    slice_get edges j ≡ Some e
    → picks pick e ≡ true → Adds pick states e.to states' → links' ≡ links ++ arrival e.to j ∷ [] →
    SpreadOne edges pick e.from (IsPlace j) states links states' links'
spread_edge edges pick j states links states' links' e at good a linked =
    let p' : Picked edges pick e.from e.to j =
    record { edge = e; at = at; from_is = refl; to_is = refl; passes = good } in
    let new : Arrival = arrival e.to j in
    let L : List Arrival → Arrival → Type 0 = λ xs x. IsIn x xs in
    record {
      more = a.more;
      grown = a.grown;
      sound = λ s i. (
        j,
        (let Q : ℕ → Type 0 = λ x. Picked edges pick e.from x j in
            subst Q (sym (a.only s i)) p'),
      );
      complete = λ s k p same.
          let to : s ≡ e.to = p.to_is
          ∙ ap (λ (x : Edge). x.to) (one_edge edges pick e.from s k j p e same at) in (
            subst (λ (x : ℕ). IsIn x states') (sym to) a.there,
            subst (λ (xs : List Arrival). L xs (arrival s k)) (sym linked)
                (in_back (arrival s k) links (new ∷ [])
                (inl (ap (λ x. arrival x k) to ∙ ap (λ x. arrival e.to x) same))),
          );
      links_sound = λ b i. elim (in_either b links (new ∷ [])
          (subst (λ (xs : List Arrival). L xs b) linked i)) [
            | inl x ↦ inl x
            | inr x ↦ elim x [
              | inl q ↦
                  inr (let Q : Arrival → Type 0 = λ x. Picked edges pick e.from x.to x.edge in
                  subst Q (sym q) p')
              | inr z ↦ elim z [ ]
            ]
          ];
      links_kept = λ b i. subst (λ (xs : List Arrival). L xs b) (sym linked)
          (in_front b links (new ∷ []) i);
      distinct = a.distinct;
    }

-- one edge, that isn't picked
pub spread_skip : (edges : List Edge) (pick : Option Input) (j : ℕ) (states : List ℕ)
    (links : List Arrival) (e : Edge) → slice_get edges j ≡ Some e → picks pick e ≡ false →
    SpreadOne edges pick e.from (IsPlace j) states links states links
spread_skip edges pick j states links e at bad =
    spread_none edges pick e.from (IsPlace j) states links
    (λ s k p same. true≢false
    (sym p.passes ∙ ap (picks pick) (one_edge edges pick e.from s k j p e same at) ∙ bad))

-- other places are seen, where each of them that is picked was seen
pub spread_seen : (edges : List Edge) (pick : Option Input) (from : ℕ) (seen seen' : ℕ → Type 0)
    (states : List ℕ) (links : List Arrival) (states' : List ℕ) (links' : List Arrival) →
    ((s j : ℕ) → Picked edges pick from s j → seen' j → seen j)
    → SpreadOne edges pick from seen states links states' links' →
    SpreadOne edges pick from seen' states links states' links'
spread_seen edges pick from seen seen' states links states' links' was h = record {
  more = h.more;
  grown = h.grown;
  sound = h.sound;
  complete = λ s j p q. h.complete s j p (was s j p q);
  links_sound = h.links_sound;
  links_kept = h.links_kept;
  distinct = h.distinct;
}

-- at some places, and then at others
pub spread_two : (edges : List Edge) (pick : Option Input) (from : ℕ) (seen seen' seen'' : ℕ →
    Type 0) (states : List ℕ) (links : List Arrival) (states' : List ℕ) (links' : List Arrival)
    (states'' : List ℕ) (links'' : List Arrival) →
    ((s j : ℕ) → Picked edges pick from s j → seen'' j → seen j ⊎ seen' j)
    → SpreadOne edges pick from seen states links states' links' →
    SpreadOne edges pick from seen' states' links' states'' links'' →
    SpreadOne edges pick from seen'' states links states'' links''
spread_two edges pick from seen seen' seen'' states links states' links' states'' links'' either
    h k = record {
      more = h.more ++ k.more;
      grown = k.grown ∙ ap (λ x. x ++ k.more) h.grown ∙ append_assoc states h.more k.more;
      sound = λ s i. elim (in_either s h.more k.more i) [
        | inl x ↦ h.sound s x
        | inr x ↦
            k.sound s x
      ];
      complete = λ s j p any. elim (either s j p any) [
        | inl q ↦ let both : IsIn s states' × IsIn (arrival s j) links' = h.complete s j p q in (
          subst (λ (xs : List ℕ). IsIn s xs) (sym k.grown) (in_front s states' k.more both.0),
          k.links_kept (arrival s j) both.1,
        )
        | inr q ↦ k.complete s j p q
      ];
      links_sound = λ a i. elim (k.links_sound a i) [ inl x ↦ h.links_sound a x | inr x ↦ inr x ];
      links_kept = λ a i. k.links_kept a (h.links_kept a i);
      distinct = λ n d. k.distinct n (h.distinct n d);
    }

-- one edge of the state more
pub spread_more : (edges : List Edge) (pick : Option Input) (from j : ℕ) (e : Edge)
    (seen seen' : ℕ → Type 0) (states : List ℕ) (links : List Arrival) (states' : List ℕ)
    (links' : List Arrival) (states'' : List ℕ) (links'' : List Arrival) → e.from ≡ from →
    ((k : ℕ) → seen' k → seen k ⊎ (k ≡ j))
    → SpreadOne edges pick from seen states links states' links' →
    SpreadOne edges pick e.from (IsPlace j) states' links' states'' links'' →
    SpreadOne edges pick from seen' states links states'' links''
spread_more edges pick from j e seen seen' states links states' links' states'' links''
    leaves either h k =
    spread_two edges pick from seen (IsPlace j) seen' states links states' links' states'' links''
    (λ s i p q. either i q) h
    (subst (λ (x : ℕ). SpreadOne edges pick x (IsPlace j) states' links' states''
    links'') leaves k)

pub below_or_at : (bound k : ℕ) → k < bound + 1 → (k < bound) ⊎ (k ≡ bound)
below_or_at bound k lt =
    elim (cases_lt k bound) [ inl below ↦ inl below | inr le ↦ inr (omega arith) ]

-- from one state
pub spread_one : (edges : List Edge) (pick : Option Input) (from : ℕ) (states : List ℕ)
    (links : List Arrival) (states' : List ℕ) (links' : List Arrival) →
    SpreadOne edges pick from AnyPlace states links states' links' →
    Spread edges pick (from ∷ []) states links states' links'
spread_one edges pick from states links states' links' h = record {
  more = h.more;
  grown = h.grown;
  sound = λ s i. let (j, p) = h.sound s i in (
    j,
    (let r : PickedFrom edges pick (from ∷ []) s j =
        record { from = from; listed = inl refl; picked = p } in r),
  );
  complete = λ s j p. let is : p.from ≡ from = elim p.listed [ inl e ↦ e | inr z ↦ elim z [ ] ] in
      let q : Picked edges pick from s j = subst (λ (x : ℕ). Picked edges pick x s j) is p.picked in
      h.complete s j q tt;
  links_sound = λ a i. elim (h.links_sound a i) [
    | inl k ↦ inl k
    | inr p ↦
        inr (let r : PickedFrom edges pick (from ∷ []) a.to a.edge =
        record { from = from; listed = inl refl; picked = p } in r)
  ];
  links_kept = h.links_kept;
  distinct = h.distinct;
}

pub spread_nothing : (edges : List Edge) (pick : Option Input) (states : List ℕ)
    (links : List Arrival) → Spread edges pick [] states links states links
spread_nothing edges pick states links = record {
  more = [];
  grown = sym (append-nil states);
  sound = λ s i. elim i [ ];
  complete = λ s j p. elim p.listed [ ];
  links_sound = λ a i. inl i;
  links_kept = λ a i. i;
  distinct = λ n d. d;
}

from_front : (edges : List Edge) (pick : Option Input) (a b : List ℕ) (s j : ℕ) →
    PickedFrom edges pick a s j → PickedFrom edges pick (a ++ b) s j
from_front edges pick a b s j p =
    record { from = p.from; listed = in_front p.from a b p.listed; picked = p.picked }

from_back : (edges : List Edge) (pick : Option Input) (a b : List ℕ) (s j : ℕ) →
    PickedFrom edges pick b s j → PickedFrom edges pick (a ++ b) s j
from_back edges pick a b s j p =
    record { from = p.from; listed = in_back p.from a b p.listed; picked = p.picked }

-- from some states, and then from others
pub spread_then : (edges : List Edge) (pick : Option Input) (a b states : List ℕ)
    (links : List Arrival) (states' : List ℕ) (links' : List Arrival) (states'' : List ℕ)
    (links'' : List Arrival) → Spread edges pick a states links states' links' →
    Spread edges pick b states' links' states'' links''
    → Spread edges pick (a ++ b) states links states'' links''
spread_then edges pick a b states links states' links' states'' links'' h k =
    let S : ℕ → List ℕ → Type 0 = λ s xs. IsIn s xs in
    record {
      more = h.more ++ k.more;
      grown = k.grown ∙ ap (λ x. x ++ k.more) h.grown ∙ append_assoc states h.more k.more;
      sound = λ s i. elim (in_either s h.more k.more i) [
        | inl x ↦ let (j, p) = h.sound s x in (j, from_front edges pick a b s j p)
        | inr x ↦ let (j, p) = k.sound s x in (j, from_back edges pick a b s j p)
      ];
      complete = λ s j p. elim (in_either p.from a b p.listed) [
        | inl x ↦ let q : PickedFrom edges pick a s j =
            record { from = p.from; listed = x; picked = p.picked } in
            let both : IsIn s states' × IsIn (arrival s j) links' = h.complete s j q in (
              subst (λ (xs : List ℕ). S s xs) (sym k.grown) (in_front s states' k.more both.0),
              k.links_kept (arrival s j) both.1,
            )
        | inr x ↦ let q : PickedFrom edges pick b s j =
            record { from = p.from; listed = x; picked = p.picked } in k.complete s j q
      ];
      links_sound = λ x i. elim (k.links_sound x i) [
        | inl y ↦ elim (h.links_sound x y) [
          | inl z ↦ inl z
          | inr p ↦
              inr (from_front edges pick a b x.to x.edge p)
        ]
        | inr p ↦ inr (from_back edges pick a b x.to x.edge p)
      ];
      links_kept = λ x i. k.links_kept x (h.links_kept x i);
      distinct = λ n d. k.distinct n (h.distinct n d);
    }

pub spread_item : (edges : List Edge) (pick : Option Input) (froms : List ℕ) (from i : ℕ)
    (states : List ℕ) (links : List Arrival) (states' : List ℕ) (links' : List Arrival)
    (states'' : List ℕ) (links'' : List Arrival) → i < length froms → from ≡ get_or froms i 0
    → Spread edges pick (take i froms) states links states' links' →
    SpreadOne edges pick from AnyPlace states' links' states'' links''
    → Spread edges pick (take (i + 1) froms) states links states'' links''
spread_item edges pick froms from i states links states' links' states'' links'' lt is h k =
    let e : take (i + 1) froms ≡ take i froms ++ (from ∷ []) =
    take_more froms i 0 lt ∙ ap (λ x. take i froms ++ (x ∷ [])) (sym is) in
    subst (λ (a : List ℕ). Spread edges pick a states links states'' links'') (sym e)
    (spread_then edges pick (take i froms) (from ∷ []) states links states' links'
    states'' links'' h
    (spread_one edges pick from states' links' states'' links'' k))

-- the worklist: the first states are spread already
pub close_step : (edges : List Edge) (base states : List ℕ) (links0 links : List Arrival)
    (states' : List ℕ) (links' : List Arrival) (from i : ℕ) → i < length states →
    from ≡ get_or states i 0
    → Spread edges None (take i states) base links0 states links →
    SpreadOne edges None from AnyPlace states links states' links'
    → Spread edges None (take (i + 1) states') base links0 states' links'
close_step edges base states links0 links states' links' from i lt is h k =
    let e : take (i + 1) states' ≡ take (i + 1) states = ap (take (i + 1)) k.grown
    ∙ take-append-le (i + 1) states k.more (omega arith) in
    subst (λ (a : List ℕ). Spread edges None a base links0 states' links') (sym e)
    (spread_item edges None states from i base links0 states links states' links' lt is h k)

pub close_sound : (edges : List Edge) (base states : List ℕ) (links : List Arrival)
    (states' : List ℕ) (links' : List Arrival) (from : ℕ) → IsIn from states →
    ((s : ℕ) → IsIn s states → From edges base s)
    → SpreadOne edges None from AnyPlace states links states' links' → (s : ℕ) → IsIn s states' →
    From edges base s
close_sound edges base states links states' links' from listed sound k s i =
    elim (in_either s states k.more (subst (λ (xs : List ℕ). IsIn s xs) k.grown i)) [
      | inl x ↦ sound s x
      | inr x ↦ let (j, p) = k.sound s x in onward from j p (sound from listed)
    ]

pub in_at : (xs : List ℕ) (i : ℕ) → i < length xs → IsIn (get_or xs i 0) xs
in_at [] i h = absurd (omega arith)
in_at (x ∷ xs) zero h = inl refl
in_at (x ∷ xs) (suc i) h = inr (in_at xs i (omega arith))

-- what is reached is below the number of states
from_below : (edges : List Edge) (base : List ℕ) (n s : ℕ) → ((x : ℕ) → IsIn x base → x < n) →
    ((j : ℕ) (e : Edge) → slice_get edges j ≡ Some e → e.to < n) → From edges base s → s < n
from_below edges base n s below to_in (given i) = below s i
from_below edges base n s below to_in (onward f j p more) = let h : p.edge.to < n =
    to_in j p.edge p.at in let q : s ≡ p.edge.to = p.to_is in omega arith

any_in : (x : ℕ) (xs : List ℕ) → list_any (nat_eq x) xs ≡ true → IsIn x xs
any_in x [] h = cc
any_in x (y ∷ ys) h = elim (cases_eq x y) [
  | inl e ↦ inl e
  | inr d ↦
      inr (any_in x ys (grind (arith, nat_tests)))
]

-- so no more states are listed than there are
pub few_states : (edges : List Edge) (base states : List ℕ) (n : ℕ) →
    ((x : ℕ) → IsIn x base → x < n) → ((j : ℕ) (e : Edge) → slice_get edges j ≡ Some e → e.to < n)
    → IsDistinct nat_eq states → ((s : ℕ) → IsIn s states → From edges base s) → length states ≤ n
few_states edges base states n below to_in distinct sound =
    length-le_from_distinct_below states n distinct
    (λ q h. from_below edges base n q below to_in (sound q (any_in q states h)))

pub closed_by : (edges : List Edge) (base : List ℕ) (links : List Arrival) (states' : List ℕ)
    (links' : List Arrival) (i : ℕ) → i ≡ length states' →
    Spread edges None (take i states') base links states' links' →
    ((s : ℕ) → IsIn s states' → From edges base s)
    → Closed edges base links states' links'
closed_by edges base links states' links' i le h sound =
    record {
      spread = subst (λ (a : List ℕ). Spread edges None a base links states' links')
          (ap (λ n. take n states') le ∙ take-length states') h;
      sound = sound;
    }

-- the base of a row is below the number of states
pub spread_below : (edges : List Edge) (pick : Option Input) (froms base : List ℕ)
    (links : List Arrival) (n : ℕ) → ((j : ℕ) (e : Edge) → slice_get edges j ≡ Some e → e.to < n) →
    Spread edges pick froms [] [] base links → (s : ℕ) → IsIn s base → s < n
spread_below edges pick froms base links n to_in h s i =
    let (j, p) = h.sound s (subst (λ (xs : List ℕ). IsIn s xs) h.grown i) in
    let below : p.picked.edge.to < n = to_in j p.picked.edge p.picked.at in
    let q : s ≡ p.picked.edge.to = p.picked.to_is in omega arith

pub longer : (states states' more : List ℕ) (i : ℕ) → states' ≡ states ++ more → i < length states →
    i + 1 ≤ length states'
longer states states' more i e h = omega (arith, ap (length {A = ℕ}) e, length-append states more)

pub spread_fresh : (edges : List Edge) (pick : Option Input) (froms a : List ℕ) (b : List Arrival)
    (base : List ℕ) (links : List Arrival) → a ≡ [] → b ≡ [] →
    Spread edges pick froms a b base links → Spread edges pick froms [] [] base links
spread_fresh edges pick froms a b base links ea eb h =
    subst (λ (x : List ℕ). Spread edges pick froms x [] base links) ea
    (subst (λ (x : List Arrival). Spread edges pick froms a x base links) eb h)

pub none_twice : IsDistinct nat_eq (let none : List ℕ = [] in none)
unfolding IsDistinct
none_twice = tt

pub start_distinct : (xs : List ℕ) → xs ≡ [] → IsDistinct nat_eq (xs ++ 0 ∷ [])
start_distinct xs e = subst (λ (x : List ℕ). IsDistinct nat_eq (x ++ 0 ∷ [])) (sym e)
    (IsDistinct-push nat_eq_equiv [] 0 none_twice refl)

pub few_distinct : (xs : List ℕ) → length xs < 2 → IsDistinct nat_eq xs
unfolding IsDistinct
few_distinct [] few = tt
few_distinct (x ∷ []) few = (tt, tt)
few_distinct (x ∷ y ∷ xs) few = absurd (omega arith)

-- the states put into order, each once, and the arrivals put into order
pub spread_sorted : (edges : List Edge) (pick : Option Input) (froms raw base : List ℕ)
    (links links' : List Arrival) → ((s : ℕ) → IsIn s base ↔ IsIn s raw) → IsDistinct nat_eq base →
    ((a : Arrival) → IsIn a links' ↔ IsIn a links) → Spread edges pick froms [] [] raw links
    → Spread edges pick froms [] [] base links'
spread_sorted edges pick froms raw base links links' same distinct alike h = record {
  more = base;
  grown = refl;
  sound = λ s i. h.sound s (subst (λ (z : List ℕ). IsIn s z) h.grown ((same s).0 i));
  complete = λ s j p. let q : IsIn s raw × IsIn (arrival s j) links = h.complete s j p in
      ((same s).1 q.0, (alike (arrival s j)).1 q.1);
  links_sound = λ a i. h.links_sound a ((alike a).0 i);
  links_kept = λ a i. (alike a).1 (h.links_kept a i);
  distinct = λ n d. distinct;
}

-- the arrivals by empty edges put into order
pub closed_sorted : (edges : List Edge) (base : List ℕ) (none : List Arrival) (states : List ℕ)
    (links links' : List Arrival) → none ≡ [] → ((a : Arrival) → IsIn a links' ↔ IsIn a links) →
    Closed edges base none states links → Closed edges base [] states links'
closed_sorted edges base none states links links' e alike h =
    let h' : Closed edges base [] states links =
    subst (λ (x : List Arrival). Closed edges base x states links) e h in
    record {
      spread = record {
        more = h'.spread.more;
        grown = h'.spread.grown;
        sound = h'.spread.sound;
        complete = λ s j p. let q : IsIn s states × IsIn (arrival s j) links =
            h'.spread.complete s j p in (q.0, (alike (arrival s j)).1 q.1);
        links_sound = λ a i. h'.spread.links_sound a ((alike a).0 i);
        links_kept = λ a i. elim i [ ];
        distinct = h'.spread.distinct;
      };
      sound = h'.sound;
    }

pub state_members : (old xs ys : List ℕ) → IsPermutation old xs → ys ≡ dedup eqb xs → (s : ℕ) →
    IsIn s ys ↔ IsIn s old
state_members old xs ys p e s =
    let P : List ℕ → Type 0 = λ z. IsIn s z in (
      (λ i. from_permutation s old xs p
          (contains_in s xs (Contains-from_dedup eqb xs s
          (in_contains s (dedup eqb xs) (subst P e i))))),
      (λ i. subst P (sym e) (contains_in s (dedup eqb xs)
          (Contains-dedup_nat xs s (in_contains s xs (in_permutation s old xs p i))))),
    )

apart_of : (x : ℕ) (xs : List ℕ) → AllByRecursion (λ y. nat_cmp x y ≡ Less) xs →
    AllByRecursion (λ y. nat_eq x y ≡ false) xs
apart_of x [] h = tt
apart_of x (y ∷ xs) h = (
  let l : x < y = less_from_cmp x y h.0 in grind (arith, nat_tests),
  apart_of x xs h.1,
)

distinct_of : (xs : List ℕ) → IsStrictlySortedBy nat_cmp xs → IsDistinct nat_eq xs
unfolding IsDistinct IsStrictlySortedBy
distinct_of [] h = tt
distinct_of (x ∷ xs) h = (apart_of x xs h.0, distinct_of xs h.1)

pub sorted_distinct : (xs ys : List ℕ) → IsSorted nat_cmp xs → ys ≡ dedup eqb xs →
    IsDistinct nat_eq ys
sorted_distinct xs ys h e =
    let P : List ℕ → Type 0 = λ z. IsDistinct nat_eq z in
    subst P (sym e) (distinct_of (dedup eqb xs)
    (sorted_from_strictly_increasing (dedup eqb xs) (IsStrictlyIncreasing-dedup xs h)))
