-- The states that edges lead to, added one after another.
use Rattle.std.proofs.Common.{◌≡◌, inl, inr, ◌⊎◌, ℕ, ◌+◌, ◌<◌, ◌≤◌, max, true, List, [], length, refl, sym, ◌∙◌, ap, subst, arith, Option, Some, None, false}
use Rattle.std.specs.Prelude.{◌↔◌, slice_get}
use Rattle.std.proofs.lemmas.Bool.{cases_lt}
use Rattle.std.proofs.lemmas.Option.{same_Some, none-some, slice_get_within}
use Rattle.ap_symbol.specs.Fitting.{fits_lem}
use Rattle.ap_symbol.specs.declared.symbol.Symbol.{Symbol}
use Rattle.ap_symbol.proofs.FittingSymbols.{fits_is}
use Rattle.ap_fst.specs.Lists.{IsIn}
use Rattle.ap_fst.specs.Machines.{Machine, IsSpanBy}
use Rattle.ap_fst.specs.Removal.{AddsWhere}
use Rattle.ap_fst.specs.declared.label.Edge.{Edge}
use Rattle.ap_fst.proofs.Adding.{adds_none, adds_as, adds_all, AtBelow}
use Rattle.ap_fst.proofs.Listing.{in_from_place, placed_in, IsPlaced}
use Rattle.ap_det.specs.Exits.{LeadsAt, LeadsWithin}
use Rattle.ap_live.specs.Spreads.{IsOther}
use Rattle.ap_trim.specs.Reading.{LeavesBy, FitsFrom, FitsTo}

-- one kind and then another
pub adds_both : {X : Type 0} (P Q R : X → Type 0) (xs ys zs : List X) →
    ((x : X) → (P x ⊎ Q x) ↔ R x) → AddsWhere P xs ys → AddsWhere Q ys zs → AddsWhere R xs zs
adds_both P Q R xs ys zs h a b = record {
  only = λ x i. elim (b.only x i) [
    | inl k ↦ elim (a.only x k) [ inl j ↦ inl j | inr p ↦ inr ((h x).0 (inl p)) ]
    | inr q ↦ inr ((h x).0 (inr q))
  ];
  stays = λ x i. b.stays x (a.stays x i);
  there = λ x r. elim ((h x).1 r) [ inl p ↦ b.stays x (a.there x p) | inr q ↦ b.there x q ];
}

module _ (edge_of : ℕ → Option Edge) where
  pub span_begun : (low : ℕ) (xs : List ℕ) → AddsWhere (LeadsWithin edge_of low low) xs xs
  span_begun low xs = adds_none (LeadsWithin edge_of low low) xs
      (λ t k. let a : low ≤ k.number = k.above in let b : k.number < low = k.below in
      omega (arith, a, b))

  pub span_on : (low at : ℕ) (xs ys zs : List ℕ) → low ≤ at →
      AddsWhere (LeadsWithin edge_of low at) xs ys → AddsWhere (LeadsAt edge_of at) ys zs →
      AddsWhere (LeadsWithin edge_of low (at + 1)) xs zs
  span_on low at xs ys zs le a b = adds_both (LeadsWithin edge_of low at) (LeadsAt edge_of at)
      (LeadsWithin edge_of low (at + 1)) xs ys zs (λ t. (
        λ k. elim k [
          | inl w ↦ let c : w.number < at = w.below in record {
            number = w.number;
            above = w.above;
            below = omega (arith, c);
            leads = w.leads;
          }
          | inr l ↦ record { number = at; above = le; below = omega arith; leads = l }
        ],
        λ w. let c : w.number < at + 1 = w.below in elim (cases_lt w.number at) [
          | inl lt ↦ inl (record { number = w.number; above = w.above; below = lt; leads = w.leads })
          | inr ge ↦ let same : w.number ≡ at = omega (arith, c, ge) in
              inr (subst (λ (z : ℕ). LeadsAt edge_of z t) same w.leads)
        ],
      )) a b

  pub span_all : (low high at : ℕ) (xs ys : List ℕ) → at ≤ max low high → high ≤ at →
      AddsWhere (LeadsWithin edge_of low at) xs ys → AddsWhere (LeadsWithin edge_of low high) xs ys
  span_all low high at xs ys le up h = adds_as (LeadsWithin edge_of low at)
      (LeadsWithin edge_of low high) xs ys (λ t. (
        λ w. let a : low ≤ w.number = w.above in let b : w.number < at = w.below in
            record {
              number = w.number;
              above = w.above;
              below = omega (arith, a, b, le, up);
              leads =
                  w.leads;
            },
        λ w. let b : w.number < high = w.below in record {
          number = w.number;
          above = w.above;
          below =
              omega (arith, b, up);
          leads = w.leads;
        },
      )) h

-- the edges of a span are those of a state with a left side
pub span_leaves : (m : Machine) (edges : List Edge) (state : ℕ) (left : Option Symbol)
    (low high : ℕ) (xs ys : List ℕ) → edges ≡ m.edges → IsSpanBy m.edges state left low high →
    AddsWhere (LeadsWithin (slice_get edges) low high) xs ys →
    AddsWhere (LeavesBy m state left) xs ys
span_leaves m edges state left low high xs ys e s h = adds_as
    (LeadsWithin (slice_get edges) low high) (LeavesBy m state left) xs ys (λ t. (
      λ w.
          let at : slice_get m.edges w.number ≡ Some w.leads.edge =
          ap (λ (z : List Edge). slice_get z w.number) (sym e) ∙ w.leads.at in
          let i = s.inside w.number w.leads.edge at w.above w.below in
          record {
            edge = w.leads.edge;
            listed = in_from_place m.edges w.number w.leads.edge at;
            from_is = i.0;
            left_is = i.1;
            to_is = w.leads.to_is;
          },
      λ l.
          let p : IsPlaced l.edge m.edges = placed_in l.edge m.edges l.listed in
          let o = s.outside p.place l.edge p.at l.from_is l.left_is in
          record {
            number = p.place;
            above = o.0;
            below = o.1;
            leads =
                record {
                  edge = l.edge;
                  at = ap (λ (z : List Edge). slice_get z p.place) e ∙ p.at;
                  to_is =
                      l.to_is;
                };
          },
    )) h

-- ---- what fits a symbol

left_as : (m : Machine) (state t : ℕ) (left other : Option Symbol) → left ≡ other →
    LeavesBy m state left t → LeavesBy m state other t
left_as m state t left other e l = subst (λ (o : Option Symbol). LeavesBy m state o t) e l

fits_itself : (x : Symbol) → fits_lem false x x ≡ true
fits_itself x = (fits_is false x x).1 (inl refl)

module _ (m : Machine) (x : Symbol) (state : ℕ) where
  fitting_one : (o : Option Symbol) → IsOther (record { symbol = x; sensitive = false }) o →
      o ≡ None → (t : ℕ) → LeavesBy m state (Some x) t ↔ FitsFrom m x state t
  fitting_one o is none t = (
    λ l. record { side = x; fit = fits_itself x; leaves = l },
    λ f. elim (is.only f.side f.fit) [
      | inl e ↦ left_as m state t (Some f.side) (Some x) (ap Some e) f.leaves
      | inr e ↦ absurd (none-some f.side (sym none ∙ e))
    ],
  )

  fitting_two : (o : Option Symbol) (y : Symbol) → IsOther
      (record { symbol = x; sensitive = false }) o → o ≡ Some y → (t : ℕ) →
      (LeavesBy m state (Some x) t ⊎ LeavesBy m state (Some y) t) ↔ FitsFrom m x state t
  fitting_two o y is some t = (
    λ k. elim k [
      | inl l ↦ record { side = x; fit = fits_itself x; leaves = l }
      | inr l ↦ record { side = y; fit = is.fits y some; leaves = l }
    ],
    λ f. elim (is.only f.side f.fit) [
      | inl e ↦ inl (left_as m state t (Some f.side) (Some x) (ap Some e) f.leaves)
      | inr e ↦ inr (left_as m state t (Some f.side) (Some y) (sym e ∙ some) f.leaves)
    ],
  )

  pub adds_one_side : (o : Option Symbol) (xs ys : List ℕ) →
      IsOther (record { symbol = x; sensitive = false }) o → o ≡ None →
      AddsWhere (LeavesBy m state (Some x)) xs ys → AddsWhere (FitsFrom m x state) xs ys
  adds_one_side o xs ys is none h = adds_as (LeavesBy m state (Some x)) (FitsFrom m x state) xs ys
      (fitting_one o is none) h

  pub adds_two_sides : (o : Option Symbol) (y : Symbol) (xs ys zs : List ℕ) →
      IsOther (record { symbol = x; sensitive = false }) o → o ≡ Some y →
      AddsWhere (LeavesBy m state (Some x)) xs ys → AddsWhere (LeavesBy m state (Some y)) ys zs →
      AddsWhere (FitsFrom m x state) xs zs
  adds_two_sides o y xs ys zs is some a b = adds_both (LeavesBy m state (Some x))
      (LeavesBy m state (Some y)) (FitsFrom m x state) xs ys zs (fitting_two o y is some) a b

-- ---- from the states of a set

pub record FitsAt (m : Machine) (set : List ℕ) (symbol : Symbol) (k target : ℕ) : Type 0 where
  pub state : ℕ
  pub state_at : slice_get set k ≡ Some state
  pub fits : FitsFrom m symbol state target

pub fits_as : (m : Machine) (set : List ℕ) (symbol : Symbol) (k state : ℕ) →
    slice_get set k ≡ Some state → (t : ℕ) → FitsFrom m symbol state t ↔ FitsAt m set symbol k t
fits_as m set symbol k state at t = (
  λ h. record { state = state; state_at = at; fits = h },
  λ h. subst (λ (z : ℕ). FitsFrom m symbol z t) (same_Some h.state state (sym h.state_at ∙ at))
      h.fits,
)

pub fits_all : (m : Machine) (set : List ℕ) (symbol : Symbol) (n : ℕ) (old new : List ℕ) →
    old ≡ [] → length set ≤ n → AddsWhere (AtBelow (FitsAt m set symbol) n) old new → (t : ℕ) →
    IsIn t new ↔ FitsTo m set symbol t
fits_all m set symbol n old new none long h t = (
  λ i. let a : AtBelow (FitsAt m set symbol) n t = (adds_all (AtBelow (FitsAt m set symbol) n) old
      new none h t).0 i in
      record {
        state = a.holds.state;
        listed = in_from_place set a.number a.holds.state
            a.holds.state_at;
        fits = a.holds.fits;
      },
  λ k. let q : IsPlaced k.state set = placed_in k.state set k.listed in
      let lt : q.place < length set = slice_get_within set q.place k.state q.at in
      (adds_all (AtBelow (FitsAt m set symbol) n) old new none h t).1
      (record {
        number = q.place;
        below = omega (arith, lt, long);
        holds =
            record { state = k.state; state_at = q.at; fits = k.fits };
      }),
)
