-- The symbols that fit an input.
use Rattle.std.proofs.Common.{◌≡◌, ◌⊎◌, inl, inr, ℕ, Bool, true, false, List, refl, sym, ◌∙◌, ap, subst, Option, Some, None, arith}
use Rattle.std.specs.Char.{is_ascii_lowercase}
use Rattle.std.proofs.lemmas.Option.{none-some, same_Some}
use Rattle.ap_symbol.specs.Case.{lower_lem}
use Rattle.ap_symbol.specs.Fitting.{fits_lem}
use Rattle.ap_symbol.proofs.CaseLaws.{lower_stays}
use Rattle.std.proofs.lemmas.Bool.Decides.{nat_tests}
use Rattle.ap_symbol.specs.declared.symbol.Symbol.{Symbol}
use Rattle.ap_symbol.specs.declared.symbol.Symbol.TheVariants.{Letter}
use Rattle.ap_symbol.proofs.FittingSymbols.{fits_is}
use Rattle.ap_fst.specs.declared.label.Edge.{Edge}
use Rattle.ap_live.specs.Fitting.{Input, picks, fits_side, is_empty_side}
use Rattle.ap_live.specs.Spreads.{Picked, IsOther, HasLeft}

abbrev input_of : Symbol → Bool → Input
input_of x s = record { symbol = x; sensitive = s }

letter_same : (c d : ℕ) → Letter c ≡ Letter d → c ≡ d
letter_same c d e = cc

pub other_lower : (c small : ℕ) → small ≡ lower_lem c →
    IsOther (input_of (Letter c) false) (Some (Letter small))
other_lower c small is = record {
  fits = λ y e.
      let q : Letter small ≡ y = same_Some (Letter small) y e in
      (fits_is false y (Letter c)).1 (inr (refl, (c, (refl, sym q ∙ ap Letter is))));
  only = λ y h. elim ((fits_is false y (Letter c)).0 h) [
    | inl e ↦ inl e
    | inr (q, (d, (i, l))) ↦
        let same : c ≡ d = letter_same c d i in
        inr (ap (λ (z : Symbol). Some z) (ap Letter (is ∙ ap lower_lem same) ∙ sym l))
  ];
}

pub other_same : (c small : ℕ) → small ≡ lower_lem c → small ≡ c →
    IsOther (input_of (Letter c) false) None
other_same c small is e = record {
  fits = λ y f. absurd (none-some y f);
  only = λ y h. elim ((fits_is false y (Letter c)).0 h) [
    | inl f ↦ inl f
    | inr (q, (d, (i, l))) ↦
        let same : c ≡ d = letter_same c d i in
        let low : lower_lem c ≡ c = sym is ∙ e in
        inl (l ∙ ap Letter (ap lower_lem (sym same) ∙ low))
  ];
}

small_stays : (c : ℕ) → is_ascii_lowercase c ≡ true → lower_lem c ≡ c
small_stays c h = lower_stays c (grind (arith, nat_tests))

-- Beside a small letter of ASCII no other fits.
pub other_small : (c : ℕ) (small : Bool) → small ≡ true → small ≡ is_ascii_lowercase c →
    IsOther (input_of (Letter c) false) None
other_small c small t is = other_same c (lower_lem c) refl (small_stays c (sym is ∙ t))

-- the edges that are picked, by their left sides

pub side_is : (input : Input) (other left : Option Symbol) → IsOther input other →
    fits_side input left ≡ true → (left ≡ Some input.symbol)
    ⊎ ((x : Symbol) × (left ≡ Some x) × (other ≡ Some x))
side_is input other None is h = cc
side_is input other (Some x) is h =
    elim (is.only x h) [ inl e ↦ inl (ap (λ (z : Symbol). Some z) e) | inr e ↦ inr (x, refl, e) ]

pub place_has : (edges : List Edge) (pick : Option Input) (from s j : ℕ) (left : Option Symbol)
    (p : Picked edges pick from s j) → p.edge.label.left ≡ left → HasLeft edges left j
place_has edges pick from s j left p h e at =
    let same : p.edge ≡ e = same_Some p.edge e (sym p.at ∙ at) in
    subst (λ (z : Edge). z.label.left ≡ left) same h

pub passes_as : (pick : Option Input) (input : Input) (e : Edge) → pick ≡ Some input →
    picks pick e ≡ true → fits_side input e.label.left ≡ true
passes_as pick input e is h = ap (λ (z : Option Input). picks z e) (sym is) ∙ h

pub picked_by : (input : Input) (x : Symbol) → fits_lem input.sensitive x input.symbol ≡ true →
    (e : Edge) → e.label.left ≡ Some x → picks (Some input) e ≡ true
picked_by input x fits e left = ap (fits_side input) left ∙ fits

pub two_sides : (edges : List Edge) (pick : Option Input) (input : Input) (x y : Symbol)
    (other : Option Symbol) → pick ≡ Some input → input.symbol ≡ x → other ≡ Some y →
    IsOther input other
    → (from s j : ℕ) → Picked edges pick from s j → HasLeft edges (Some x) j
    ⊎ HasLeft edges (Some y) j
two_sides edges pick input x y other is same there o from s j p =
    elim (side_is input other p.edge.label.left o (passes_as pick input p.edge is p.passes)) [
      | inl e ↦ inl (place_has edges pick from s j (Some x) p
          (e ∙ ap (λ (z : Symbol). Some z) same))
      | inr (z, e, f) ↦ inr (place_has edges pick from s j (Some y) p (e ∙ sym f ∙ there))
    ]

pub one_side : (edges : List Edge) (pick : Option Input) (input : Input) (x : Symbol)
    (other : Option Symbol) → pick ≡ Some input → input.symbol ≡ x → other ≡ None →
    IsOther input other
    → (from s j : ℕ) → Picked edges pick from s j → HasLeft edges (Some x) j
one_side edges pick input x other is same there o from s j p =
    elim (side_is input other p.edge.label.left o (passes_as pick input p.edge is p.passes)) [
      | inl e ↦ place_has edges pick from s j (Some x) p (e ∙ ap (λ (z : Symbol). Some z) same)
      | inr (z, e, f) ↦ absurd (none-some z (sym there ∙ f))
    ]

-- an empty side
pub side_none : (o : Option Symbol) → is_empty_side o ≡ true → o ≡ None
side_none None e = refl
side_none (Some x) e = cc
