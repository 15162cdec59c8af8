-- Ways that are followed along rows, and what they write.
use Rattle.std.proofs.Common.{◌≡◌, inl, inr, ℕ, ◌+◌, ◌-◌, ◌<◌, ◌≤◌, List, [], ◌∷◌, ◌++◌, drop, length, take, refl, sym, ◌∙◌, ap, subst, arith, Option, Some, None, slice_get, true, suc, drop-cons, get_or}
use Rattle.std.proofs.lemmas.List.{take_more}
use Rattle.std.proofs.lemmas.Option.{slice_get_within}
use Rattle.std.proofs.Math.Seq.{take-length}
use Rattle.ap_symbol.specs.declared.symbol.Symbol.{Symbol}
use Rattle.ap_fst.specs.Lists.{IsIn}
use Rattle.ap_fst.specs.Machines.{Machine}
use Rattle.ap_fst.specs.declared.label.Edge.{Edge}
use Rattle.ap_live.specs.Fitting.{Input, is_empty_side}
use Rattle.ap_live.specs.Outlines.{IsOutline}
use Rattle.ap_live.specs.Outputs.{IsOutput}
use Rattle.ap_live.specs.Rows.{AreRows, EntersTaking, IsRow}
use Rattle.ap_live.specs.SomeWays.{AreSomeOutputs}
use Rattle.ap_live.specs.Spreads.{Picked, arrival}
use Rattle.ap_live.specs.Trails.{Way}
use Rattle.ap_live.specs.Trails as trails
use Rattle.ap_live.specs.declared.outline.Outline.{Outline}
use Rattle.ap_live.specs.declared.rows.Row.{Row}
use Rattle.ap_live.proofs.RowLaws.{snoc_parts}
use Rattle.ap_live.proofs.Spreading.{in_either}

abbrev first_of : Option (ℕ × ℕ) → ℕ → ℕ
first_of None d = d
first_of (Some (a, b)) d = a

abbrev second_of : Option (ℕ × ℕ) → ℕ → ℕ
second_of None d = d
second_of (Some (a, b)) d = b

pub same_pair : (pair : Option (ℕ × ℕ)) (a b c d : ℕ) → pair ≡ Some (a, b) → pair ≡ Some (c, d) →
    (a ≡ c) × (b ≡ d)
same_pair pair a b c d e f = (
  ap (λ o. first_of o 0) (sym e ∙ f),
  ap (λ o. second_of o 0) (sym e ∙ f),
)

-- the last places, and one before them
pub one_before : (places : List ℕ) (at : ℕ) → 0 < at → at ≤ length places →
    get_or places (at - 1) 0 ∷ drop at places ≡ drop (at - 1) places
one_before places at some within =
    let next : suc (at - 1) ≡ at = omega arith in
    sym (drop-cons places (at - 1) 0 (omega arith)
    ∙ ap (λ (k : ℕ). get_or places (at - 1) 0 ∷ drop k places) next)

-- on by an edge that reads nothing
pub on_silently : (edges : List Edge) (seen : List Input) (s place : ℕ) (e : Edge)
    (places : List ℕ) → slice_get edges place ≡ Some e → e.from ≡ s →
    is_empty_side e.label.left ≡ true → Way edges seen s places →
    Way edges seen e.to (place ∷ places)
on_silently edges seen s place e places at from empty way =
    trails.silent s place places
    (record { edge = e; at = at; from_is = sym from; to_is = refl; passes = empty }) refl way

-- the first of two lists of which one goes on by one more
front_of : {X : Type 0} (xs before : List X) (x : X) (k : ℕ) → k < length xs →
    take (k + 1) xs ≡ before ++ x ∷ [] → before ≡ take k xs
front_of xs before x k lt e =
    (snoc_parts before (take k xs) x (get_or xs k x) (sym e ∙ take_more xs k x lt)).0

-- on by an edge that the next row has among those that took an input
pub on_taking : (edges : List Edge) (seen : List Input) (rows : List Row) (row : Row)
    (k s place : ℕ) (e : Edge) (places : List ℕ) → AreRows edges seen rows →
    slice_get rows (k + 1) ≡ Some row → slice_get edges place ≡ Some e → e.from ≡ s →
    IsIn (arrival e.to place) row.taken.items → Way edges (take k seen) s places →
    Way edges (take (k + 1) seen) e.to (place ∷ places)
on_taking edges seen rows row k s place e places are at there from link way =
    let is : IsRow edges (take (k + 1) seen) row = are.each (k + 1) row at in
    let enters : EntersTaking edges (take (k + 1) seen) e.to place =
    is.taken_sound (arrival e.to place) link in
    let p : Picked edges (Some enters.input) enters.from e.to place = enters.picked in
    let both : Some p.edge ≡ Some e = sym p.at ∙ there in
    let same : p.edge ≡ e = cc in
    let begins : enters.from ≡ s = p.from_is ∙ ap (λ (z : Edge). z.from) same ∙ from in
    let within : k + 1 < length rows = slice_get_within rows (k + 1) row at in
    let count : length rows ≡ length seen + 1 = are.count in
    let front : enters.before ≡ take k seen =
    front_of seen enters.before enters.input k (omega arith) enters.whole in
    trails.taken enters.before enters.input s place places
    (subst (λ (z : ℕ). Picked edges (Some enters.input) z e.to place) begins p) enters.whole refl
    (subst (λ (z : List Input). Way edges z s places) (sym front) way)

-- at the last row
pub at_last : (m : Machine) (seen : List Input) (rows : List Row) (row state : ℕ)
    (places : List ℕ) → AreRows m.edges seen rows → row ≡ length rows - 1 →
    Way m.edges (take row seen) state places → Way m.edges seen state places
at_last m seen rows row state places are last way =
    let count : length rows ≡ length seen + 1 = are.count in
    let same : take row seen ≡ seen =
    ap (λ (i : ℕ). take i seen) (let e : row ≡ length seen = omega arith in e) ∙ take-length seen in
    subst (λ (z : List Input). Way m.edges z state places) same way

-- a word more
pub some_more : (m : Machine) (outline : Outline) (rows : List Row)
    (old new : List (List Symbol)) (word : List Symbol) → new ≡ old ++ word ∷ [] →
    AreSomeOutputs m outline rows old →
    (IsOutline m.edges outline → (seen : List Input) → AreRows m.edges seen rows →
    IsOutput m seen word) → AreSomeOutputs m outline rows new
some_more m outline rows old new word e some one = λ outlined seen are w i.
    elim (in_either w old (word ∷ []) (subst (λ (z : List (List Symbol)). IsIn w z) e i)) [
      | inl k ↦ some outlined seen are w k
      | inr k ↦ elim k [
        | inl q ↦ subst (λ (z : List Symbol). IsOutput m seen z) (sym q) (one outlined seen are)
        | inr n ↦ elim n [ ]
      ]
    ]
