-- Where an input leads nowhere from a state.
use Rattle.std.proofs.Common.{◌≡◌, inl, inr, ℕ, ◌<◌, ◌≤◌, List, refl, sym, ◌∙◌, ap, subst, arith, Option, Some, None, slice_get, length}
use Rattle.std.proofs.lemmas.Bool.{cases_lt}
use Rattle.ap_fst.specs.Lists.{Ascends}
use Rattle.ap_fst.specs.Machines.{IsSpan}
use Rattle.ap_fst.specs.Order.{edge_cmp}
use Rattle.ap_fst.specs.declared.label.Edge.{Edge}
use Rattle.ap_live.specs.Fitting.{Input}
use Rattle.ap_live.specs.Outlines.{IsCut, IsOutline, Rises, side_code}
use Rattle.ap_live.specs.Spreads.{IsOther, Picked}
use Rattle.ap_live.specs.declared.outline.Entry.{Entry}
use Rattle.ap_live.specs.declared.outline.Outline.{Outline}
use Rattle.ap_live.proofs.Others.{passes_as, side_is}
use Rattle.ap_live.proofs.Outlining.{some_at, span_rises}

-- an entry of a state's edge, at its place
record IsAt (o : Outline) (first last code j : ℕ) : Type 0 where
  entry : Entry
  at : slice_get o.entries.items j ≡ Some entry
  left_is : entry.left ≡ code
  low : first ≤ j
  high : j < last

module _ (edges : List Edge) (o : Outline) (from first last : ℕ) (is : IsOutline edges o)
    (ascend : Ascends edge_cmp edges) (span : IsSpan edges from first last)
    (within : last ≤ length o.entries.items) where
  -- An edge of the state has its entry there.
  entry_of : (pick : Option Input) (s j code : ℕ) (p : Picked edges pick from s j) →
      side_code p.edge.label.left ≡ code → IsAt o first last code j
  entry_of pick s j code p same =
      let inside : (first ≤ j) × (j < last) = span.outside j p.edge p.at (sym p.from_is) in
      let high : j < last = inside.1 in
      let (x, at) = some_at o.entries.items j (omega arith) in
      record {
        entry = x;
        at = at;
        left_is = (is.entries j p.edge x p.at at).left_is ∙ same;
        low = inside.0;
        high = inside.1;
      }

  -- Behind an entry that has another code, and no smaller one, none has the code.
  none_behind : (pick : Option Input) (place code : ℕ) → first ≤ place →
      (place < last → (x : Entry) → slice_get o.entries.items place ≡ Some x → code ≤ x.left) →
      (place < last → (x : Entry) → slice_get o.entries.items place ≡ Some x → x.left ≡ code → ⊥)
      → (s j : ℕ) (p : Picked edges pick from s j) → side_code p.edge.label.left ≡ code →
      place ≤ j → ⊥
  none_behind pick place code low most other s j p same le =
      let t : IsAt o first last code j = entry_of pick s j code p same in
      let high : j < last = t.high in
      let lt : place < last = omega arith in
      let (x, at) = some_at o.entries.items place (omega arith) in
      let up : x.left ≤ t.entry.left =
      span_rises edges o from first last is ascend span place j x t.entry at t.at low le t.high in
      let least : code ≤ x.left = most lt x at in
      let there : t.entry.left ≡ code = t.left_is in
      other lt x at (omega arith)

  -- Before the first entry with no smaller code, none has the code.
  none_before : (pick : Option Input) (place code : ℕ) → IsCut o.entries.items first last code place
      → (s j : ℕ) (p : Picked edges pick from s j) → side_code p.edge.label.left ≡ code →
      j < place → ⊥
  none_before pick place code cut s j p same lt =
      let t : IsAt o first last code j = entry_of pick s j code p same in
      let less : t.entry.left < code = cut.before j t.entry t.at t.low lt in
      let there : t.entry.left ≡ code = t.left_is in
      omega arith

  pub cut_there : (code low : ℕ) (entries : List Entry) → entries ≡ o.entries.items →
      (Rises entries first last → IsCut entries first last code low) →
      IsCut o.entries.items first last code low
  cut_there code low entries e cut =
      let up : Rises entries first last = subst (λ (z : List Entry). Rises z first last) (sym e)
      (span_rises edges o from first last is ascend span) in
      subst (λ (z : List Entry). IsCut z first last code low) e (cut up)

  module _ (input : Input) (code place : ℕ) (other : IsOther input None)
      (code_is : code ≡ side_code (Some input.symbol))
      (cut : IsCut o.entries.items first last code place) where
    -- what is picked has the input's code
    code_here : (s j : ℕ) (p : Picked edges (Some input) from s j) →
        side_code p.edge.label.left ≡ code
    code_here s j p = elim (side_is input None p.edge.label.left other
        (passes_as (Some input) input p.edge refl p.passes)) [
          | inl e ↦ ap side_code e ∙ sym code_is
          | inr (x, e, f) ↦ absurd (cc)
        ]

    pub nowhere : (place < last → (x : Entry) → slice_get o.entries.items place ≡ Some x →
        x.left ≡ code → ⊥) → (s j : ℕ) → Picked edges (Some input) from s j → ⊥
    nowhere not s j p = let same : side_code p.edge.label.left ≡ code = code_here s j p in
        elim (cases_lt j place) [
          | inl lt ↦ none_before (Some input) place code cut s j p same lt
          | inr le ↦ none_behind (Some input) place code cut.from
              (λ lt x at. cut.behind place x at (omega arith) lt) not s j p same le
        ]
