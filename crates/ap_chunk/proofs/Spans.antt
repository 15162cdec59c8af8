-- The items that are seen together are the most that may be.
use Rattle.std.proofs.Common.{◌≡◌, ℕ, zero, suc, ◌≤◌, Bool, true, false, ◌&&◌, ◌||◌, cond, List, [], ◌∷◌, ◌++◌, length, take, append_assoc, append-nil, refl, sym, ap, ◌∙◌, subst, arith, inl, inr}
use Rattle.std.specs.List.{list_any}
use Rattle.std.proofs.lemmas.Bool.{false≢true, and_parts, and_from, or_cases, or_left, or_right}
use Rattle.ap_stream.specs.declared.item.Read.{Read}
use Rattle.ap_rules.specs.declared.rules.Rules.{Rules}
use Rattle.ap_chunk.specs.Choice.{opens}
use Rattle.ap_chunk.specs.Live.{goes_on}
use Rattle.ap_chunk.specs.Parts.{Part, unit, gap, wall, parts_of, some_opens, some_longer, together}
use Rattle.ap_chunk.specs.Patterns.{patterns_of}
use Rattle.ap_chunk.specs.Spans.{units_among, IsRow, ends_in_gap, FitBeginning, AreTogether, IsGreatestSpan, SpanIsGreatest}
use Rattle.ap_chunk.specs.Stages.{span}

-- what passes one test passes the other
any_more : (test other : List ℕ → Bool) (ps : List (List ℕ)) →
    ((p : List ℕ) → test p ≡ true → other p ≡ true) → list_any test ps ≡ true →
    list_any other ps ≡ true
any_more test other [] f h = absurd (false≢true h)
any_more test other (p ∷ ps) f h = elim (or_cases (test p) (list_any test ps) h) [
  | inl e ↦ or_left (other p) (list_any other ps) (f p e)
  | inr e ↦ or_right (other p) (list_any other ps) (any_more test other ps f e)
]

no_units : (cs : List ℕ) → opens cs [] ≡ true
no_units [] = refl
no_units (c ∷ cs) = refl

-- what fits the beginning of a pattern, as far as a unit
opens_front : (p : List ℕ) (us : List (ℕ → Bool)) (u : ℕ → Bool) (more : List (ℕ → Bool)) →
    opens p (us ++ u ∷ more) ≡ true → opens p (us ++ u ∷ []) ≡ true
opens_front [] [] u more h = absurd (false≢true h)
opens_front (c ∷ cs) [] u more h = and_from (u c) (opens cs [])
    (and_parts (u c) (opens cs more) h).0 (no_units cs)
opens_front [] (v ∷ us) u more h = absurd (false≢true h)
opens_front (c ∷ cs) (v ∷ us) u more h =
    let both = and_parts (v c) (opens cs (us ++ u ∷ more)) h in
    and_from (v c) (opens cs (us ++ u ∷ [])) both.0 (opens_front cs us u more both.1)

-- and before it
opens_longer : (p : List ℕ) (us : List (ℕ → Bool)) (u : ℕ → Bool) (more : List (ℕ → Bool)) →
    opens p (us ++ u ∷ more) ≡ true → goes_on p us ≡ true
opens_longer [] [] u more h = absurd (false≢true h)
opens_longer (c ∷ cs) [] u more h = refl
opens_longer [] (v ∷ us) u more h = absurd (false≢true h)
opens_longer (c ∷ cs) (v ∷ us) u more h =
    let both = and_parts (v c) (opens cs (us ++ u ∷ more)) h in
    and_from (v c) (goes_on cs us) both.0 (opens_longer cs us u more both.1)

goes_opens : (p : List ℕ) (us : List (ℕ → Bool)) → goes_on p us ≡ true → opens p us ≡ true
goes_opens [] us h = absurd (false≢true h)
goes_opens (c ∷ cs) [] h = refl
goes_opens (c ∷ cs) (u ∷ us) h = let both = and_parts (u c) (goes_on cs us) h in
    and_from (u c) (opens cs us) both.0 (goes_opens cs us both.1)

-- in either case
either_opens : (patterns : List (List ℕ)) (us : List (ℕ → Bool)) (b : Bool) →
    cond b (some_longer patterns us) (some_opens patterns us) ≡ true →
    some_opens patterns us ≡ true
either_opens patterns us true h =
    any_more (λ p. goes_on p us) (λ p. opens p us) patterns (λ p e. goes_opens p us e) h
either_opens patterns us false h = h

open_one : (patterns : List (List ℕ)) (us : List (ℕ → Bool)) (u : ℕ → Bool)
    (more : List (ℕ → Bool)) → some_opens patterns (us ++ u ∷ more) ≡ true →
    some_opens patterns (us ++ u ∷ []) ≡ true
open_one patterns us u more h =
    any_more (λ p. opens p (us ++ u ∷ more)) (λ p. opens p (us ++ u ∷ [])) patterns
    (λ p e. opens_front p us u more e) h

longer_one : (patterns : List (List ℕ)) (us : List (ℕ → Bool)) (u : ℕ → Bool)
    (more : List (ℕ → Bool)) → some_opens patterns (us ++ u ∷ more) ≡ true →
    some_longer patterns us ≡ true
longer_one patterns us u more h =
    any_more (λ p. opens p (us ++ u ∷ more)) (λ p. goes_on p us) patterns
    (λ p e. opens_longer p us u more e) h

-- behind a unit
abbrev FitWith : List (List ℕ) → List Part → List (ℕ → Bool) → Type 0
FitWith patterns parts us =
    cond (ends_in_gap false parts) (some_longer patterns us) (some_opens patterns us) ≡ true

past_unit : (patterns : List (List ℕ)) (us : List (ℕ → Bool)) (u : ℕ → Bool) (xs : List Part) →
    FitBeginning patterns us (unit u ∷ xs) → FitBeginning patterns (us ++ u ∷ []) xs
past_unit patterns us u [] h = tt
past_unit patterns us u (x ∷ xs) h =
    subst (FitWith patterns (x ∷ xs)) (sym (append_assoc us (u ∷ []) (units_among (x ∷ xs)))) h

with_unit : (patterns : List (List ℕ)) (us : List (ℕ → Bool)) (u : ℕ → Bool) (xs : List Part) →
    some_opens patterns (us ++ u ∷ []) ≡ true → FitBeginning patterns (us ++ u ∷ []) xs →
    FitBeginning patterns us (unit u ∷ xs)
with_unit patterns us u [] e h = e
with_unit patterns us u (x ∷ xs) e h =
    subst (FitWith patterns (x ∷ xs)) (append_assoc us (u ∷ []) (units_among (x ∷ xs))) h

-- behind a blank
past_gap : (patterns : List (List ℕ)) (us : List (ℕ → Bool)) (xs : List Part) →
    FitBeginning patterns us (gap ∷ xs) → FitBeginning patterns us xs
past_gap patterns us [] h = tt
past_gap patterns us (unit u ∷ xs) h = h
past_gap patterns us (gap ∷ xs) h = h
past_gap patterns us (wall ∷ xs) h = h

with_gap : (patterns : List (List ℕ)) (us : List (ℕ → Bool)) (xs : List Part) →
    some_longer patterns us ≡ true → FitBeginning patterns us xs →
    FitBeginning patterns us (gap ∷ xs)
with_gap patterns us [] e h = ap (some_longer patterns) (append-nil us) ∙ e
with_gap patterns us (unit u ∷ xs) e h = h
with_gap patterns us (gap ∷ xs) e h = h
with_gap patterns us (wall ∷ xs) e h = h

longer_first : (patterns : List (List ℕ)) (us : List (ℕ → Bool)) (xs : List Part) →
    IsRow false xs → FitBeginning patterns us (gap ∷ xs) → some_longer patterns us ≡ true
longer_first patterns us [] row h = ap (some_longer patterns) (sym (append-nil us)) ∙ h
longer_first patterns us (unit u ∷ xs) row h =
    longer_one patterns us u (units_among xs)
    (either_opens patterns (us ++ u ∷ units_among xs) (ends_in_gap false xs) h)
longer_first patterns us (gap ∷ xs) row h = absurd row
longer_first patterns us (wall ∷ xs) row h = absurd row

-- those that are seen together are together
reached : (patterns : List (List ℕ)) (us : List (ℕ → Bool)) (after : Bool) (parts : List Part) →
    IsRow after (take (together patterns us after parts) parts)
    × FitBeginning patterns us (take (together patterns us after parts) parts)
reached patterns us after [] = (tt, tt)
reached patterns us after (unit u ∷ parts) =
    by (some_opens patterns (us ++ u ∷ [])) refl (reached patterns (us ++ u ∷ []) true parts)
  where
    n : ℕ
    n = together patterns (us ++ u ∷ []) true parts

    by : (b : Bool) → some_opens patterns (us ++ u ∷ []) ≡ b →
        (IsRow true (take n parts) × FitBeginning patterns (us ++ u ∷ []) (take n parts)) →
        IsRow after (take (cond b (suc n) 0) (unit u ∷ parts))
        × FitBeginning patterns us (take (cond b (suc n) 0) (unit u ∷ parts))
    by true e r = (r.0, with_unit patterns us u (take n parts) e r.1)
    by false e r = (tt, tt)
reached patterns us true (gap ∷ parts) =
    by (some_longer patterns us) refl (reached patterns us false parts)
  where
    n : ℕ
    n = together patterns us false parts

    by : (b : Bool) → some_longer patterns us ≡ b →
        (IsRow false (take n parts) × FitBeginning patterns us (take n parts)) →
        IsRow true (take (cond b (suc n) 0) (gap ∷ parts))
        × FitBeginning patterns us (take (cond b (suc n) 0) (gap ∷ parts))
    by true e r = (r.0, with_gap patterns us (take n parts) e r.1)
    by false e r = (tt, tt)
reached patterns us false (gap ∷ parts) = (tt, tt)
reached patterns us true (wall ∷ parts) = (tt, tt)
reached patterns us false (wall ∷ parts) = (tt, tt)

-- and there are so many
within : (patterns : List (List ℕ)) (us : List (ℕ → Bool)) (after : Bool) (parts : List Part) →
    together patterns us after parts ≤ length parts
within patterns us after [] = omega arith
within patterns us after (unit u ∷ parts) =
    by (some_opens patterns (us ++ u ∷ [])) (within patterns (us ++ u ∷ []) true parts)
  where
    by : (b : Bool) → together patterns (us ++ u ∷ []) true parts ≤ length parts →
        cond b (suc (together patterns (us ++ u ∷ []) true parts)) 0 ≤ suc (length parts)
    by true h = omega (arith, h)
    by false h = omega arith
within patterns us true (gap ∷ parts) =
    by (some_longer patterns us) (within patterns us false parts)
  where
    by : (b : Bool) → together patterns us false parts ≤ length parts →
        cond b (suc (together patterns us false parts)) 0 ≤ suc (length parts)
    by true h = omega (arith, h)
    by false h = omega arith
within patterns us false (gap ∷ parts) = omega arith
within patterns us true (wall ∷ parts) = omega arith
within patterns us false (wall ∷ parts) = omega arith

-- no more are together
greatest : (patterns : List (List ℕ)) (us : List (ℕ → Bool)) (after : Bool) (parts : List Part)
    (m : ℕ) → m ≤ length parts → IsRow after (take m parts) →
    FitBeginning patterns us (take m parts) → m ≤ together patterns us after parts
greatest patterns us after parts zero le row fit = omega arith
greatest patterns us after [] (suc m) le row fit = absurd (omega (arith, le))
greatest patterns us after (unit u ∷ parts) (suc m) le row fit =
    let xs = take m parts in
    let opened = open_one patterns us u (units_among xs)
    (either_opens patterns (us ++ u ∷ units_among xs) (ends_in_gap false xs) fit) in
    let rest = greatest patterns (us ++ u ∷ []) true parts m (omega (arith, le)) row
    (past_unit patterns us u xs fit) in
    subst (λ (b : Bool). suc m ≤ cond b (suc (together patterns (us ++ u ∷ []) true parts)) 0)
    (sym opened) (omega (arith, rest))
greatest patterns us true (gap ∷ parts) (suc m) le row fit =
    let xs = take m parts in
    let rest = greatest patterns us false parts m (omega (arith, le)) row
    (past_gap patterns us xs fit) in
    subst (λ (b : Bool). suc m ≤ cond b (suc (together patterns us false parts)) 0)
    (sym (longer_first patterns us xs row fit)) (omega (arith, rest))
greatest patterns us false (gap ∷ parts) (suc m) le row fit = absurd row
greatest patterns us true (wall ∷ parts) (suc m) le row fit = absurd row
greatest patterns us false (wall ∷ parts) (suc m) le row fit = absurd row

pub span_is_greatest : SpanIsGreatest
unfolding span
span_is_greatest rules reads =
    let patterns = patterns_of rules in
    let parts = parts_of rules reads in
    let r = reached patterns [] false parts in
    record {
      within = within patterns [] false parts;
      reached = record { row = r.0; fit = r.1 };
      greatest = λ m le t. greatest patterns [] false parts m le t.row t.fit;
    }
