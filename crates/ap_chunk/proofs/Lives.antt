-- Going on by one unit.
use Rattle.std.proofs.Common.{◌≡◌, ℕ, zero, suc, ◌+◌, ◌<◌, ◌≤◌, ◌==◌, Bool, true, false, ◌&&◌, ◌||◌, cond, nat_lt, List, [], ◌∷◌, ◌++◌, length, get_or, drop, slice_get, Option, Some, None, Result, Ok, Err, OnOk, IfOk, min, refl, ap, sym, ◌∙◌, arith, inl, inr, subst}
use Rattle.std.specs.List.{filter}
use Rattle.std.proofs.lemmas.Bool.{false≢true, eq-eqb, ne_eqb, cases_order, lt-ltb, le-ltb}
use Rattle.ap_chunk.specs.Patterns.{list_of, list_at, has, begins_with, is_filled}
use Rattle.ap_chunk.specs.Choice.{unit_of}
use Rattle.ap_chunk.specs.Live.{goes_on, ends, of_rule, is_live, is_over, IsLeast, AreLive, met_of, is_on, is_end, stays, finishes, least_from, starts, begun, Standing, Stands}
use Rattle.ap_chunk.specs.declared.keeping.Met.{Met}
use Rattle.ap_chunk.specs.declared.keeping.Met.TheVariants as met
use Rattle.ap_chunk.proofs.Truths.{or_false, or_and, and_assoc, has_filter, has_append, least_same, least_of}

on_at : (b : Bool) (cs : List ℕ) →
    (b && goes_on cs []) ≡ is_on (cond b (cond (is_filled cs) met.GoesOn met.Ends) met.Fails)
on_at true [] = refl
on_at true (d ∷ cs) = refl
on_at false cs = refl

end_at : (b : Bool) (cs : List ℕ) →
    (b && ends cs []) ≡ is_end (cond b (cond (is_filled cs) met.GoesOn met.Ends) met.Fails)
end_at true [] = refl
end_at true (d ∷ cs) = refl
end_at false cs = refl

on_more : (p : List ℕ) (units : List (ℕ → Bool)) (u : ℕ → Bool) → goes_on p (units ++ u ∷ [])
    ≡ (goes_on p units && is_on (met_of u (drop (length units) p)))
on_more [] units u = refl
on_more (c ∷ cs) [] u = on_at (u c) cs
on_more (c ∷ cs) (v ∷ units) u = ap (λ b. v c && b) (on_more cs units u)
    ∙ and_assoc (v c) (goes_on cs units) (is_on (met_of u (drop (length units) cs)))

end_more : (p : List ℕ) (units : List (ℕ → Bool)) (u : ℕ → Bool) → ends p (units ++ u ∷ [])
    ≡ (goes_on p units && is_end (met_of u (drop (length units) p)))
end_more [] [] u = refl
end_more [] (v ∷ units) u = refl
end_more (c ∷ cs) [] u = end_at (u c) cs
end_more (c ∷ cs) (v ∷ units) u = ap (λ b. v c && b) (end_more cs units u)
    ∙ and_assoc (v c) (goes_on cs units) (is_end (met_of u (drop (length units) cs)))

live_by : (o : Option (List ℕ)) (units : List (ℕ → Bool)) (u : ℕ → Bool) →
    of_rule (λ p. goes_on p (units ++ u ∷ [])) o
    ≡ (of_rule (λ p. goes_on p units) o && is_on (met_of u (drop (length units) (list_of o))))
live_by None units u = refl
live_by (Some p) units u = on_more p units u

over_by : (o : Option (List ℕ)) (units : List (ℕ → Bool)) (u : ℕ → Bool) →
    of_rule (λ p. ends p (units ++ u ∷ [])) o
    ≡ (of_rule (λ p. goes_on p units) o && is_end (met_of u (drop (length units) (list_of o))))
over_by None units u = refl
over_by (Some p) units u = end_more p units u

-- a rule is live with one more unit where it was live and stays so
pub live_more : (patterns : List (List ℕ)) (units : List (ℕ → Bool)) (u : ℕ → Bool) (r : ℕ) →
    is_live patterns (units ++ u ∷ []) r
    ≡ (is_live patterns units r && stays patterns (length units) u r)
live_more patterns units u r = live_by (slice_get patterns r) units u

pub over_more : (patterns : List (List ℕ)) (units : List (ℕ → Bool)) (u : ℕ → Bool) (r : ℕ) →
    is_over patterns (units ++ u ∷ []) r
    ≡ (is_live patterns units r && finishes patterns (length units) u r)
over_more patterns units u r = over_by (slice_get patterns r) units u

-- behind the first unit
pub kept_on : (patterns : List (List ℕ)) (count : ℕ) (u : ℕ → Bool) (live kept room : List ℕ) →
    room ≡ [] → kept ≡ room ++ filter (stays patterns count u) live → (count ≡ 0 → ⊥)
    → (units : List (ℕ → Bool)) → count ≡ length units → AreLive patterns units live →
    AreLive patterns (units ++ u ∷ []) kept
kept_on patterns count u live kept room e k ne units n are = λ some r.
    let was : has live r ≡ is_live patterns units r = are (omega (arith, n, ne)) r in
    ap (λ l. has l r) (k ∙ ap (λ l. l ++ filter (stays patterns count u) live) e)
    ∙ has_filter (stays patterns count u) live r
    ∙ ap (λ b. b && stays patterns count u r) was
    ∙ ap (λ i. is_live patterns units r && stays patterns i u r) n
    ∙ sym (live_more patterns units u r)

pub least_on : (patterns : List (List ℕ)) (count : ℕ) (u : ℕ → Bool) (live : List ℕ)
    (least : Option ℕ) → least ≡ least_from None (filter (finishes patterns count u) live) →
    (count ≡ 0 → ⊥)
    → (units : List (ℕ → Bool)) → count ≡ length units → AreLive patterns units live →
    IsLeast (is_over patterns (units ++ u ∷ [])) least
least_on patterns count u live least k ne units n are =
    let P : Option ℕ → Type 0 = λ o. IsLeast (is_over patterns (units ++ u ∷ [])) o in
    subst P (sym k) (least_same (λ r. false || has (filter (finishes patterns count u) live) r)
    (is_over patterns (units ++ u ∷ []))
    (least_from None (filter (finishes patterns count u) live))
    (λ r. let was : has live r ≡ is_live patterns units r = are (omega (arith, n, ne)) r in
    has_filter (finishes patterns count u) live r ∙ ap (λ b. b && finishes patterns count u r) was
    ∙ ap (λ i. is_live patterns units r && finishes patterns i u r) n
    ∙ sym (over_more patterns units u r))
    (least_of (λ r. false) None (filter (finishes patterns count u) live) (λ r. refl)))

-- one more category
starts_at : (c n : ℕ) (b : Bool) → (c ≡ n → b ≡ true) →
    (nat_lt c (n + 1) && b) ≡ ((nat_lt c n && b) || (c == n))
starts_at c n b h = elim (cases_order c n) [
  | inl k ↦ ap (λ t. t && b) (lt-ltb c (n + 1) (omega (arith, k))) ∙ h k
      ∙ sym (ap (λ t. (nat_lt c n && b) || t) (eq-eqb c n k) ∙ or_true (nat_lt c n && b))
  | inr k ↦ elim k [
    | inl a ↦ ap (λ t. t && b) (lt-ltb c (n + 1) (omega (arith, a)))
        ∙ sym (ap (λ t. (t && b) || (c == n)) (lt-ltb c n a)
        ∙ ap (λ t. b || t) (ne_eqb c n (λ e. omega (arith, a, e))) ∙ or_false b)
    | inr a ↦ ap (λ t. t && b) (le-ltb c (n + 1) (omega (arith, a)))
        ∙ sym (ap (λ t. (t && b) || (c == n)) (le-ltb c n (omega (arith, a)))
        ∙ ne_eqb c n (λ e. omega (arith, a, e)))
  ]
]
  where
    or_true : (b : Bool) → (b || true) ≡ true
    or_true true = refl
    or_true false = refl

starts_with : (u : ℕ → Bool) (n : ℕ) (p : List ℕ) → u n ≡ true →
    starts u (n + 1) p ≡ (starts u n p || begins_with n p)
starts_with u n [] h = refl
starts_with u n (c ∷ cs) h = starts_at c n (u c) (λ e. ap u e ∙ h)

and_none : (b : Bool) → (b && false) ≡ false
and_none true = refl
and_none false = refl

starts_without_at : (c n : ℕ) (b : Bool) → (c ≡ n → b ≡ false) →
    (nat_lt c (n + 1) && b) ≡ (nat_lt c n && b)
starts_without_at c n true h = elim (cases_order c n) [
  | inl k ↦ absurd (false≢true (sym (h k)))
  | inr k ↦ elim k [
    | inl a ↦ ap (λ t. t && true) (lt-ltb c (n + 1) (omega (arith, a)) ∙ sym (lt-ltb c n a))
    | inr a ↦ ap (λ t. t && true) (le-ltb c (n + 1) (omega (arith, a))
        ∙ sym (le-ltb c n (omega (arith, a))))
  ]
]
starts_without_at c n false h = and_none (nat_lt c (n + 1)) ∙ sym (and_none (nat_lt c n))

starts_without : (u : ℕ → Bool) (n : ℕ) (p : List ℕ) → u n ≡ false →
    starts u (n + 1) p ≡ starts u n p
starts_without u n [] h = refl
starts_without u n (c ∷ cs) h = starts_without_at c n (u c) (λ e. ap u e ∙ h)

-- the row of a unit at a place of it
pub unit_at : (row : List Bool) (n : ℕ) (b : Bool) → n < length row → get_or row n false ≡ b →
    unit_of row n ≡ b
unit_at [] n b h e = absurd (omega (arith, h))
unit_at (x ∷ row) zero b h e = e
unit_at (x ∷ row) (suc n) b h e = unit_at row n b (omega (arith, h)) e

-- none is started at first
pub starts_none : (u : ℕ → Bool) (p : List ℕ) → starts u 0 p ≡ false
starts_none u [] = refl
starts_none u (c ∷ cs) = ap (λ t. t && u c) (le-ltb c 0 (omega arith))

pub first_kept : (patterns : List (List ℕ)) (u : ℕ → Bool) (n : ℕ) (rules old new : List ℕ)
    (test : ℕ → Bool) → u n ≡ true → ((r : ℕ) → has rules r ≡ begins_with n (list_at patterns r)) →
    new ≡ old ++ filter test rules
    → ((r : ℕ) → has old r ≡ begun u n patterns test r) → (r : ℕ) →
    has new r ≡ begun u (n + 1) patterns test r
first_kept patterns u n rules old new test h beg e was r =
    ap (λ l. has l r) e ∙ has_append old (filter test rules) r
    ∙ ap (λ b. b || has (filter test rules) r) (was r)
    ∙ ap (λ b. begun u n patterns test r || b) (has_filter test rules r
    ∙ ap (λ b. b && test r) (beg r))
    ∙ or_and (starts u n (list_at patterns r)) (begins_with n (list_at patterns r)) (test r)
    ∙ ap (λ b. b && test r) (sym (starts_with u n (list_at patterns r) h))

pub first_least : (patterns : List (List ℕ)) (u : ℕ → Bool) (n : ℕ) (rules : List ℕ)
    (old new : Option ℕ) (test : ℕ → Bool) → u n ≡ true →
    ((r : ℕ) → has rules r ≡ begins_with n (list_at patterns r)) →
    new ≡ least_from old (filter test rules)
    → IsLeast (begun u n patterns test) old → IsLeast (begun u (n + 1) patterns test) new
first_least patterns u n rules old new test h beg e was =
    let P : Option ℕ → Type 0 = λ o. IsLeast (begun u (n + 1) patterns test) o in
    subst P (sym e) (least_same (λ r. begun u n patterns test r || has (filter test rules) r)
    (begun u (n + 1) patterns test) (least_from old (filter test rules))
    (λ r. ap (λ b. begun u n patterns test r || b)
    (has_filter test rules r ∙ ap (λ b. b && test r) (beg r))
    ∙ or_and (starts u n (list_at patterns r)) (begins_with n (list_at patterns r)) (test r)
    ∙ ap (λ b. b && test r) (sym (starts_with u n (list_at patterns r) h)))
    (least_of (begun u n patterns test) old (filter test rules) was))

pub passed_kept : (patterns : List (List ℕ)) (u : ℕ → Bool) (n : ℕ) (test : ℕ → Bool)
    (old new : List ℕ) → u n ≡ false → new ≡ old → ((r : ℕ) → has old r ≡ begun u n patterns test r)
    → (r : ℕ) → has new r ≡ begun u (n + 1) patterns test r
passed_kept patterns u n test old new h e was r = ap (λ l. has l r) e ∙ was r
    ∙ ap (λ b. b && test r) (sym (starts_without u n (list_at patterns r) h))

pub passed_least : (patterns : List (List ℕ)) (u : ℕ → Bool) (n : ℕ) (test : ℕ → Bool)
    (old new : Option ℕ) → u n ≡ false → new ≡ old → IsLeast (begun u n patterns test) old →
    IsLeast (begun u (n + 1) patterns test) new
passed_least patterns u n test old new h e was =
    let P : Option ℕ → Type 0 = λ o. IsLeast (begun u (n + 1) patterns test) o in
    subst P (sym e) (least_same (begun u n patterns test) (begun u (n + 1) patterns test) old
    (λ r. ap (λ b. b && test r) (sym (starts_without u n (list_at patterns r) h))) was)

-- when all categories of the row are passed
unit_within : (row : List Bool) (c : ℕ) → unit_of row c ≡ true → c < length row
unit_within [] c h = absurd (false≢true h)
unit_within (x ∷ row) zero h = omega arith
unit_within (x ∷ row) (suc c) h = omega (arith, unit_within row c h)

all_by : (row : List Bool) (n : ℕ) (is : Met → Bool) (p : List ℕ) → length row ≤ n →
    is met.Fails ≡ false → (starts (unit_of row) n p && is (met_of (unit_of row) p))
    ≡ is (met_of (unit_of row) p)
all_by row n is [] le f = sym f
all_by row n is (c ∷ cs) le f = at (unit_of row c) refl
  where
    at : (b : Bool) → unit_of row c ≡ b →
        ((nat_lt c n && unit_of row c)
        && is (cond (unit_of row c) (cond (is_filled cs) met.GoesOn met.Ends) met.Fails))
        ≡ is (cond (unit_of row c) (cond (is_filled cs) met.GoesOn met.Ends) met.Fails)
    at true e = ap (λ t. (t && unit_of row c)
        && is (cond (unit_of row c) (cond (is_filled cs) met.GoesOn met.Ends) met.Fails))
        (lt-ltb c n (omega (arith, le, unit_within row c e)))
        ∙ ap (λ t. t && is (cond (unit_of row c) (cond (is_filled cs) met.GoesOn met.Ends)
        met.Fails)) e
    at false e =
        let k : is (cond (unit_of row c) (cond (is_filled cs) met.GoesOn met.Ends) met.Fails)
        ≡ false = ap (λ t. is (cond t (cond (is_filled cs) met.GoesOn met.Ends) met.Fails)) e
        ∙ f in
        ap (λ t. (nat_lt c n && unit_of row c) && t) k
        ∙ and_none (nat_lt c n && unit_of row c) ∙ sym k

first_on : (p : List ℕ) (u : ℕ → Bool) → goes_on p (u ∷ []) ≡ is_on (met_of u p)
first_on [] u = refl
first_on (c ∷ cs) u = on_at (u c) cs

first_end : (p : List ℕ) (u : ℕ → Bool) → ends p (u ∷ []) ≡ is_end (met_of u p)
first_end [] u = refl
first_end (c ∷ cs) u = end_at (u c) cs

live_one : (o : Option (List ℕ)) (u : ℕ → Bool) → of_rule (λ p. goes_on p (u ∷ [])) o
    ≡ is_on (met_of u (list_of o))
live_one None u = refl
live_one (Some p) u = first_on p u

over_one : (o : Option (List ℕ)) (u : ℕ → Bool) → of_rule (λ p. ends p (u ∷ [])) o
    ≡ is_end (met_of u (list_of o))
over_one None u = refl
over_one (Some p) u = first_end p u

pub all_kept : (patterns : List (List ℕ)) (row : List Bool) (n : ℕ) (kept : List ℕ) →
    length row ≤ n → ((r : ℕ) →
    has kept r ≡ begun (unit_of row) n patterns (stays patterns 0 (unit_of row)) r)
    → (r : ℕ) → has kept r ≡ is_live patterns (unit_of row ∷ []) r
all_kept patterns row n kept le h r = h r ∙ all_by row n is_on (list_at patterns r) le refl
    ∙ sym (live_one (slice_get patterns r) (unit_of row))

pub all_least : (patterns : List (List ℕ)) (row : List Bool) (n : ℕ) (least : Option ℕ) →
    length row ≤ n → IsLeast
    (begun (unit_of row) n patterns (finishes patterns 0 (unit_of row))) least
    → IsLeast (is_over patterns (unit_of row ∷ [])) least
all_least patterns row n least le h =
    least_same (begun (unit_of row) n patterns (finishes patterns 0 (unit_of row)))
    (is_over patterns (unit_of row ∷ [])) least
    (λ r. all_by row n is_end (list_at patterns r) le refl
    ∙ sym (over_one (slice_get patterns r) (unit_of row))) h

pub on_ok : {T E : Type 0} (r : Result T E) (P Q : Type 0) → (P → Q) → OnOk r P → OnOk r Q
on_ok (Ok x) P Q f h = f h
on_ok (Err e) P Q f h = h

pub if_ok : {T E : Type 0} (r : Result T E) (P Q : T → Type 0) → ((x : T) → P x → Q x) →
    IfOk r P → IfOk r Q
if_ok (Ok x) P Q f h = f x h
if_ok (Err e) P Q f h = h

more_units : (units : List (ℕ → Bool)) (u : ℕ → Bool) → length (units ++ u ∷ []) ≡ length units + 1
more_units [] u = refl
more_units (v ∷ units) u = let e : length (units ++ u ∷ []) ≡ length units + 1 = more_units units u
    in omega (arith, e)

-- a step as a whole
pub stepped : (s : Standing) (count : ℕ) (live : List ℕ) (over : Option ℕ) (u : ℕ → Bool) →
    count ≡ min (s.count + 1) 18446744073709551615
    → ((units : List (ℕ → Bool)) → s.count ≡ length units → AreLive s.patterns units s.live →
    AreLive s.patterns (units ++ u ∷ []) live)
    → ((units : List (ℕ → Bool)) → s.count ≡ length units → AreLive s.patterns units s.live →
    IsLeast (is_over s.patterns (units ++ u ∷ [])) over)
    → (units : List (ℕ → Bool)) → length units + 1 < 18446744073709551616 → Stands s units →
    Stands (record { patterns = s.patterns; count = count; live = live; over = over })
    (units ++ u ∷ [])
stepped s count live over u e kept least units h stands =
    let n : s.count ≡ length units = stands.counted in
    record {
      counted = omega (arith, e, h, n, more_units units u);
      rules =
          kept units stands.counted stands.rules;
      least = least units stands.counted stands.rules;
    }
