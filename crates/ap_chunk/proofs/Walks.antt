-- A walk over the items at the front: where it begins, one item more, and where it ends.
use Rattle.std.proofs.Common.{◌≡◌, ℕ, zero, suc, ◌+◌, ◌<◌, ◌≤◌, Bool, true, false, List, [], ◌∷◌, ◌++◌, length, drop, Option, Some, None, refl, ap, sym, ◌∙◌, arith, inl, inr, subst, length-append, append_assoc, cond}
use Rattle.std.proofs.Math.Seq.{drop-length}
use Rattle.std.proofs.lemmas.Bool.{false≢true, or_cases, or_left, or_right, and_parts, and_from}
use Rattle.std.proofs.lemmas.List.{append-nil, length-drop}
use Rattle.std.specs.Prelude.{slice_get}
use Rattle.ap_chunk.specs.Choice.{opens, SomeOpens, IsChosen}
use Rattle.ap_chunk.specs.Going.{chosen_of}
use Rattle.ap_chunk.specs.Live.{goes_on, of_rule, is_live, is_over, IsLeast, SomeLive, Standing, Stands}
use Rattle.ap_chunk.specs.Parts.{Part, unit, gap, wall, units_in, taken_by, some_opens, some_longer, together}
use Rattle.ap_chunk.specs.Searching.{IsNext, IsTaken, IsWalk, IsLiveWalk, IsEnd}
use Rattle.ap_chunk.specs.declared.choice.Choice.{Choice}
use Rattle.ap_chunk.specs.declared.search.Walk.{Walk}
use Rattle.ap_chunk.proofs.Chosen.{choice_dead, live_opens, over_opens, none_more, some_chosen, opens_none, within}
use Rattle.ap_chunk.proofs.Tried.{chosen_is, one_choice}

-- Patterns that begin with units, as tests.

opens_from : (patterns : List (List ℕ)) (units : List (ℕ → Bool)) → some_opens patterns units
    ≡ true → SomeOpens patterns units
opens_from [] units h = absurd (false≢true h)
opens_from (p ∷ patterns) units h = elim (or_cases (opens p units) (some_opens patterns units) h) [
  | inl e ↦ record { rule = 0; pattern = p; at = refl; fit = e }
  | inr e ↦ let more = opens_from patterns units e in
      record { rule = suc more.rule; pattern = more.pattern; at = more.at; fit = more.fit }
]

opens_at : (patterns : List (List ℕ)) (units : List (ℕ → Bool)) (rule : ℕ) (p : List ℕ) →
    slice_get patterns rule ≡ Some p → opens p units ≡ true → some_opens patterns units ≡ true
opens_at [] units rule p at e = absurd (cc)
opens_at (q ∷ patterns) units zero p at e = let same : q ≡ p = cc in
    or_left (opens q units) (some_opens patterns units) (ap (λ r. opens r units) same ∙ e)
opens_at (q ∷ patterns) units (suc rule) p at e = or_right (opens q units)
    (some_opens patterns units) (opens_at patterns units rule p at e)

opens_to : (patterns : List (List ℕ)) (units : List (ℕ → Bool)) → SomeOpens patterns units →
    some_opens patterns units ≡ true
opens_to patterns units s = opens_at patterns units s.rule s.pattern s.at s.fit

longer_from : (patterns : List (List ℕ)) (units : List (ℕ → Bool)) → some_longer patterns units
    ≡ true → SomeLive patterns units
longer_from [] units h = absurd (false≢true h)
longer_from (p ∷ patterns) units h =
    elim (or_cases (goes_on p units) (some_longer patterns units) h) [
      | inl e ↦ record { rule = 0; live = e }
      | inr e ↦ let more = longer_from patterns units e in
          record { rule = suc more.rule; live = more.live }
    ]

longer_at : (patterns : List (List ℕ)) (units : List (ℕ → Bool)) (rule : ℕ) →
    is_live patterns units rule ≡ true → some_longer patterns units ≡ true
longer_at [] units rule e = absurd (false≢true e)
longer_at (q ∷ patterns) units zero e = or_left (goes_on q units) (some_longer patterns units) e
longer_at (q ∷ patterns) units (suc rule) e = or_right (goes_on q units)
    (some_longer patterns units) (longer_at patterns units rule e)

longer_to : (patterns : List (List ℕ)) (units : List (ℕ → Bool)) → SomeLive patterns units →
    some_longer patterns units ≡ true
longer_to patterns units s = longer_at patterns units s.rule s.live

not_true : (b : Bool) → (b ≡ true → ⊥) → b ≡ false
not_true true h = absurd (h refl)
not_true false h = refl

no_longer : (patterns : List (List ℕ)) (units : List (ℕ → Bool)) → (SomeLive patterns units → ⊥) →
    some_longer patterns units ≡ false
no_longer patterns units dead = not_true (some_longer patterns units)
    (λ e. dead (longer_from patterns units e))

goes_less : (p : List ℕ) (units : List (ℕ → Bool)) (u : ℕ → Bool) → opens p (units ++ u ∷ [])
    ≡ true → goes_on p units ≡ true
goes_less [] [] u h = absurd (false≢true h)
goes_less [] (v ∷ units) u h = absurd (false≢true h)
goes_less (c ∷ cs) [] u h = refl
goes_less (c ∷ cs) (v ∷ units) u h =
    let both = and_parts (v c) (opens cs (units ++ u ∷ [])) h in
    and_from (v c) (goes_on cs units) both.0 (goes_less cs units u both.1)

-- a unit more than those with which no pattern goes on
no_opens : (patterns : List (List ℕ)) (units : List (ℕ → Bool)) (u : ℕ → Bool) →
    (SomeLive patterns units → ⊥) → some_opens patterns (units ++ u ∷ []) ≡ false
no_opens patterns units u dead = not_true (some_opens patterns (units ++ u ∷ [])) (λ e.
    let s = opens_from patterns (units ++ u ∷ []) e in
    dead (record {
      rule = s.rule;
      live = ap (of_rule (λ p. goes_on p units)) s.at
          ∙ goes_less s.pattern units u s.fit;
    }))

-- no item more is seen together with units with which no pattern goes on
together_dead : (patterns : List (List ℕ)) (units : List (ℕ → Bool)) (after : Bool)
    (parts : List Part) → (SomeLive patterns units → ⊥) → together patterns units after parts ≡ 0
together_dead patterns units after [] dead = refl
together_dead patterns units after (unit u ∷ parts) dead =
    ap (λ b. cond b (suc (together patterns (units ++ u ∷ []) true parts)) 0)
    (no_opens patterns units u dead)
together_dead patterns units true (gap ∷ parts) dead =
    ap (λ b. cond b (suc (together patterns units false parts)) 0) (no_longer patterns units dead)
together_dead patterns units false (gap ∷ parts) dead = refl
together_dead patterns units true (wall ∷ parts) dead = refl
together_dead patterns units false (wall ∷ parts) dead = refl

-- where it begins
taken_first : (patterns : List (List ℕ)) (best : Option Choice) (parts : List Part) →
    IsChosen patterns [] best → IsTaken best 0 parts
taken_first patterns None parts h = tt
taken_first patterns (Some c) parts h =
    λ xs. (let le : c.size ≤ 0 = within patterns c.rule [] c.size h.fitting in
    let z : c.size ≡ 0 = omega (arith, le) in ap (λ n. taken_by n (parts ++ xs)) z)

abbrev walk_of : Standing → ℕ → Bool → Option Choice → ℕ → Walk
walk_of choosing seen after best taken = record {
  choosing = choosing;
  seen = seen;
  after =
      after;
  best = best;
  taken = taken;
}

pub at_start : (parts : List Part) (choosing : Standing) (best : Option Choice) →
    Stands choosing [] → IsChosen choosing.patterns [] best →
    IsWalk parts (walk_of choosing 0 false best 0)
at_start parts choosing best stands is = record {
  units = [];
  stands = stands;
  few = omega arith;
  within = omega arith;
  best_is = is;
  units_on = λ xs. refl;
  span_on = λ xs. omega arith;
  taken_on = λ n xs. (let e : 0 + suc n ≡ suc n = omega arith in
      ap (λ k. taken_by k (parts ++ xs)) e ∙ omega arith);
  taken_is = taken_first choosing.patterns best parts is;
  taken_within = omega arith;
}

-- an item more
next_within : (parts : List Part) (seen : ℕ) (p : Part) → IsNext parts seen p →
    seen + 1 ≤ length parts
next_within parts seen p next =
    let l = length-drop seen parts in
    let e : length (drop seen parts) ≡ suc (length (drop (seen + 1) parts)) = ap length next in
    omega (arith, l, e)

module _ (parts : List Part) (old : Walk) (n : ℕ) (s : n ≡ old.seen + 1) (is : IsLiveWalk parts old)
  where
    abbrev w : IsWalk parts old
    w = is.walked

    next_is : (p : Part) → IsNext parts old.seen p → drop old.seen parts ≡ p ∷ drop n parts
    next_is p next = next ∙ ap (λ k. p ∷ drop k parts) (sym s)

    few_on : length w.units ≤ n
    few_on = let f = w.few in omega (arith, f, s)

    within_on : (p : Part) → IsNext parts old.seen p → n ≤ length parts
    within_on p next = let l = next_within parts old.seen p next in omega (arith, l, s)

    taken_within_on : old.taken ≤ n
    taken_within_on = let t = w.taken_within in omega (arith, t, s)

    pub gap_on : old.after ≡ true → IsNext parts old.seen gap →
        IsWalk parts (walk_of old.choosing n false old.best old.taken)
    gap_on o next = record {
      units = w.units;
      stands = w.stands;
      few = few_on;
      within = within_on gap next;
      best_is = w.best_is;
      units_on = λ xs. w.units_on xs ∙ ap (λ us. w.units ++ us)
          (ap (λ b. units_in b (drop old.seen parts ++ xs)) o
          ∙ ap (λ (ps : List Part). units_in true (ps ++ xs)) (next_is gap next));
      span_on = λ xs. (
          let a = w.span_on xs in
          let b : together old.choosing.patterns w.units old.after (drop old.seen parts ++ xs)
          ≡ suc (together old.choosing.patterns w.units false (drop n parts ++ xs)) =
          ap (λ b. together old.choosing.patterns w.units b (drop old.seen parts ++ xs)) o
          ∙ ap (λ (ps : List Part). together old.choosing.patterns w.units true (ps ++ xs))
          (next_is gap next)
          ∙ ap (λ b. cond b
          (suc (together old.choosing.patterns w.units false (drop n parts ++ xs))) 0)
          (longer_to old.choosing.patterns w.units is.live) in
          omega (arith, a, b, s));
      taken_on = λ k xs. (
          let a = w.taken_on k xs in
          let b : taken_by (suc k) (drop old.seen parts ++ xs)
          ≡ suc (taken_by (suc k) (drop n parts ++ xs)) =
          ap (λ (ps : List Part). taken_by (suc k) (ps ++ xs)) (next_is gap next) in
          omega (arith, a, b, s));
      taken_is = w.taken_is;
      taken_within = taken_within_on;
    }

    module _ (u : ℕ → Bool) (next : IsNext parts old.seen (unit u)) (choosing : Standing)
        (same : choosing.patterns ≡ old.choosing.patterns)
        (stands : Stands choosing (w.units ++ u ∷ [])) where
      best_old : IsChosen choosing.patterns w.units old.best
      best_old = subst (λ ps. IsChosen ps w.units old.best) (sym same) w.best_is

      more_length : length (w.units ++ u ∷ []) ≡ length w.units + 1
      more_length = length-append w.units (u ∷ [])

      units_next : (xs : List Part) → units_in old.after (drop old.seen parts ++ xs)
          ≡ u ∷ units_in true (drop n parts ++ xs)
      units_next xs = ap (λ (ps : List Part). units_in old.after (ps ++ xs)) (next_is (unit u) next)

      units_more : (xs : List Part) → units_in false (parts ++ xs)
          ≡ (w.units ++ u ∷ []) ++ units_in true (drop n parts ++ xs)
      units_more xs = w.units_on xs ∙ ap (λ us. w.units ++ us) (units_next xs)
          ∙ sym (append_assoc w.units (u ∷ []) (units_in true (drop n parts ++ xs)))

      together_next : (xs : List Part) →
          together old.choosing.patterns w.units old.after (drop old.seen parts ++ xs)
          ≡ cond (some_opens old.choosing.patterns (w.units ++ u ∷ []))
          (suc (together old.choosing.patterns (w.units ++ u ∷ []) true (drop n parts ++ xs))) 0
      together_next xs =
          ap (λ (ps : List Part). together old.choosing.patterns w.units old.after (ps ++ xs))
          (next_is (unit u) next)

      taken_next : (k : ℕ) (xs : List Part) → taken_by (suc k) (drop old.seen parts ++ xs)
          ≡ suc (taken_by k (drop n parts ++ xs))
      taken_next k xs = ap (λ (ps : List Part). taken_by (suc k) (ps ++ xs)) (next_is (unit u) next)

      unit_on : (best : Option Choice) (taken : ℕ) →
          SomeOpens choosing.patterns (w.units ++ u ∷ []) →
          IsChosen choosing.patterns (w.units ++ u ∷ []) best → IsTaken best taken parts → taken ≤ n
          → IsWalk parts (walk_of choosing n true best taken)
      unit_on best taken opens is_best is_taken le = record {
        units = w.units ++ u ∷ [];
        stands = stands;
        few = (let f = w.few in omega (arith, f, s, more_length));
        within = within_on (unit u) next;
        best_is = is_best;
        units_on = units_more;
        span_on = λ xs. (
            let a = ap (λ ps. together ps [] false (parts ++ xs)) same ∙ w.span_on xs in
            let b = together_next xs
            ∙ ap
            (λ b. cond b
            (suc (together old.choosing.patterns (w.units ++ u ∷ []) true (drop n parts ++ xs)))
            0)
            (ap (λ ps. some_opens ps (w.units ++ u ∷ [])) (sym same)
            ∙ opens_to choosing.patterns (w.units ++ u ∷ []) opens) in
            let d = ap (λ ps. together ps (w.units ++ u ∷ []) true (drop n parts ++ xs)) same in
            omega (arith, a, b, d, s));
        taken_on = λ k xs. (
            let e : length (w.units ++ u ∷ []) + suc k ≡ length w.units + suc (suc k) =
            omega (arith, more_length) in
            let a = ap (λ m. taken_by m (parts ++ xs)) e ∙ w.taken_on (suc k) xs in
            let b = taken_next (suc k) xs in
            omega (arith, a, b, s));
        taken_is = is_taken;
        taken_within = le;
      }

      -- a pattern is over with the unit
      pub unit_over : (rule count : ℕ) → choosing.over ≡ Some rule → choosing.count ≡ count →
          IsWalk parts (walk_of choosing n true (Some (record { rule = rule; size = count })) n)
      unit_over rule count o c =
          let opens =
          subst (λ (o : Option ℕ). IsLeast (is_over choosing.patterns (w.units ++ u ∷ [])) o) o
          stands.least in
          unit_on (Some (record { rule = rule; size = count })) n
          (over_opens choosing.patterns (w.units ++ u ∷ []) rule opens.0)
          (some_chosen choosing rule count o c (w.units ++ u ∷ []) stands)
          (λ xs. (
          let k : count ≡ length w.units + suc 0 =
          (let d : choosing.count ≡ length (w.units ++ u ∷ []) = stands.counted in
          omega (arith, c, d, more_length)) in
          let a = ap (λ m. taken_by m (parts ++ xs)) k ∙ w.taken_on 0 xs in
          let b = taken_next 0 xs in
          omega (arith, a, b, s)))
          (omega arith)

      -- some pattern goes on with it
      pub unit_live : choosing.over ≡ None → SomeLive choosing.patterns (w.units ++ u ∷ []) →
          IsWalk parts (walk_of choosing n true old.best old.taken)
      unit_live o live =
          unit_on old.best old.taken (live_opens choosing.patterns (w.units ++ u ∷ []) live)
          (none_more choosing old.best o w.units u stands best_old) w.taken_is taken_within_on

      -- none does
      pub unit_end : choosing.over ≡ None → (SomeLive choosing.patterns (w.units ++ u ∷ []) → ⊥) →
          IsEnd false parts (walk_of choosing old.seen old.after old.best old.taken)
      unit_end o dead =
          let none =
          subst (λ (o : Option ℕ). IsLeast (is_over choosing.patterns (w.units ++ u ∷ [])) o) o
          stands.least in
          let shut : some_opens old.choosing.patterns (w.units ++ u ∷ []) ≡ false =
          ap (λ ps. some_opens ps (w.units ++ u ∷ [])) (sym same)
          ∙ not_true (some_opens choosing.patterns (w.units ++ u ∷ []))
          (λ e. opens_none choosing.patterns (w.units ++ u ∷ []) dead none
          (opens_from choosing.patterns (w.units ++ u ∷ []) e)) in
          record {
            within = w.within;
            chosen_is = λ xs last. (
                let all = (w.units ++ u ∷ []) ++ units_in true (drop n parts ++ xs) in
                ap (chosen_of choosing.patterns) (units_more xs)
                ∙ sym (one_choice choosing.patterns all old.best (chosen_of choosing.patterns all)
                (choice_dead choosing.patterns (w.units ++ u ∷ [])
                (units_in true (drop n parts ++ xs)) old.best dead
                (none_more choosing old.best o w.units u stands best_old))
                (chosen_is choosing.patterns all)));
            span_is = λ xs last. (
                let a = ap (λ ps. together ps [] false (parts ++ xs)) same ∙ w.span_on xs in
                let b = together_next xs
                ∙ ap
                (λ b. cond b
                (suc (together old.choosing.patterns (w.units ++ u ∷ []) true
                (drop n parts ++ xs))) 0) shut in
                omega (arith, a, b));
            taken_is = w.taken_is;
            taken_within = w.taken_within;
          }

-- where it ends
module _ (parts : List Part) (walk : Walk) (w : IsWalk parts walk) where
  pub dead_end : (SomeLive walk.choosing.patterns w.units → ⊥) → IsEnd false parts walk
  dead_end dead = record {
    within = w.within;
    chosen_is = λ xs last. (
        let more = units_in walk.after (drop walk.seen parts ++ xs) in
        ap (chosen_of walk.choosing.patterns) (w.units_on xs)
        ∙ sym (one_choice walk.choosing.patterns (w.units ++ more) walk.best
        (chosen_of walk.choosing.patterns (w.units ++ more))
        (choice_dead walk.choosing.patterns w.units more walk.best dead w.best_is)
        (chosen_is walk.choosing.patterns (w.units ++ more))));
    span_is = λ xs last. (
        let a = w.span_on xs in
        let b = together_dead walk.choosing.patterns w.units walk.after (drop walk.seen parts ++ xs)
        dead in
        omega (arith, a, b));
    taken_is = w.taken_is;
    taken_within = w.taken_within;
  }

  stop_end : (last : Bool) →
      ((xs : List Part) → (last ≡ true → xs ≡ []) → units_in walk.after (drop walk.seen parts ++ xs)
      ≡ [])
      →
      ((xs : List Part) → (last ≡ true → xs ≡ []) →
      together walk.choosing.patterns w.units walk.after (drop walk.seen parts ++ xs) ≡ 0) →
      IsEnd last parts walk
  stop_end last no_units no_more = record {
    within = w.within;
    chosen_is = λ xs e.
        ap (chosen_of walk.choosing.patterns) (w.units_on xs
        ∙ ap (λ us. w.units ++ us) (no_units xs e) ∙ append-nil w.units)
        ∙ sym (one_choice walk.choosing.patterns w.units walk.best
        (chosen_of walk.choosing.patterns w.units) w.best_is
        (chosen_is walk.choosing.patterns w.units));
    span_is = λ xs e. (let a = w.span_on xs in let b = no_more xs e in omega (arith, a, b));
    taken_is = w.taken_is;
    taken_within = w.taken_within;
  }

  pub wall_end : IsNext parts walk.seen wall → IsEnd false parts walk
  wall_end next =
      stop_end false (λ xs e. ap (λ (ps : List Part). units_in walk.after (ps ++ xs)) next)
      (λ xs e. ap (λ (ps : List Part). together walk.choosing.patterns w.units walk.after
      (ps ++ xs)) next)

  pub gap_end : walk.after ≡ false → IsNext parts walk.seen gap → IsEnd false parts walk
  gap_end o next = stop_end false (λ xs e. ap (λ b. units_in b (drop walk.seen parts ++ xs)) o
      ∙ ap (λ (ps : List Part). units_in false (ps ++ xs)) next)
      (λ xs e. ap (λ b. together walk.choosing.patterns w.units b (drop walk.seen parts ++ xs)) o
      ∙ ap (λ (ps : List Part). together walk.choosing.patterns w.units false (ps ++ xs)) next)

  -- no item is left, and none follows
  pub last_end : walk.seen ≡ length parts → IsEnd true parts walk
  last_end e = stop_end true
      (λ xs last. ap (λ (ps : List Part). units_in walk.after ps) (nothing xs last))
      (λ xs last. ap (λ (ps : List Part). together walk.choosing.patterns w.units walk.after ps)
      (nothing xs last))
    where
      nothing : (xs : List Part) → (true ≡ true → xs ≡ []) → drop walk.seen parts ++ xs ≡ []
      nothing xs last = ap (λ (ps : List Part). drop walk.seen parts ++ ps) (last refl)
          ∙ append-nil (drop walk.seen parts) ∙ ap (λ k. drop k parts) e ∙ drop-length parts

  -- all items are seen together, and so they are however they go on
  pub span_grows : walk.seen ≡ length parts → (xs : List Part) →
      length parts ≤ together walk.choosing.patterns [] false (parts ++ xs)
  span_grows e xs = let a = w.span_on xs in omega (arith, a, e)

  pub span_all : walk.seen ≡ length parts → together walk.choosing.patterns [] false parts
      ≡ length parts
  span_all e =
      let a = w.span_on [] in
      let b = ap (together walk.choosing.patterns [] false) (append-nil parts) in
      let d : together walk.choosing.patterns w.units walk.after (drop walk.seen parts ++ []) ≡ 0 =
      ap (together walk.choosing.patterns w.units walk.after) (append-nil (drop walk.seen parts)
      ∙ ap (λ k. drop k parts) e ∙ drop-length parts) in
      omega (arith, a, b, d, e)

-- a unit more can be counted
pub units_fit : (parts : List Part) (walk : Walk) (w : IsWalk parts walk) →
    walk.seen + 1 < 18446744073709551616 → length w.units + 1 < 18446744073709551616
units_fit parts walk w h = let f = w.few in omega (arith, f, h)

-- nothing follows after all
pub end_last : (parts : List Part) (walk : Walk) (last : Bool) → IsEnd false parts walk →
    IsEnd last parts walk
end_last parts walk last ends = record {
  within = ends.within;
  chosen_is = λ xs e. ends.chosen_is xs (λ f. absurd (false≢true f));
  span_is = λ xs e. ends.span_is xs (λ f. absurd (false≢true f));
  taken_is = ends.taken_is;
  taken_within = ends.taken_within;
}
