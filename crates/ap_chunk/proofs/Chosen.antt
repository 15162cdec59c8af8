-- What is chosen, with one more unit and where no rule is live.
use Rattle.std.proofs.Common.{◌≡◌, ◌⊎◌, ℕ, suc, ◌+◌, ◌<◌, ◌≤◌, Bool, true, List, [], ◌∷◌, ◌++◌, length, slice_get, Option, Some, None, refl, ap, sym, ◌∙◌, arith, inl, inr, subst, length-append}
use Rattle.std.proofs.lemmas.Bool.{false≢true, and_parts, and_from, cases_lt}
use Rattle.ap_chunk.specs.declared.choice.Choice.{Choice}
use Rattle.ap_chunk.specs.Choice.{fits, RuleFits, IsChosen, opens, SomeOpens}
use Rattle.ap_chunk.specs.Live.{goes_on, ends, of_rule, is_over, IsLeast, SomeLive, Standing, Stands}

-- one pattern
fits_ends : (p : List ℕ) (units : List (ℕ → Bool)) → fits p units ≡ true → length p ≡ length units →
    ends p units ≡ true
fits_ends [] [] h e = refl
fits_ends [] (u ∷ units) h e = absurd (omega (arith, e))
fits_ends (c ∷ cs) [] h e = absurd (false≢true h)
fits_ends (c ∷ cs) (u ∷ units) h e = let both = and_parts (u c) (fits cs units) h in
    and_from (u c) (ends cs units) both.0 (fits_ends cs units both.1 (omega (arith, e)))

ends_fits : (p : List ℕ) (units : List (ℕ → Bool)) → ends p units ≡ true →
    (fits p units ≡ true) × (length units ≡ length p)
ends_fits [] [] h = (refl, refl)
ends_fits [] (u ∷ units) h = absurd (false≢true h)
ends_fits (c ∷ cs) [] h = absurd (false≢true h)
ends_fits (c ∷ cs) (u ∷ units) h =
    let both = and_parts (u c) (ends cs units) h in
    let more = ends_fits cs units both.1 in
    (and_from (u c) (fits cs units) both.0 more.0, ap suc more.1)

fits_length : (p : List ℕ) (units : List (ℕ → Bool)) → fits p units ≡ true → length p ≤ length units
fits_length [] units h = omega arith
fits_length (c ∷ cs) [] h = absurd (false≢true h)
fits_length (c ∷ cs) (u ∷ units) h = let le =
    fits_length cs units (and_parts (u c) (fits cs units) h).1 in omega (arith, le)

fits_shorter : (p : List ℕ) (units more : List (ℕ → Bool)) → length p ≤ length units →
    fits p (units ++ more) ≡ true → fits p units ≡ true
fits_shorter [] units more le h = refl
fits_shorter (c ∷ cs) [] more le h = absurd (omega (arith, le))
fits_shorter (c ∷ cs) (u ∷ units) more le h = let both = and_parts (u c) (fits cs (units ++ more)) h
    in and_from (u c) (fits cs units) both.0 (fits_shorter cs units more (omega (arith, le)) both.1)

fits_longer : (p : List ℕ) (units more : List (ℕ → Bool)) → fits p units ≡ true →
    fits p (units ++ more) ≡ true
fits_longer [] units more h = refl
fits_longer (c ∷ cs) [] more h = absurd (false≢true h)
fits_longer (c ∷ cs) (u ∷ units) more h = let both = and_parts (u c) (fits cs units) h in
    and_from (u c) (fits cs (units ++ more)) both.0 (fits_longer cs units more both.1)

fits_goes : (p : List ℕ) (units more : List (ℕ → Bool)) → fits p (units ++ more) ≡ true →
    length units < length p → goes_on p units ≡ true
fits_goes [] units more h lt = absurd (omega (arith, lt))
fits_goes (c ∷ cs) [] more h lt = refl
fits_goes (c ∷ cs) (u ∷ units) more h lt = let both = and_parts (u c) (fits cs (units ++ more)) h in
    and_from (u c) (goes_on cs units) both.0 (fits_goes cs units more both.1 (omega (arith, lt)))

goes_opens : (p : List ℕ) (units : List (ℕ → Bool)) → goes_on p units ≡ true → opens p units ≡ true
goes_opens [] units h = absurd (false≢true h)
goes_opens (c ∷ cs) [] h = refl
goes_opens (c ∷ cs) (u ∷ units) h = let both = and_parts (u c) (goes_on cs units) h in
    and_from (u c) (opens cs units) both.0 (goes_opens cs units both.1)

ends_opens : (p : List ℕ) (units : List (ℕ → Bool)) → ends p units ≡ true → opens p units ≡ true
ends_opens [] [] h = refl
ends_opens [] (u ∷ units) h = absurd (false≢true h)
ends_opens (c ∷ cs) [] h = absurd (false≢true h)
ends_opens (c ∷ cs) (u ∷ units) h = let both = and_parts (u c) (ends cs units) h in
    and_from (u c) (opens cs units) both.0 (ends_opens cs units both.1)

opens_parts : (p : List ℕ) (units : List (ℕ → Bool)) → opens p units ≡ true →
    (goes_on p units ≡ true) ⊎ (ends p units ≡ true)
opens_parts [] [] h = inr refl
opens_parts (c ∷ cs) [] h = inl refl
opens_parts [] (u ∷ units) h = absurd (false≢true h)
opens_parts (c ∷ cs) (u ∷ units) h =
    let both = and_parts (u c) (opens cs units) h in
    elim (opens_parts cs units both.1) [
      | inl g ↦ inl (and_from (u c) (goes_on cs units) both.0 g)
      | inr e ↦ inr (and_from (u c) (ends cs units) both.0 e)
    ]

-- one rule
shorter : (patterns : List (List ℕ)) (rule : ℕ) (units more : List (ℕ → Bool)) (n : ℕ) →
    n ≤ length units → RuleFits patterns rule (units ++ more) n → RuleFits patterns rule units n
shorter patterns rule units more n le f =
    let size : n ≡ length f.pattern = f.size in
    record {
      pattern = f.pattern;
      at = f.at;
      size = f.size;
      fit =
          fits_shorter f.pattern units more (omega (arith, le, size)) f.fit;
    }

longer : (patterns : List (List ℕ)) (rule : ℕ) (units more : List (ℕ → Bool)) (n : ℕ) →
    RuleFits patterns rule units n → RuleFits patterns rule (units ++ more) n
longer patterns rule units more n f =
    record {
      pattern = f.pattern;
      at = f.at;
      size = f.size;
      fit =
          fits_longer f.pattern units more f.fit;
    }

pub within : (patterns : List (List ℕ)) (rule : ℕ) (units : List (ℕ → Bool)) (n : ℕ) →
    RuleFits patterns rule units n → n ≤ length units
within patterns rule units n f = let size : n ≡ length f.pattern = f.size in
    let le : length f.pattern ≤ length units = fits_length f.pattern units f.fit in
    omega (arith, size, le)

over_at : (patterns : List (List ℕ)) (rule : ℕ) (units : List (ℕ → Bool)) (o : Option (List ℕ)) →
    slice_get patterns rule ≡ o → of_rule (λ p. ends p units) o ≡ true →
    RuleFits patterns rule units (length units)
over_at patterns rule units None e h = absurd (false≢true h)
over_at patterns rule units (Some p) e h = let both = ends_fits p units h in
    record { pattern = p; at = e; size = both.1; fit = both.0 }

fits_over : (patterns : List (List ℕ)) (rule : ℕ) (units : List (ℕ → Bool)) (n : ℕ) →
    RuleFits patterns rule units n → n ≡ length units → is_over patterns units rule ≡ true
fits_over patterns rule units n f e =
    let size : n ≡ length f.pattern = f.size in
    ap (of_rule (λ p. ends p units)) f.at ∙ fits_ends f.pattern units f.fit (omega (arith, size, e))

fits_live : (patterns : List (List ℕ)) (rule : ℕ) (units more : List (ℕ → Bool)) (n : ℕ) →
    RuleFits patterns rule (units ++ more) n → length units < n → SomeLive patterns units
fits_live patterns rule units more n f lt =
    let size : n ≡ length f.pattern = f.size in
    record {
      rule = rule;
      live = ap (of_rule (λ p. goes_on p units)) f.at
          ∙ fits_goes f.pattern units more f.fit (omega (arith, size, lt));
    }

-- the choice
choice_stays : (patterns : List (List ℕ)) (units more : List (ℕ → Bool)) (choice : Option Choice) →
    IsChosen patterns units choice
    → ((rule n : ℕ) → RuleFits patterns rule (units ++ more) n → n ≤ length units) →
    IsChosen patterns (units ++ more) choice
choice_stays patterns units more None h k =
    λ rule n f. h rule n (shorter patterns rule units more n (k rule n f) f)
choice_stays patterns units more (Some c) h k = record {
  fitting = longer patterns c.rule units more c.size h.fitting;
  longest = λ rule n f. h.longest rule n (shorter patterns rule units more n (k rule n f) f);
  first = λ rule f. h.first rule (shorter patterns rule units more c.size (k rule c.size f) f);
}

pub choice_over : (patterns : List (List ℕ)) (units : List (ℕ → Bool)) (least count : ℕ) →
    count ≡ length units → IsLeast (is_over patterns units) (Some least) →
    IsChosen patterns units (Some (record { rule = least; size = count }))
choice_over patterns units least count e h = let P : ℕ → Type 0 =
    λ n. IsChosen patterns units (Some (record { rule = least; size = n })) in
    subst P (sym e) (record {
      fitting = over_at patterns least units (slice_get patterns least) refl h.0;
      longest = λ rule n f. within patterns rule units n f;
      first = λ rule f. h.1 rule (fits_over patterns rule units (length units) f refl);
    })

pub choice_not_over : (patterns : List (List ℕ)) (units : List (ℕ → Bool)) (u : ℕ → Bool)
    (choice : Option Choice) → IsLeast (is_over patterns (units ++ u ∷ [])) None →
    IsChosen patterns units choice → IsChosen patterns (units ++ u ∷ []) choice
choice_not_over patterns units u choice none h =
    choice_stays patterns units (u ∷ []) choice h (λ rule n f.
    let le : n ≤ length (units ++ u ∷ []) = within patterns rule (units ++ u ∷ []) n f in
    let more : length (units ++ u ∷ []) ≡ length units + 1 = length-append units (u ∷ []) in
    elim (cases_lt (length units) n) [
      | inl lt ↦ absurd (false≢true
          (sym (none rule) ∙ fits_over patterns rule (units ++ u ∷ []) n f
          (omega (arith, le, more, lt))))
      | inr k ↦ k
    ])

pub choice_none : (patterns : List (List ℕ)) → IsLeast (is_over patterns []) None →
    IsChosen patterns [] None
choice_none patterns none = λ rule n f.
    let le : n ≤ 0 = within patterns rule [] n f in
    false≢true (sym (none rule) ∙ fits_over patterns rule [] n f (omega (arith, le)))

pub choice_dead : (patterns : List (List ℕ)) (units more : List (ℕ → Bool)) (choice : Option Choice)
    → (SomeLive patterns units → ⊥) → IsChosen patterns units choice →
    IsChosen patterns (units ++ more) choice
choice_dead patterns units more choice dead h =
    choice_stays patterns units more choice h (λ rule n f. elim (cases_lt (length units) n) [
      | inl lt ↦ absurd (dead (fits_live patterns rule units more n f lt))
      | inr k ↦ k
    ])

-- a pattern that begins so
live_at : (patterns : List (List ℕ)) (units : List (ℕ → Bool)) (rule : ℕ) (o : Option (List ℕ)) →
    slice_get patterns rule ≡ o → of_rule (λ p. goes_on p units) o ≡ true → SomeOpens patterns units
live_at patterns units rule None e h = absurd (false≢true h)
live_at patterns units rule (Some p) e h =
    record { rule = rule; pattern = p; at = e; fit = goes_opens p units h }

pub live_opens : (patterns : List (List ℕ)) (units : List (ℕ → Bool)) → SomeLive patterns units →
    SomeOpens patterns units
live_opens patterns units s = live_at patterns units s.rule (slice_get patterns s.rule) refl s.live

over_opens_at : (patterns : List (List ℕ)) (units : List (ℕ → Bool)) (rule : ℕ)
    (o : Option (List ℕ)) → slice_get patterns rule ≡ o → of_rule (λ p. ends p units) o ≡ true →
    SomeOpens patterns units
over_opens_at patterns units rule None e h = absurd (false≢true h)
over_opens_at patterns units rule (Some p) e h =
    record { rule = rule; pattern = p; at = e; fit = ends_opens p units h }

pub over_opens : (patterns : List (List ℕ)) (units : List (ℕ → Bool)) (rule : ℕ) →
    is_over patterns units rule ≡ true → SomeOpens patterns units
over_opens patterns units rule h =
    over_opens_at patterns units rule (slice_get patterns rule) refl h

pub opens_none : (patterns : List (List ℕ)) (units : List (ℕ → Bool)) →
    (SomeLive patterns units → ⊥) →
    IsLeast (is_over patterns units) None → SomeOpens patterns units → ⊥
opens_none patterns units dead none s = elim (opens_parts s.pattern units s.fit) [
  | inl g ↦ dead (record { rule = s.rule; live = ap (of_rule (λ p. goes_on p units)) s.at ∙ g })
  | inr e ↦ false≢true (sym (none s.rule) ∙ ap (of_rule (λ p. ends p units)) s.at ∙ e)
]

-- from how far a choice has come
pub none_more : (s : Standing) (before : Option Choice) → s.over ≡ None →
    (units : List (ℕ → Bool)) (u : ℕ → Bool) → Stands s (units ++ u ∷ []) →
    IsChosen s.patterns units before → IsChosen s.patterns (units ++ u ∷ []) before
none_more s before e units u stands h =
    let P : Option ℕ → Type 0 = λ o. IsLeast (is_over s.patterns (units ++ u ∷ [])) o in
    choice_not_over s.patterns units u before (subst P e stands.least) h

pub none_first : (s : Standing) (before : Option Choice) → s.over ≡ None → before ≡ None →
    Stands s [] → IsChosen s.patterns [] before
none_first s before e b stands =
    let P : Option ℕ → Type 0 = λ o. IsLeast (is_over s.patterns []) o in
    let Q : Option Choice → Type 0 = λ o. IsChosen s.patterns [] o in
    subst Q (sym b) (choice_none s.patterns (subst P e stands.least))

pub some_chosen : (s : Standing) (rule count : ℕ) → s.over ≡ Some rule → s.count ≡ count →
    (units : List (ℕ → Bool)) → Stands s units →
    IsChosen s.patterns units (Some (record { rule = rule; size = count }))
some_chosen s rule count e n units stands =
    let P : Option ℕ → Type 0 = λ o. IsLeast (is_over s.patterns units) o in
    choice_over s.patterns units rule count (sym n ∙ stands.counted) (subst P e stands.least)
