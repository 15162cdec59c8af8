-- Tags with stars, tried from the left.
use Rattle.std.proofs.Common.{◌≡◌, ℕ, zero, suc, ◌+◌, ◌-◌, ◌*◌, ◌<◌, ◌≤◌, Bool, true, false, ◌&&◌, ◌||◌, cond, List, [], ◌∷◌, length, get_or, drop, Option, Some, None, refl, ap, sym, ◌∙◌, arith, inl, inr, subst, slice_get}
use Rattle.std.proofs.lemmas.Bool.{false≢true, and_parts, or_cases, or_left, or_right}
use Rattle.std.proofs.lemmas.List.{drop_more, drop_all, at_drop_more}
use Rattle.ap_symbol.specs.declared.symbol.Symbol.{Symbol}
use Rattle.ap_symbol.specs.declared.symbol.Symbol.TheVariants.{Star}
use Rattle.ap_symbol.specs.Fitting.{fits_lem}
use Rattle.ap_chunk.specs.Tests.{some_later, one_and, is_none, take_tags}
use Rattle.ap_chunk.specs.Tried.{IsTried, meeting_of, fits_later, tried_at, steps_left}
use Rattle.ap_chunk.specs.declared.tags.Meeting.TheVariants as meeting
use Rattle.ap_chunk.specs.declared.tags.LastStar.{LastStar}
use Rattle.ap_chunk.specs.declared.tags.Trial.{Trial}

-- what stands at a place, and what is left from there on
abbrev pub IsLeft : List Symbol → ℕ → Option Symbol → Type 0
IsLeft xs at None = drop at xs ≡ []
IsLeft xs at (Some x) = (drop at xs ≡ x ∷ drop (at + 1) xs) × (at < length xs)

pub left_at : (xs : List Symbol) (at : ℕ) → IsLeft xs at (slice_get xs at)
left_at [] zero = refl
left_at [] (suc at) = refl
left_at (x ∷ xs) zero = (refl, omega arith)
left_at (x ∷ xs) (suc at) = further x xs at (slice_get xs at) (left_at xs at)
  where
    further : (x : Symbol) (xs : List Symbol) (at : ℕ) (o : Option Symbol) → IsLeft xs at o →
        IsLeft (x ∷ xs) (suc at) o
    further x xs at None h = h
    further x xs at (Some y) h = (
      let e : suc (at + 1) ≡ suc at + 1 = omega arith in h.0 ∙ ap (λ k. y ∷ drop k (x ∷ xs)) e,
      omega (arith, h.1),
    )

-- two stars in a row
later_later : (test : List Symbol → Bool) (tags : List Symbol) → some_later (some_later test) tags
    ≡ true → some_later test tags ≡ true
later_later test [] h = h
later_later test (x ∷ tags) h =
    elim (or_cases (some_later test tags) (some_later (some_later test) tags) h) [
      | inl e ↦ or_right (test tags) (some_later test tags) e
      | inr e ↦ or_right (test tags) (some_later test tags) (later_later test tags e)
    ]

one_later : (part : Symbol) (test : List Symbol → Bool) (tags : List Symbol) →
    one_and part test tags ≡ true → some_later test tags ≡ true
one_later part test [] h = h
one_later part test (x ∷ tags) h =
    or_left (test tags) (some_later test tags) (and_parts (fits_lem true part x) (test tags) h).1

part_later : (part : Symbol) (test : List Symbol → Bool) (tags : List Symbol) →
    some_later (one_and part test) tags ≡ true → some_later test tags ≡ true
part_later part test [] h = h
part_later part test (x ∷ tags) h =
    elim (or_cases (one_and part test tags) (some_later (one_and part test) tags) h) [
      | inl e ↦ or_right (test tags) (some_later test tags) (one_later part test tags e)
      | inr e ↦ or_right (test tags) (some_later test tags) (part_later part test tags e)
    ]

-- behind a part that takes the first tag
pub part_forgets : (part : Symbol) (test : List Symbol → Bool) (x : Symbol) (tags : List Symbol) →
    some_later (one_and part test) (x ∷ tags) ≡ true → some_later test tags ≡ true
part_forgets part test x tags h =
    elim (or_cases (one_and part test tags) (some_later (one_and part test) tags) h) [
      | inl e ↦ one_later part test tags e
      | inr e ↦ part_later part test tags e
    ]

or_absorbs : (b l : Bool) → (l ≡ true → b ≡ true) → (b || l) ≡ b
or_absorbs true l f = refl
or_absorbs false true f = sym (f refl)
or_absorbs false false f = refl

-- where a star is met, an earlier one may be forgotten
pub star_forgets : (test : List Symbol → Bool) (x : Symbol) (tags : List Symbol) (later : Bool) →
    (later ≡ true → some_later (some_later test) (x ∷ tags) ≡ true) →
    (some_later test (x ∷ tags) || later) ≡ (test tags || some_later test tags)
star_forgets test x tags later f =
    or_absorbs (some_later test (x ∷ tags)) later (λ e. later_later test (x ∷ tags) (f e))

-- at the end of the tags
pub end_forgets : (later : Bool) → (later ≡ true → false ≡ true) → later ≡ false
end_forgets true f = absurd (false≢true (f refl))
end_forgets false f = refl

take_nothing : (parts : List Symbol) → take_tags parts [] ≡ is_none parts
take_nothing [] = refl
take_nothing (Star ∷ parts) = refl
take_nothing (part ∷ parts) = refl

none_dropped : (parts : List Symbol) (at : ℕ) → at < length parts → is_none (drop at parts) ≡ false
none_dropped [] at h = absurd (omega (arith, h))
none_dropped (x ∷ parts) zero h = refl
none_dropped (x ∷ parts) (suc at) h = none_dropped parts at (omega (arith, h))

or_none : (b : Bool) → (b || false) ≡ b
or_none true = refl
or_none false = refl

end_is : (parts tags : List Symbol) (trial : Trial) → IsTried parts tags trial →
    length tags ≤ trial.tag → take_tags parts tags ≡ is_none (drop trial.part parts)
end_is parts tags trial tried h =
    let e : drop trial.tag tags ≡ [] = drop_all trial.tag tags h in
    let later : fits_later parts tags trial.star ≡ false =
    end_forgets _ (λ l. sym (ap (some_later (take_tags (drop trial.part parts))) e)
    ∙ tried.forgotten l) in
    tried.whole ∙ ap (λ l. take_tags (drop trial.part parts) l || fits_later parts tags trial.star)
    e ∙ ap (λ b. take_tags (drop trial.part parts) [] || b) later
    ∙ or_none (take_tags (drop trial.part parts) []) ∙ take_nothing (drop trial.part parts)

pub end_over : (parts tags : List Symbol) (trial : Trial) → IsTried parts tags trial →
    length tags ≤ trial.tag → length parts ≤ trial.part → take_tags parts tags ≡ true
end_over parts tags trial tried h k = end_is parts tags trial tried h
    ∙ ap is_none (drop_all trial.part parts k)

pub end_left : (parts tags : List Symbol) (trial : Trial) → IsTried parts tags trial →
    length tags ≤ trial.tag → trial.part < length parts → take_tags parts tags ≡ false
end_left parts tags trial tried h k = end_is parts tags trial tried h
    ∙ none_dropped parts trial.part k

-- what is left to do falls
less : (x k d m r s : ℕ) → x ≡ k + suc d → r < m → k * m + r < x * m + s
less x k d m r s e h = let f : x * m ≡ k * m + (d * m + m) = ap (λ y. y * m) e ∙ omega arith in
    omega (arith, f, h)

pub less_left : (n a b t u : ℕ) → a < b → b ≤ n →
    (n - b) * (n + 1) + (n - u) < (n - a) * (n + 1) + (n - t)
less_left n a b t u h k =
    less (n - a) (n - b) (b - suc a) (n + 1) (n - u) (n - t) (omega arith) (omega arith)

fits_if : (b : Bool) → cond b meeting.Fits meeting.Fails ≡ meeting.Fits → b ≡ true
fits_if true e = refl
fits_if false e = cc

fails_if : (b : Bool) → cond b meeting.Fits meeting.Fails ≡ meeting.Fails → b ≡ false
fails_if true e = cc
fails_if false e = refl

not_many : (b : Bool) → cond b meeting.Fits meeting.Fails ≡ meeting.Many → ⊥
not_many true e = cc
not_many false e = cc

and_true : (b l : Bool) → b ≡ true → (b && l) ≡ l
and_true true l e = refl
and_true false l e = absurd (false≢true e)

and_false : (b l : Bool) → b ≡ false → (b && l) ≡ false
and_false true l e = absurd (false≢true (sym e))
and_false false l e = refl

is_star : (p x : Symbol) → meeting_of (Some p) x ≡ meeting.Many → p ≡ Star
is_star Star x e = refl
is_star p x e = absurd (not_many (fits_lem true p x) e)

fit_equal : (p x : Symbol) (parts tags : List Symbol) → meeting_of (Some p) x ≡ meeting.Fits →
    take_tags (p ∷ parts) (x ∷ tags) ≡ take_tags parts tags
fit_equal Star x parts tags e = cc
fit_equal p x parts tags e =
    and_true (fits_lem true p x) (take_tags parts tags) (fits_if (fits_lem true p x) e)

fit_forgets : (p x : Symbol) (parts tags : List Symbol) → meeting_of (Some p) x ≡ meeting.Fits →
    some_later (take_tags (p ∷ parts)) (x ∷ tags) ≡ true → some_later (take_tags parts) tags ≡ true
fit_forgets Star x parts tags e h = cc
fit_forgets p x parts tags e h = part_forgets p (take_tags parts) x tags h

fail_false : (p x : Symbol) (parts tags : List Symbol) → meeting_of (Some p) x ≡ meeting.Fails →
    take_tags (p ∷ parts) (x ∷ tags) ≡ false
fail_false Star x parts tags e = cc
fail_false p x parts tags e =
    and_false (fits_lem true p x) (take_tags parts tags) (fails_if (fits_lem true p x) e)

-- the next tag is equal to the next part
fit_step : (parts tags : List Symbol) (trial : Trial) (p x : Symbol) → drop trial.part parts ≡ p
    ∷ drop (trial.part + 1) parts → drop trial.tag tags ≡ x ∷ drop (trial.tag + 1) tags
    → trial.tag < length tags → meeting_of (Some p) x ≡ meeting.Fits → IsTried parts tags trial
    → IsTried parts tags (record { part = trial.part + 1; tag = trial.tag + 1; star = trial.star })
fit_step parts tags trial p x ep ex h e tried =
    let more = drop (trial.part + 1) parts in
    let rest = drop (trial.tag + 1) tags in
    let later = fits_later parts tags trial.star in
    record {
      whole = tried.whole ∙ ap (λ l. take_tags l (drop trial.tag tags) || later) ep
          ∙ ap (λ l. take_tags (p ∷ more) l || later) ex
          ∙ ap (λ b. b || later) (fit_equal p x more rest e);
      forgotten = λ l. fit_forgets p x more rest e
          (sym (ap (λ k. some_later (take_tags k) (drop trial.tag tags)) ep
          ∙ ap (λ k. some_later (take_tags (p ∷ more)) k) ex) ∙ tried.forgotten l);
      order = omega (arith, tried.order);
      within = omega (arith, h);
    }

-- the trial at a star
abbrev pub at_star : ℕ → ℕ → Trial
at_star part tag = record {
  part = part;
  tag = tag;
  star =
      Some (record { part = part; tag = tag });
}

-- the next part is a star, which takes the next tag
star_step : (parts tags : List Symbol) (trial : Trial) (x : Symbol) → drop trial.part parts ≡ Star
    ∷ drop (trial.part + 1) parts → drop trial.tag tags ≡ x ∷ drop (trial.tag + 1) tags
    → trial.tag < length tags → IsTried parts tags trial →
    IsTried parts tags (at_star (trial.part + 1) (trial.tag + 1))
star_step parts tags trial x ep ex h tried =
    let more = drop (trial.part + 1) parts in
    let rest = drop (trial.tag + 1) tags in
    let later = fits_later parts tags trial.star in
    record {
      whole = tried.whole ∙ ap (λ l. take_tags l (drop trial.tag tags) || later) ep
          ∙ ap (λ l. take_tags (Star ∷ more) l || later) ex
          ∙ star_forgets (take_tags more) x rest later
          (λ l. sym (ap (λ k. some_later (take_tags k) (drop trial.tag tags)) ep
          ∙ ap (λ k. some_later (take_tags (Star ∷ more)) k) ex) ∙ tried.forgotten l);
      forgotten = λ l. l;
      order = omega arith;
      within = omega (arith, h);
    }

-- the last star takes one tag more
back_step : (parts tags : List Symbol) (trial : Trial) (star : LastStar) → trial.star ≡ Some star →
    trial.tag < length tags → take_tags (drop trial.part parts) (drop trial.tag tags) ≡ false
    → IsTried parts tags trial → IsTried parts tags (at_star star.part (star.tag + 1))
back_step parts tags trial star es h e tried =
    let order : star.tag ≤ trial.tag = let P : Option LastStar → Type 0 =
    λ s. tried_at s ≤ trial.tag in subst P es tried.order in
    let lt : star.tag < length tags = omega (arith, h, order) in
    let rest = drop (star.tag + 1) tags in
    record {
      whole = tried.whole ∙ ap (λ b. b || fits_later parts tags trial.star) e
          ∙ ap (fits_later parts tags) es
          ∙ at_drop_more (some_later (take_tags (drop star.part parts))) tags star.tag Star lt;
      forgotten = λ l. l;
      order = omega arith;
      within = omega (arith, lt);
    }

pub back_falls : (parts tags : List Symbol) (trial : Trial) (star : LastStar) →
    trial.star ≡ Some star → trial.tag < length tags → IsTried parts tags trial
    → steps_left (length tags) (at_star star.part (star.tag + 1)) < steps_left (length tags) trial
back_falls parts tags trial star es h tried =
    let e : tried_at trial.star ≡ star.tag = ap tried_at es in
    let order : tried_at trial.star ≤ trial.tag = tried.order in
    less_left (length tags) (tried_at trial.star) (star.tag + 1) trial.tag (star.tag + 1)
    (omega arith) (omega arith)

pub back_on : (parts tags : List Symbol) (trial : Trial) (star : LastStar) →
    trial.star ≡ Some star → trial.tag < length tags →
    take_tags (drop trial.part parts) (drop trial.tag tags) ≡ false
    → IsTried parts tags trial → IsTried parts tags (at_star star.part (star.tag + 1))
    × (steps_left (length tags) (at_star star.part (star.tag + 1)) < steps_left
    (length tags) trial)
back_on parts tags trial star es h e tried =
    (back_step parts tags trial star es h e tried, back_falls parts tags trial star es h tried)

-- a step, by what the next part is for the next tag
many_by : (o : Option Symbol) (parts tags : List Symbol) (trial : Trial) (x : Symbol) →
    IsLeft parts trial.part o → drop trial.tag tags ≡ x ∷ drop (trial.tag + 1) tags →
    trial.tag < length tags
    → IsTried parts tags trial → meeting_of o x ≡ meeting.Many →
    IsTried parts tags (at_star (trial.part + 1) (trial.tag + 1))
many_by None parts tags trial x left ex h tried e = cc
many_by (Some p) parts tags trial x left ex h tried e =
    star_step parts tags trial x
    (left.0 ∙ ap (λ s. s ∷ drop (trial.part + 1) parts) (is_star p x e)) ex h tried

fits_by : (o : Option Symbol) (parts tags : List Symbol) (trial : Trial) (x : Symbol) →
    IsLeft parts trial.part o → drop trial.tag tags ≡ x ∷ drop (trial.tag + 1) tags →
    trial.tag < length tags
    → IsTried parts tags trial → meeting_of o x ≡ meeting.Fits →
    IsTried parts tags (record {
      part = trial.part + 1;
      tag = trial.tag + 1;
      star =
          trial.star;
    })
fits_by None parts tags trial x left ex h tried e = cc
fits_by (Some p) parts tags trial x left ex h tried e =
    fit_step parts tags trial p x left.0 ex h e tried

fails_by : (o : Option Symbol) (parts : List Symbol) (at : ℕ) (x : Symbol) (tags : List Symbol) →
    IsLeft parts at o → meeting_of o x ≡ meeting.Fails →
    take_tags (drop at parts) (x ∷ tags) ≡ false
fails_by None parts at x tags left e = ap (λ l. take_tags l (x ∷ tags)) left
fails_by (Some p) parts at x tags left e = ap (λ l. take_tags l (x ∷ tags)) left.0
    ∙ fail_false p x (drop (at + 1) parts) tags e

left_tags : (tags : List Symbol) (at : ℕ) (x : Symbol) → at < length tags → x ≡ get_or tags at x →
    drop at tags ≡ x ∷ drop (at + 1) tags
left_tags tags at x h is = drop_more tags at x h ∙ ap (λ s. s ∷ drop (at + 1) tags) (sym is)

pub many_on : (parts tags : List Symbol) (trial : Trial) (x : Symbol) → trial.tag < length tags →
    x ≡ get_or tags trial.tag x → IsTried parts tags trial →
    meeting_of (slice_get parts trial.part) x ≡ meeting.Many
    → IsTried parts tags (at_star (trial.part + 1) (trial.tag + 1))
    × (steps_left (length tags) (at_star (trial.part + 1) (trial.tag + 1)) < steps_left
    (length tags) trial)
many_on parts tags trial x h is tried e =
    let order : tried_at trial.star ≤ trial.tag = tried.order in (
      many_by (slice_get parts trial.part) parts tags trial x (left_at parts trial.part)
          (left_tags tags trial.tag x h is) h tried e,
      less_left (length tags) (tried_at trial.star) (trial.tag + 1) trial.tag (trial.tag + 1)
          (omega arith) (omega arith),
    )

pub fits_on : (parts tags : List Symbol) (trial : Trial) (x : Symbol) → trial.tag < length tags →
    x ≡ get_or tags trial.tag x → IsTried parts tags trial →
    meeting_of (slice_get parts trial.part) x ≡ meeting.Fits
    → IsTried parts tags (record { part = trial.part + 1; tag = trial.tag + 1; star = trial.star })
    × (steps_left (length tags)
    (record { part = trial.part + 1; tag = trial.tag + 1; star = trial.star }) < steps_left
    (length tags) trial)
fits_on parts tags trial x h is tried e = (
  fits_by (slice_get parts trial.part) parts tags trial x (left_at parts trial.part)
      (left_tags tags trial.tag x h is) h tried e,
  omega (arith, h),
)

pub fails_on : (parts tags : List Symbol) (trial : Trial) (x : Symbol) → trial.tag < length tags →
    x ≡ get_or tags trial.tag x → meeting_of (slice_get parts trial.part) x ≡ meeting.Fails
    → take_tags (drop trial.part parts) (drop trial.tag tags) ≡ false
fails_on parts tags trial x h is e =
    ap (take_tags (drop trial.part parts)) (left_tags tags trial.tag x h is)
    ∙ fails_by (slice_get parts trial.part) parts trial.part x (drop (trial.tag + 1) tags)
    (left_at parts trial.part) e
