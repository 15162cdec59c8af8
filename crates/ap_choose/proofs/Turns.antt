-- A turn of choosing at work, as its state is seen.
use Rattle.std.specs.Prelude.{◌≡◌, ◌⊎◌, ℕ, ◌+◌, ◌<◌, ◌≤◌, nat_lt, nat_eq, Bool, true, false, not, ◌&&◌, ◌||◌, cond, List, [], ◌∷◌, ◌++◌, drop, length, refl}
use Rattle.std.specs.List.{AllByRecursion}
use Rattle.std.proofs.Common.{arith, ap, sym, subst, ◌∙◌, inl, inr}
use Rattle.std.proofs.lemmas.Bool.Decides.{nat_tests}
use Rattle.std.proofs.lemmas.List.{append-nil}
use Rattle.ap_stream.specs.Limits.{span_max, stage_max}
use Rattle.ap_stream.specs.Reading.{IsRead}
use Rattle.ap_stream.specs.Spelling.{spelled}
use Rattle.ap_stream.specs.Steps.{Gives, steps, bytes_of}
use Rattle.ap_stream.specs.Told.{silent, behind, ends_in}
use Rattle.ap_stream.specs.declared.dialect.Dialect.TheVariants.{Analysed}
use Rattle.ap_stream.specs.declared.fault.LimitKind.TheVariants.{SpanTooLong}
use Rattle.ap_stream.specs.declared.fault.StreamFault.TheVariants.{Limit}
use Rattle.ap_stream.specs.declared.item.Read.{Read}
use Rattle.ap_stream.proofs.StepLaws.{steps_none, steps_gives, steps_stops, bytes_append}
use Rattle.ap_choose.specs.declared.forbidden.Pair.{Pair}
use Rattle.ap_choose.specs.Sentences.{is_unit, is_last, units, sent_place, begins_unit, sentence_length, sentence_text, first_spelled, choose_step, chosen}
use Rattle.ap_choose.specs.Choice.{chosen_places}
use Rattle.ap_choose.specs.Works.{Choosing, IsHeld, choose_work, unit_count, is_over, span, step_length, given_text, IsFirstPlace, Wants}
use Rattle.ap_choose.proofs.ChooseSteps.{given_step, overlong_step, length_within, first_held, next_over, next_whole, next_count}
use Rattle.ap_choose.proofs.Sizes.{written_size, part_size}

pub over_silent : (pairs : List Pair) (items : List Read) → length items ≡ 0 →
    chosen pairs (items ++ []) ≡ silent
over_silent pairs [] e = steps_none (choose_step pairs)
over_silent pairs (read ∷ items) e = absurd (omega (arith, e))

-- a limit, at the place of the first item
pub turned_overlong : (h : Choosing) (place : ℕ) → 0 < length h.items → IsFirstPlace h.items place →
    begins_unit h.items ≡ true → length h.items ≤ step_length h.items → span_max < bytes_of h.items
    → (xs : List Read) → choose_work h xs ≡ ends_in [] (Limit SpanTooLong place)
turned_overlong h place some first unit whole long xs = by h.items some first unit whole long
  where
    by : (items : List Read) → 0 < length items → IsFirstPlace items place →
        begins_unit items ≡ true → length items ≤ step_length items → span_max < bytes_of items →
        chosen h.pairs (items ++ xs) ≡ ends_in [] (Limit SpanTooLong place)
    by [] some first unit whole long = absurd (omega arith)
    by (read ∷ items) some first unit whole long =
        steps_stops (choose_step h.pairs) read (items ++ xs) SpanTooLong
        (overlong_step h.pairs (read ∷ items) xs unit whole long)
        ∙ ap (λ (r : Read). ends_in [] (Limit SpanTooLong r.place)) (sym first.is)
        ∙ ap (λ (n : ℕ). ends_in [] (Limit SpanTooLong n)) (sym first.place_is)

drop_front : (items xs : List Read) → drop (length items) (items ++ xs) ≡ xs
drop_front [] xs = refl
drop_front (read ∷ items) xs = drop_front items xs

gives_all : (pairs : List Pair) (items xs : List Read) (text : List ℕ) → 0 < length items →
    choose_step pairs (items ++ xs) ≡ Gives (length items) text → behind text (chosen pairs xs)
    ≡ chosen pairs (items ++ xs)
gives_all pairs [] xs text some e = absurd (omega arith)
gives_all pairs (read ∷ items) xs text some e =
    sym (steps_gives (choose_step pairs) read (items ++ xs) (length (read ∷ items)) text e some
    ∙ ap (λ (ys : List Read). behind text (steps (choose_step pairs) 0 ys))
    (drop_front (read ∷ items) xs))

-- what all items give fits
pub given_size : (pairs : List Pair) (items : List Read) → 0 < length items →
    AllByRecursion (IsRead Analysed) items →
    (begins_unit items ≡ true → bytes_of items ≤ span_max) → length (given_text pairs items)
    ≤ stage_max
given_size pairs [] some all short = absurd (omega arith)
given_size pairs (read ∷ items) some all short = by (begins_unit (read ∷ items)) refl
  where
    by : (b : Bool) → begins_unit (read ∷ items) ≡ b →
        length (cond b (sentence_text pairs (read ∷ items)) (first_spelled (read ∷ items)))
        ≤ stage_max
    by true e = let a = written_size (read ∷ items) (chosen_places pairs (units (read ∷ items)))
        all in let b = short e in omega (arith, a, b)
    by false e =
        let l : length (spelled read.item ++ []) ≡ length (spelled read.item) =
        ap length (append-nil (spelled read.item)) in
        let a = part_size read e all.0 in let b = all.0.short in omega (arith, l, a, b)

some_bytes : (items : List Read) → 0 < length items → AllByRecursion (IsRead Analysed) items →
    0 < bytes_of items
some_bytes [] some all = absurd (omega arith)
some_bytes (read ∷ items) some all = let s = all.0.some in omega (arith, s)

module _ (h : Choosing) (some : 0 < length h.items) (all : AllByRecursion (IsRead Analysed) h.items)
    (whole : length h.items ≤ step_length h.items) (over : (is_over h.items ≡ true)
    ⊎ (h.finished ≡ true))
    (short : begins_unit h.items ≡ true → bytes_of h.items ≤ span_max) where
  pub turned_wrote : (after : Choosing) (text into new : List ℕ) →
      text ≡ given_text h.pairs h.items → after.items ≡ [] → after.pairs ≡ h.pairs →
      after.finished ≡ h.finished → new ≡ into ++ text
      → (given : List ℕ) × (new ≡ into ++ given) × (length given ≤ stage_max)
      × (length after.items < length h.items) × (bytes_of after.items < bytes_of h.items)
      × (Analysed ≡ Analysed) × (after.finished ≡ h.finished)
      × ((xs : List Read) → (h.finished ≡ true → xs ≡ []) → behind given (choose_work after xs)
      ≡ choose_work h xs)
  turned_wrote after text into new t i p f e =
      let size : length text ≤ stage_max = subst (λ (q : List ℕ). length q ≤ stage_max) (sym t)
      (given_size h.pairs h.items some all short) in
      let fewer : length after.items < length h.items =
      subst (λ (q : List Read). length q < length h.items) (sym i) some in
      let bytes : bytes_of after.items < bytes_of h.items =
      subst (λ (q : List Read). bytes_of q < bytes_of h.items) (sym i)
      (some_bytes h.items some all) in (
        text,
        e,
        size,
        fewer,
        bytes,
        refl,
        f,
        λ xs last. rw (i, p) (gives_all h.pairs h.items xs text some
            (given_step h.pairs h.items xs some whole (settled xs last) short
            ∙ ap (Gives (length h.items)) (sym t))),
      )
    where
      settled : (xs : List Read) → (h.finished ≡ true → xs ≡ []) → (is_over h.items ≡ true)
          ⊎ (xs ≡ [])
      settled xs last = elim over [
        | inl o ↦ inl o
        | inr f ↦ inr (last f)
      ]

-- where an item is wanted
pub wants_all : (h : Choosing) → 0 < length h.items → length h.items ≤ step_length h.items →
    is_over h.items ≡ false → span h.items ≡ length h.items
wants_all h some whole going = by h.items some whole going
  where
    by : (items : List Read) → 0 < length items → length items ≤ step_length items →
        is_over items ≡ false → span items ≡ length items
    by [] some whole going = absurd (omega arith)
    by (read ∷ items) some whole going = unit (begins_unit (read ∷ items)) refl
      where
        unit : (b : Bool) → begins_unit (read ∷ items) ≡ b →
            span (read ∷ items) ≡ length (read ∷ items)
        unit true e =
            let low : length (read ∷ items) ≤ sentence_length (read ∷ items) =
            subst (λ (b : Bool). length (read ∷ items) ≤ cond b (sentence_length (read ∷ items))
            1) e whole in
            let w = length_within (read ∷ items) in
            ap (λ (b : Bool). cond b (sentence_length (read ∷ items)) 0) e
            ∙ (let s : sentence_length (read ∷ items) ≡ length (read ∷ items) =
            omega (arith, low, w) in s)
        unit false e = absurd (let t : is_over (read ∷ items) ≡ true =
            ap (λ (b : Bool). cond b (nat_lt (sent_place (read ∷ items)) (length (read ∷ items))
            || nat_lt 999 (unit_count (read ∷ items))) true) e in cc)

-- an item that begins no sentence is over
pub begun_open : (items : List Read) → 0 < length items → is_over items ≡ false →
    begins_unit items ≡ true
begun_open [] some e = absurd (omega arith)
begun_open (read ∷ items) some e = by (begins_unit (read ∷ items)) refl
  where
    by : (b : Bool) → begins_unit (read ∷ items) ≡ b → begins_unit (read ∷ items) ≡ true
    by true u = u
    by false u = absurd (let t : is_over (read ∷ items) ≡ true =
        ap (λ (b : Bool). cond b (nat_lt (sent_place (read ∷ items)) (length (read ∷ items))
        || nat_lt 999 (unit_count (read ∷ items))) true) u in cc)

-- one item more
pub pushed : (items : List Read) (read : Read) (count size from : ℕ) (over unit last result : Bool)
    → IsHeld items count over → is_over items ≡ false → size ≡ length items →
    unit ≡ is_unit read.item → last ≡ is_last read.item
    → from ≡ cond unit 1 0 →
    result ≡ ((nat_eq size 0 && not unit) || (last || nat_lt 999 (count + from))) →
    IsHeld (items ++ read ∷ []) (count + from) result
pushed items read count size from over unit last result held going z u l f r =
    record {
      counted = total;
      over_is = r ∙ tests ∙ by items going z total;
      whole =
          all items going;
    }
  where
    total : count + from ≡ unit_count (items ++ read ∷ [])
    total = let a = held.counted in let b = next_count items read in
        let c : from ≡ cond (is_unit read.item) 1 0 = f ∙ ap (λ (v : Bool). cond v 1 0) u in
        omega (arith, a, b, c)

    tests : ((nat_eq size 0 && not unit) || (last || nat_lt 999 (count + from)))
        ≡ ((nat_eq size 0 && not (is_unit read.item))
        || (is_last read.item || nat_lt 999 (count + from)))
    tests = ap (λ (v : Bool). (nat_eq size 0 && not v) || (last || nat_lt 999 (count + from))) u
        ∙ ap (λ (v : Bool). (nat_eq size 0 && not (is_unit read.item))
        || (v || nat_lt 999 (count + from))) l

    by : (items : List Read) → is_over items ≡ false → size ≡ length items →
        count + from ≡ unit_count (items ++ read ∷ []) →
        ((nat_eq size 0 && not (is_unit read.item))
        || (is_last read.item || nat_lt 999 (count + from))) ≡ is_over (items ++ read ∷ [])
    by [] going z t =
        ap (λ (n : ℕ). (nat_eq n 0 && not (is_unit read.item))
        || (is_last read.item || nat_lt 999 (count + from))) z
        ∙ ap (λ (n : ℕ). (true && not (is_unit read.item)) || (is_last read.item || nat_lt 999 n)) t
        ∙ (first_held read).1
    by (first ∷ items) going z t =
        let no : nat_eq size 0 ≡ false = grind (arith, nat_tests) in
        ap (λ (v : Bool). (v && not (is_unit read.item))
        || (is_last read.item || nat_lt 999 (count + from))) no
        ∙ ap (λ (n : ℕ). is_last read.item || nat_lt 999 n) t
        ∙ next_over (first ∷ items) read (omega arith) going

    all : (items : List Read) → is_over items ≡ false → length (items ++ read ∷ [])
        ≤ step_length (items ++ read ∷ [])
    all [] going = (first_held read).0
    all (first ∷ items) going = next_whole (first ∷ items) read (omega arith) going

pub bytes_on : (items now new : List Read) (read : Read) → items ≡ now → new ≡ items ++ read ∷ [] →
    bytes_of new ≡ bytes_of now + read.size
bytes_on items now new read e n =
    let a = bytes_append items (read ∷ []) in
    let b : bytes_of (items ++ read ∷ []) ≡ bytes_of items + read.size = omega (arith, a) in
    ap bytes_of n ∙ b ∙ ap (λ (z : List Read). bytes_of z + read.size) e

-- an item is wanted where none is held
pub wanted : (items : List Read) → (length items ≡ 0) ⊎ Wants items → Wants items
wanted [] h = record { short = omega arith; going = refl }
wanted (read ∷ items) (inl e) = absurd (omega (arith, e))
wanted (read ∷ items) (inr h) = h
