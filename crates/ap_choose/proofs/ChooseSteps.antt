-- The sentence at the front, where more items come.
use Rattle.std.specs.Prelude.{◌≡◌, ◌⊎◌, ℕ, zero, suc, ◌+◌, ◌<◌, ◌≤◌, nat_lt, min, Bool, true, false, not, ◌&&◌, ◌||◌, cond, List, [], ◌∷◌, ◌++◌, length, take, refl}
use Rattle.std.proofs.Common.{arith, ap, sym, subst, ◌∙◌, inl, inr}
use Rattle.std.proofs.lemmas.Bool.{cases_lt, or_parts}
use Rattle.std.proofs.lemmas.Bool.Decides.{nat_tests}
use Rattle.std.proofs.lemmas.List.{length-append, append-nil}
use Rattle.ap_stream.specs.Limits.{span_max}
use Rattle.ap_stream.specs.Steps.{Gives, Stops, bytes_of}
use Rattle.ap_stream.specs.declared.fault.LimitKind.TheVariants.{SpanTooLong}
use Rattle.ap_stream.specs.declared.item.Item.{Item}
use Rattle.ap_stream.specs.declared.item.Item.TheVariants as item
use Rattle.ap_stream.specs.declared.item.Read.{Read}
use Rattle.ap_stream.proofs.StepLaws.{bytes_taken}
use Rattle.ap_choose.specs.declared.forbidden.Pair.{Pair}
use Rattle.ap_choose.specs.Sentences.{is_unit, is_last, unit_of, units, sent_place, unit_place, sentence_length, begins_unit, sentence_text, sentence_step, first_spelled, copied, choose_step}
use Rattle.ap_choose.specs.Works.{unit_count, is_over, step_length, given_text}

-- the first unit with `sent`

sent_by : (c : Bool) (a b n : ℕ) → (a < n → b ≡ a) → cond c (1 + a) 0 < suc n →
    cond c (1 + b) 0 ≡ cond c (1 + a) 0
sent_by true a b n h lt = ap (λ (k : ℕ). 1 + k) (h (omega (arith, lt)))
sent_by false a b n h lt = refl

sent_same : (items xs : List Read) → sent_place items < length items → sent_place (items ++ xs)
    ≡ sent_place items
sent_same [] xs lt = absurd (omega (arith, lt))
sent_same (read ∷ items) xs lt = sent_by (not (is_last read.item)) (sent_place items)
    (sent_place (items ++ xs)) (length items) (sent_same items xs) lt

grown_by : (c : Bool) (a b : ℕ) → a ≤ b → cond c (1 + a) 0 ≤ cond c (1 + b) 0
grown_by true a b le = omega (arith, le)
grown_by false a b le = omega arith

sent_grows : (items xs : List Read) → sent_place items ≤ sent_place (items ++ xs)
sent_grows [] xs = omega arith
sent_grows (read ∷ items) xs = grown_by (not (is_last read.item)) (sent_place items)
    (sent_place (items ++ xs)) (sent_grows items xs)

within_by : (c : Bool) (a n : ℕ) → a ≤ n → cond c (1 + a) 0 ≤ suc n
within_by true a n le = omega (arith, le)
within_by false a n le = omega arith

sent_within : (items : List Read) → sent_place items ≤ length items
sent_within [] = omega arith
sent_within (read ∷ items) = within_by (not (is_last read.item)) (sent_place items) (length items)
    (sent_within items)

push_by : (c d : Bool) (a b n : ℕ) → (a ≡ n → b ≡ cond d n (suc n)) → cond c (1 + a) 0 ≡ suc n →
    cond c (1 + b) 0 ≡ cond d (suc n) (suc (suc n))
push_by true true a b n h e = let k : b ≡ n = h (omega (arith, e)) in omega (arith, k)
push_by true false a b n h e = let k : b ≡ suc n = h (omega (arith, e)) in omega (arith, k)
push_by false d a b n h e = absurd (omega (arith, e))

-- one item more, where there was none
sent_push : (items : List Read) (read : Read) → sent_place items ≡ length items →
    sent_place (items ++ read ∷ []) ≡ cond (is_last read.item) (length items) (suc (length items))
sent_push [] read e = by (is_last read.item)
  where
    by : (c : Bool) → cond (not c) (1 + 0) 0 ≡ cond c 0 1
    by true = refl
    by false = refl
sent_push (first ∷ items) read e = push_by (not (is_last first.item)) (is_last read.item)
    (sent_place items) (sent_place (items ++ read ∷ [])) (length items) (sent_push items read) e

-- the unit of a number

count_unit : (read : Read) → length (unit_of read.item) ≡ cond (is_unit read.item) 1 0
count_unit read = by read.item
  where
    by : (thing : Item) → length (unit_of thing) ≡ cond (is_unit thing) 1 0
    by (item.Plain c) = refl
    by (item.Blank bytes) = refl
    by (item.Unit words) = refl
    by (item.Chunk c) = refl

pub count_more : (read : Read) (items : List Read) → unit_count (read ∷ items)
    ≡ cond (is_unit read.item) 1 0 + unit_count items
count_more read items = length-append (unit_of read.item) (units items)
    ∙ ap (λ (n : ℕ). n + unit_count items) (count_unit read)

count_append : (items xs : List Read) → unit_count (items ++ xs) ≡ unit_count items + unit_count xs
count_append [] xs = omega arith
count_append (read ∷ items) xs = let a = count_more read (items ++ xs) in let b =
    count_more read items in let c = count_append items xs in omega (arith, a, b, c)

unit_grows : (n : ℕ) (items xs : List Read) → unit_place n items ≤ unit_place n (items ++ xs)
unit_grows n [] xs = omega arith
unit_grows zero (read ∷ items) xs = by (is_unit read.item) (unit_grows zero items xs)
  where
    by : (c : Bool) {k m : ℕ} → k ≤ m → cond c 0 (suc k) ≤ cond c 0 (suc m)
    by true le = omega arith
    by false le = omega (arith, le)
unit_grows (suc n) (read ∷ items) xs = by (is_unit read.item) (unit_grows n items xs)
    (unit_grows (suc n) items xs)
  where
    by : (c : Bool) {j k l m : ℕ} → j ≤ l → k ≤ m → suc (cond c j k) ≤ suc (cond c l m)
    by true a b = omega (arith, a)
    by false a b = omega (arith, b)

zero_stands : (c : Bool) (a b k m : ℕ) → (0 < m → (b ≡ a) × (a < k)) → 0 < cond c 1 0 + m →
    (cond c 0 (suc b) ≡ cond c 0 (suc a)) × (cond c 0 (suc a) < suc k)
zero_stands true a b k m h lt = (refl, omega arith)
zero_stands false a b k m h lt = let p = h (omega (arith, lt)) in let q = p.1 in
    (ap suc p.0, omega (arith, q))

suc_stands : (c : Bool) (n a b d e k m : ℕ) → (n < m → (b ≡ a) × (a < k)) →
    (suc n < m → (e ≡ d) × (d < k)) → suc n < cond c 1 0 + m → (suc (cond c b e) ≡ suc (cond c a d))
    × (suc (cond c a d) < suc k)
suc_stands true n a b d e k m h i lt = let p = h (omega (arith, lt)) in let q = p.1 in
    (ap suc p.0, omega (arith, q))
suc_stands false n a b d e k m h i lt = let p = i (omega (arith, lt)) in let q = p.1 in
    (ap suc p.0, omega (arith, q))

both_stand : (n : ℕ) (items xs : List Read) → n < unit_count items →
    (unit_place n (items ++ xs) ≡ unit_place n items) × (unit_place n items < length items)
both_stand n [] xs lt = absurd (omega (arith, lt))
both_stand zero (read ∷ items) xs lt =
    let c = count_more read items in
    zero_stands (is_unit read.item) (unit_place 0 items) (unit_place 0 (items ++ xs)) (length items)
    (unit_count items) (both_stand zero items xs) (omega (arith, lt, c))
both_stand (suc n) (read ∷ items) xs lt =
    let c = count_more read items in
    suc_stands (is_unit read.item) n (unit_place n items) (unit_place n (items ++ xs))
    (unit_place (suc n) items) (unit_place (suc n) (items ++ xs)) (length items)
    (unit_count items) (both_stand n items xs) (both_stand (suc n) items xs)
    (omega (arith, lt, c))

-- and behind all items that have fewer
zero_all : (c : Bool) (a k m : ℕ) → (m ≤ 0 → a ≡ k) → cond c 1 0 + m ≤ 0 → cond c 0 (suc a) ≡ suc k
zero_all true a k m h le = absurd (omega (arith, le))
zero_all false a k m h le = ap suc (h (omega (arith, le)))

suc_all : (c : Bool) (n a d k m : ℕ) → (m ≤ n → a ≡ k) → (m ≤ suc n → d ≡ k) →
    cond c 1 0 + m ≤ suc n → suc (cond c a d) ≡ suc k
suc_all true n a d k m h i le = ap suc (h (omega (arith, le)))
suc_all false n a d k m h i le = ap suc (i (omega (arith, le)))

unit_all : (n : ℕ) (items : List Read) → unit_count items ≤ n → unit_place n items ≡ length items
unit_all n [] le = refl
unit_all zero (read ∷ items) le = let c = count_more read items in
    zero_all (is_unit read.item) (unit_place 0 items) (length items) (unit_count items)
    (unit_all zero items) (omega (arith, le, c))
unit_all (suc n) (read ∷ items) le =
    let c = count_more read items in
    suc_all (is_unit read.item) n (unit_place n items) (unit_place (suc n) items) (length items)
    (unit_count items) (unit_all n items) (unit_all (suc n) items) (omega (arith, le, c))

-- sentences

pub length_is : (items : List Read) → sentence_length items ≡ min (suc (sent_place items))
    (min (suc (unit_place 999 items)) (length items))
unfolding sentence_length
length_is items = refl

begins_more : (items xs : List Read) → 0 < length items → begins_unit (items ++ xs)
    ≡ begins_unit items
begins_more [] xs some = absurd (omega arith)
begins_more (read ∷ items) xs some = refl

pub length_within : (items : List Read) → sentence_length items ≤ length items
length_within items = let e = length_is items in omega (arith, e)

-- no item of a sentence leaves it
sentence_grows : (items xs : List Read) → length items ≤ sentence_length items →
    length items ≤ sentence_length (items ++ xs)
sentence_grows items xs whole =
    let a = length_is items in
    let b = length_is (items ++ xs) in
    let l = length-append items xs in
    let s = sent_grows items xs in
    let u = unit_grows 999 items xs in
    omega (arith, a, b, l, s, u, whole)

abbrev is_ended : List Read → Bool
is_ended items = nat_lt (sent_place items) (length items) || nat_lt 999 (unit_count items)

-- one that is over stays as it is
sentence_ends : (items xs : List Read) → is_ended items ≡ true → sentence_length (items ++ xs)
    ≤ length items
sentence_ends items xs over = elim (cases_lt (sent_place items) (length items)) [
  | inl lt ↦ let b = length_is (items ++ xs) in let s = sent_same items xs lt in
      omega (arith, b, s, lt)
  | inr ge ↦ elim (cases_lt 999 (unit_count items)) [
    | inl more ↦ let b = length_is (items ++ xs) in let p = both_stand 999 items xs more in let q =
        p.0 in let r = p.1 in omega (arith, b, q, r)
    | inr few ↦ absurd (let f : nat_lt (sent_place items) (length items) ≡ false =
        grind (arith, nat_tests) in let g : nat_lt 999 (unit_count items) ≡ false =
        grind (arith, nat_tests) in cc)
  ]
]

pub sentence_settled : (items xs : List Read) → length items ≤ sentence_length items →
    is_ended items ≡ true → sentence_length (items ++ xs) ≡ length items
sentence_settled items xs whole over = let a = sentence_grows items xs whole in let b =
    sentence_ends items xs over in omega (arith, a, b)

-- the first step

module _ (pairs : List Pair) (items : List Read) where
  pub step_sentence : begins_unit items ≡ true → choose_step pairs items ≡ sentence_step pairs items
      (sentence_length items)
  unfolding choose_step
  step_sentence e = ap (λ (b : Bool). cond b (sentence_step pairs items (sentence_length items))
      (copied items)) e

  pub step_bare : begins_unit items ≡ false → choose_step pairs items ≡ copied items
  unfolding choose_step
  step_bare e = ap (λ (b : Bool). cond b (sentence_step pairs items (sentence_length items))
      (copied items)) e

take_front : (items xs : List Read) → take (length items) (items ++ xs) ≡ items
take_front [] xs = refl
take_front (read ∷ items) xs = ap (λ (q : List Read). read ∷ q) (take_front items xs)

settled_length : (items xs : List Read) → begins_unit items ≡ true →
    length items ≤ sentence_length items → (is_over items ≡ true) ⊎ (xs ≡ []) →
    sentence_length (items ++ xs) ≡ length items
settled_length [] xs unit whole settled = absurd (cc)
settled_length (read ∷ items) xs unit whole (inl over) = sentence_settled (read ∷ items) xs whole
    (sym (ap (λ (b : Bool). cond b (is_ended (read ∷ items)) true) unit) ∙ over)
settled_length (read ∷ items) xs unit whole (inr none) =
    let w = length_within (read ∷ items) in
    ap (λ (ys : List Read). sentence_length ((read ∷ items) ++ ys)) none
    ∙ ap sentence_length (append-nil (read ∷ items))
    ∙ (let e : sentence_length (read ∷ items) ≡ length (read ∷ items) =
    omega (arith, w, whole) in e)

-- where it takes all items
pub given_step : (pairs : List Pair) (items xs : List Read) → 0 < length items →
    length items ≤ step_length items → (is_over items ≡ true) ⊎ (xs ≡ []) →
    (begins_unit items ≡ true → bytes_of items ≤ span_max)
    → choose_step pairs (items ++ xs) ≡ Gives (length items) (given_text pairs items)
given_step pairs items xs some whole settled short = by (begins_unit items) refl
  where
    unit : begins_unit items ≡ true → choose_step pairs (items ++ xs) ≡ Gives (length items)
        (given_text pairs items)
    unit e =
        let low : length items ≤ sentence_length items =
        subst (λ (b : Bool). length items ≤ cond b (sentence_length items) 1) e whole in
        let fits = short e in
        let under : nat_lt span_max (bytes_of items) ≡ false = grind (arith, nat_tests) in
        step_sentence pairs (items ++ xs) (begins_more items xs some ∙ e)
        ∙ ap (sentence_step pairs (items ++ xs)) (settled_length items xs e low settled)
        ∙ ap (λ (q : List Read). cond (nat_lt span_max (bytes_of q)) (Stops SpanTooLong)
        (Gives (length items) (sentence_text pairs q))) (take_front items xs)
        ∙ ap (λ (b : Bool). cond b (Stops SpanTooLong)
        (Gives (length items) (sentence_text pairs items))) under
        ∙ ap (λ (b : Bool). Gives (length items) (cond b (sentence_text pairs items)
        (first_spelled items))) (sym e)

    one : (items : List Read) → 0 < length items → length items ≤ 1 →
        Gives 1 (first_spelled (items ++ xs)) ≡ Gives (length items) (first_spelled items)
    one [] some le = absurd (omega arith)
    one (read ∷ []) some le = refl
    one (read ∷ next ∷ items) some le = absurd (omega (arith, le))

    bare : begins_unit items ≡ false → choose_step pairs (items ++ xs) ≡ Gives (length items)
        (given_text pairs items)
    bare e =
        let low : length items ≤ 1 =
        subst (λ (b : Bool). length items ≤ cond b (sentence_length items) 1) e whole in
        step_bare pairs (items ++ xs) (begins_more items xs some ∙ e) ∙ one items some low
        ∙ ap (λ (b : Bool). Gives (length items) (cond b (sentence_text pairs items)
        (first_spelled items))) (sym e)

    by : (b : Bool) → begins_unit items ≡ b → choose_step pairs (items ++ xs) ≡ Gives (length items)
        (given_text pairs items)
    by true e = unit e
    by false e = bare e

-- where it has too many bytes, however they go on
pub overlong_step : (pairs : List Pair) (items xs : List Read) → begins_unit items ≡ true →
    length items ≤ step_length items → span_max < bytes_of items → choose_step pairs (items ++ xs)
    ≡ Stops SpanTooLong
overlong_step pairs [] xs unit whole long = absurd (cc)
overlong_step pairs (read ∷ reads) xs unit whole long =
    let items : List Read = read ∷ reads in
    let low : length items ≤ sentence_length items =
    subst (λ (b : Bool). length items ≤ cond b (sentence_length items) 1) unit whole in
    let grown = sentence_grows items xs low in
    let taken = bytes_taken items xs (sentence_length (items ++ xs)) grown in
    let over : nat_lt span_max (bytes_of (take (sentence_length (items ++ xs)) (items ++ xs)))
    ≡ true = (let lt : span_max < bytes_of (take (sentence_length (items ++ xs)) (items ++ xs))
    = omega (arith, taken, long) in grind (arith, nat_tests)) in
    step_sentence pairs (items ++ xs) unit
    ∙ ap (λ (b : Bool). cond b (Stops SpanTooLong) (Gives (sentence_length (items ++ xs))
    (sentence_text pairs (take (sentence_length (items ++ xs)) (items ++ xs))))) over

-- one item more

pub first_held : (read : Read) → (length (read ∷ []) ≤ step_length (read ∷ []))
    × (((true && not (is_unit read.item))
    || (is_last read.item || nat_lt 999 (unit_count (read ∷ [])))) ≡ is_over (read ∷ []))
first_held read = by read.item
  where
    by : (thing : Item) → let one : Read = record {
      item = thing;
      place = read.place;
      size =
          read.size;
    } in (length (one ∷ []) ≤ step_length (one ∷ []))
        × (((true && not (is_unit thing)) || (is_last thing || nat_lt 999 (unit_count (one ∷ []))))
        ≡ is_over (one ∷ []))
    by (item.Plain c) = (omega arith, refl)
    by (item.Blank bytes) = (omega arith, refl)
    by (item.Unit words) =
        let one : Read = record { item = item.Unit words; place = read.place; size = read.size } in
        let e = length_is (one ∷ []) in (
          omega (arith, e),
          ap (λ (b : Bool). b || nat_lt 999 (unit_count (one ∷ [])))
              (last (is_last (item.Unit words))),
        )
      where
        last : (c : Bool) → c ≡ nat_lt (cond (not c) (1 + 0) 0) 1
        last true = refl
        last false = refl
    by (item.Chunk c) = (omega arith, refl)

-- behind items whose sentence isn't over
module _ (items : List Read) (read : Read) (some : 0 < length items) (going : is_over items ≡ false)
  where
    begun : begins_unit items ≡ true
    begun = by items some going
      where
        by : (items : List Read) → 0 < length items → is_over items ≡ false →
            begins_unit items ≡ true
        by [] some e = absurd (omega arith)
        by (first ∷ items) some e = unit (is_unit first.item) e
          where
            unit : (b : Bool) → cond b (is_ended (first ∷ items)) true ≡ false → b ≡ true
            unit true e = refl
            unit false e = absurd (cc)

    not_ended : is_ended items ≡ false
    not_ended = by items some going
      where
        by : (items : List Read) → 0 < length items → is_over items ≡ false → is_ended items ≡ false
        by [] some e = absurd (omega arith)
        by (first ∷ items) some e = unit (is_unit first.item) e
          where
            unit : (b : Bool) → cond b (is_ended (first ∷ items)) true ≡ false →
                is_ended (first ∷ items) ≡ false
            unit true e = e
            unit false e = absurd (cc)

    sent_end : sent_place items ≡ length items
    sent_end = let p = or_parts (nat_lt (sent_place items) (length items))
        (nat_lt 999 (unit_count items)) not_ended in let low = p.0 in let w = sent_within items in
        let ge : length items ≤ sent_place items = grind (arith, nat_tests) in omega (arith, ge, w)

    pub few_units : unit_count items ≤ 999
    few_units = let p = or_parts (nat_lt (sent_place items) (length items))
        (nat_lt 999 (unit_count items)) not_ended in let high = p.1 in grind (arith, nat_tests)

    pub next_whole : length (items ++ read ∷ []) ≤ step_length (items ++ read ∷ [])
    next_whole =
        let e : begins_unit (items ++ read ∷ []) ≡ true = begins_more items (read ∷ []) some
        ∙ begun in
        let a = length_is (items ++ read ∷ []) in
        let s = sent_grows items (read ∷ []) in
        let u = unit_grows 999 items (read ∷ []) in
        let v = unit_all 999 items few_units in
        let l = length-append items (read ∷ []) in
        let t = sent_end in
        subst (λ (b : Bool). length (items ++ read ∷ [])
        ≤ cond b (sentence_length (items ++ read ∷ [])) 1) (sym e) (omega (
          arith,
          a,
          s,
          u,
          v,
          l,
          t,
        ))

    pub next_over : (is_last read.item || nat_lt 999 (unit_count (items ++ read ∷ [])))
        ≡ is_over (items ++ read ∷ [])
    next_over =
        let l = length-append items (read ∷ []) in
        let n : length (items ++ read ∷ []) ≡ suc (length items) = omega (arith, l) in
        ap (λ (b : Bool). b || nat_lt 999 (unit_count (items ++ read ∷ [])))
        (last (is_last read.item)
        ∙ ap (λ (k : ℕ). nat_lt k (suc (length items))) (sym (sent_push items read sent_end))
        ∙ ap (nat_lt (sent_place (items ++ read ∷ []))) (sym n))
        ∙ over items some begun
      where
        last : (c : Bool) → c ≡ nat_lt (cond c (length items) (suc (length items)))
            (suc (length items))
        last true = sym (let t : nat_lt (length items) (suc (length items)) ≡ true =
            grind (arith, nat_tests) in t)
        last false = sym (let f : nat_lt (suc (length items)) (suc (length items)) ≡ false =
            grind (arith, nat_tests) in f)

        over : (items : List Read) → 0 < length items → begins_unit items ≡ true →
            is_ended (items ++ read ∷ []) ≡ is_over (items ++ read ∷ [])
        over [] some e = absurd (omega arith)
        over (first ∷ items) some e =
            ap (λ (b : Bool). cond b (is_ended ((first ∷ items) ++ read ∷ [])) true) (sym e)

pub next_count : (items : List Read) (read : Read) → unit_count (items ++ read ∷ [])
    ≡ unit_count items + cond (is_unit read.item) 1 0
next_count items read = let a = count_append items (read ∷ []) in let b = count_more read [] in
    omega (arith, a, b)
