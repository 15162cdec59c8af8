-- The first step of post-generation: by its cases, where it is settled however the items go on, and
-- where its span is over the limit however they go on.
use Rattle.std.specs.Prelude.{◌≡◌, ℕ, ◌<◌, ◌≤◌, nat_lt, Bool, true, false, List, [], ◌∷◌, ◌++◌, length, take, refl, if◌then◌else◌}
use Rattle.std.specs.List.{flat_map}
use Rattle.std.proofs.Common.{arith, ap, sym, ◌∙◌, inl, inr}
use Rattle.std.proofs.lemmas.Bool.{cases_lt, cases_Bool}
use Rattle.std.proofs.lemmas.Bool.Decides.{nat_tests}
use Rattle.std.proofs.lemmas.List.{take-append-le}
use Rattle.ap_symbol.specs.declared.symbol.Symbol.{Symbol}
use Rattle.ap_stream.specs.Limits.{span_max}
use Rattle.ap_stream.specs.Spelling.{spelled}
use Rattle.ap_stream.specs.Steps.{Step, Gives, Stops, bytes_of}
use Rattle.ap_stream.specs.declared.fault.LimitKind.TheVariants.{SpanTooLong}
use Rattle.ap_stream.specs.declared.item.Read.{Read}
use Rattle.ap_stream.proofs.ItemFronts.{front_short, front_ends, front_goes_on, front_more}
use Rattle.ap_stream.proofs.StepLaws.{Settles, bytes_taken}
use Rattle.ap_live.specs.Lexicon.{Lexicon, IsCoherent}
use Rattle.ap_lookup.specs.Matching.{longest_match, fitting}
use Rattle.ap_lookup.specs.PostGenerating.{symbol_of, symbols, begins_alarm, matched, span, chosen, blanks, word_step, matched_step, match_step, alarm_step, copied, post_step}
use Rattle.ap_lookup.proofs.Matches.{fitting_within, fitting_settled, fitting_grows, match_within, match_settled}

module _ (lexicon : Lexicon) (reads : List Read) where
  pub span_alarm : begins_alarm reads ≡ true → span lexicon reads ≡ fitting lexicon (symbols reads)
  unfolding span
  span_alarm e = rw e refl

  pub span_bare : begins_alarm reads ≡ false → span lexicon reads ≡ 0
  unfolding span
  span_bare e = rw e refl

  pub matched_is : matched lexicon reads ≡ longest_match lexicon 0 (symbols reads)
  unfolding matched
  matched_is = refl

  pub fitting_short : fitting lexicon (symbols reads) ≤ length reads
  fitting_short = let w = fitting_within lexicon (symbols reads) in let s =
      front_short symbol_of reads in omega (arith, w, s)

  pub matched_within : IsCoherent lexicon → matched lexicon reads ≤ fitting lexicon (symbols reads)
  matched_within whole = let w = match_within lexicon (symbols reads) whole 0 in
      omega (arith, w, matched_is)

module _ (lexicon : Lexicon) (sensitive : Bool) (reads : List Read) where
  pub step_alarm : begins_alarm reads ≡ true → post_step lexicon sensitive reads
      ≡ alarm_step lexicon sensitive reads
  unfolding post_step
  step_alarm e = ap (λ b. if b then alarm_step lexicon sensitive reads else copied reads) e

  pub step_bare : begins_alarm reads ≡ false → post_step lexicon sensitive reads ≡ copied reads
  unfolding post_step
  step_bare e = ap (λ b. if b then alarm_step lexicon sensitive reads else copied reads) e

  pub alarm_over : span_max < bytes_of (take (span lexicon reads) reads) →
      alarm_step lexicon sensitive reads ≡ Stops SpanTooLong
  alarm_over h =
      let t : nat_lt span_max (bytes_of (take (span lexicon reads) reads)) ≡ true =
      grind (arith, nat_tests) in
      ap (λ b. if b then Stops SpanTooLong
      else match_step lexicon sensitive reads (matched lexicon reads)) t

  pub alarm_within : bytes_of (take (span lexicon reads) reads) ≤ span_max →
      alarm_step lexicon sensitive reads
      ≡ match_step lexicon sensitive reads (matched lexicon reads)
  alarm_within h =
      let f : nat_lt span_max (bytes_of (take (span lexicon reads) reads)) ≡ false =
      grind (arith, nat_tests) in
      ap (λ b. if b then Stops SpanTooLong
      else match_step lexicon sensitive reads (matched lexicon reads)) f

  pub match_some : (n : ℕ) → 0 < n → match_step lexicon sensitive reads n
      ≡ matched_step lexicon sensitive reads n
  match_some n h =
      let t : nat_lt 0 n ≡ true = grind (arith, nat_tests) in
      ap (λ b. if b then matched_step lexicon sensitive reads n else Gives 1 []) t

-- Where more items come.
module _ (lexicon : Lexicon) (reads xs : List Read) where
  begins_more : 0 < length reads → begins_alarm (reads ++ xs) ≡ begins_alarm reads
  begins_more = by reads
    where
      by : (reads : List Read) → 0 < length reads → begins_alarm (reads ++ xs) ≡ begins_alarm reads
      by [] h = absurd (omega arith)
      by (read ∷ reads) h = refl

  module _ (whole : IsCoherent lexicon) where
    module _ (lt : fitting lexicon (symbols reads) < length reads) where
      fitting_same : fitting lexicon (symbols (reads ++ xs)) ≡ fitting lexicon (symbols reads)
      fitting_same = elim (cases_lt (length (symbols reads)) (length reads)) [
        | inl less ↦ ap (fitting lexicon) (front_ends symbol_of reads xs less)
        | inr ge ↦
            let all : length (symbols reads) ≡ length reads =
            (let s = front_short symbol_of reads in omega (arith, s, ge)) in
            ap (fitting lexicon) (front_goes_on symbol_of reads xs all)
            ∙ fitting_settled lexicon (symbols reads) (symbols xs) whole
            (omega (arith, all, lt))
      ]

      matched_same : matched lexicon (reads ++ xs) ≡ matched lexicon reads
      unfolding matched
      matched_same = elim (cases_lt (length (symbols reads)) (length reads)) [
        | inl less ↦ ap (longest_match lexicon 0) (front_ends symbol_of reads xs less)
        | inr ge ↦
            let all : length (symbols reads) ≡ length reads =
            (let s = front_short symbol_of reads in omega (arith, s, ge)) in
            ap (longest_match lexicon 0) (front_goes_on symbol_of reads xs all)
            ∙ match_settled lexicon (symbols reads) (symbols xs) whole 0
            (omega (arith, all, lt))
      ]

    -- where the span is all items, it is no less with more of them
    fitting_more : fitting lexicon (symbols reads) ≡ length reads →
        length reads ≤ fitting lexicon (symbols (reads ++ xs))
    fitting_more e =
        let w = fitting_within lexicon (symbols reads) in
        let s = front_short symbol_of reads in
        let all : length (symbols reads) ≡ length reads = omega (arith, s, w, e) in
        let g = fitting_grows lexicon (symbols reads) (symbols xs) whole (e ∙ sym all) in
        let j = ap (fitting lexicon) (front_goes_on symbol_of reads xs all) in
        omega (arith, g, j, all)

    span_same : span lexicon reads < length reads → span lexicon (reads ++ xs) ≡ span lexicon reads
    span_same lt = elim (cases_Bool (begins_alarm reads)) [
      | inl t ↦ span_alarm lexicon (reads ++ xs) (begins_more (omega arith) ∙ t)
          ∙ fitting_same (let e = span_alarm lexicon reads t in omega (arith, e, lt))
          ∙ sym (span_alarm lexicon reads t)
      | inr f ↦ span_bare lexicon (reads ++ xs) (begins_more (omega arith) ∙ f)
          ∙ sym (span_bare lexicon reads f)
    ]

  module _ (sensitive : Bool) where
    matched_more : (n : ℕ) → n ≤ length reads → matched_step lexicon sensitive (reads ++ xs) n
        ≡ matched_step lexicon sensitive reads n
    matched_more n le =
        ap (λ (seen : List Symbol). word_step n (chosen lexicon sensitive seen)
        (blanks (take n (reads ++ xs)))) (front_more symbol_of reads xs n le)
        ∙ ap (λ (taken : List Read). word_step n (chosen lexicon sensitive (take n (symbols reads)))
        (blanks taken)) (take-append-le n reads xs le)

    match_more : (n : ℕ) → n ≤ length reads → match_step lexicon sensitive (reads ++ xs) n
        ≡ match_step lexicon sensitive reads n
    match_more n le = ap (λ (step : Step). if nat_lt 0 n then step else Gives 1 [])
        (matched_more n le)

    copied_more : 0 < length reads → copied (reads ++ xs) ≡ copied reads
    copied_more h = ap (λ (front : List Read). Gives 1 (flat_map (λ read. spelled read.item) front))
        (take-append-le 1 reads xs (omega arith))

    alarm_more : IsCoherent lexicon → span lexicon reads < length reads →
        fitting lexicon (symbols reads) < length reads → alarm_step lexicon sensitive (reads ++ xs)
        ≡ alarm_step lexicon sensitive reads
    alarm_more whole lt low =
        let n : ℕ = matched lexicon reads in
        let le : n ≤ length reads =
        (let w = matched_within lexicon reads whole in omega (arith, w, low)) in
        let bytes : bytes_of (take (span lexicon (reads ++ xs)) (reads ++ xs))
        ≡ bytes_of (take (span lexicon reads) reads) =
        ap (λ (k : ℕ). bytes_of (take k (reads ++ xs))) (span_same whole lt)
        ∙ ap bytes_of (take-append-le (span lexicon reads) reads xs (omega arith)) in
        ap (λ (k : ℕ). if nat_lt span_max k then Stops SpanTooLong
        else match_step lexicon sensitive (reads ++ xs) (matched lexicon (reads ++ xs))) bytes
        ∙ ap (λ (step : Step). if nat_lt span_max (bytes_of (take (span lexicon reads) reads))
        then Stops SpanTooLong else step)
        (ap (match_step lexicon sensitive (reads ++ xs)) (matched_same whole low)
        ∙ match_more n le)

    settled : IsCoherent lexicon → span lexicon reads < length reads →
        post_step lexicon sensitive (reads ++ xs) ≡ post_step lexicon sensitive reads
    settled whole lt = elim (cases_Bool (begins_alarm reads)) [
      | inl t ↦ step_alarm lexicon sensitive (reads ++ xs) (begins_more (omega arith) ∙ t)
          ∙ alarm_more whole lt (let e = span_alarm lexicon reads t in omega (arith, e, lt))
          ∙ sym (step_alarm lexicon sensitive reads t)
      | inr f ↦ step_bare lexicon sensitive (reads ++ xs) (begins_more (omega arith) ∙ f)
          ∙ copied_more (omega arith) ∙ sym (step_bare lexicon sensitive reads f)
    ]

    overlong : IsCoherent lexicon → 0 < length reads → span lexicon reads ≡ length reads →
        span_max < bytes_of reads → post_step lexicon sensitive (reads ++ xs) ≡ Stops SpanTooLong
    overlong whole some all long = elim (cases_Bool (begins_alarm reads)) [
      | inl t ↦
          let e = span_alarm lexicon reads t in
          let k = span_alarm lexicon (reads ++ xs) (begins_more some ∙ t) in
          let m = fitting_more whole (sym e ∙ all) in
          let b = bytes_taken reads xs (span lexicon (reads ++ xs)) (omega (arith, k, m)) in
          step_alarm lexicon sensitive (reads ++ xs) (begins_more some ∙ t)
          ∙ alarm_over lexicon sensitive (reads ++ xs) (omega (arith, b, long))
      | inr f ↦ absurd (let z = span_bare lexicon reads f in omega (arith, z, all, some))
    ]

pub settles : (lexicon : Lexicon) (sensitive : Bool) → IsCoherent lexicon →
    Settles (post_step lexicon sensitive) (span lexicon)
settles lexicon sensitive whole = record {
  ended = λ reads xs lt. settled lexicon reads xs sensitive whole lt;
  overlong = λ reads xs some all long. overlong lexicon reads xs sensitive whole some all long;
}
