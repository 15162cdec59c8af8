-- The first step, by what the search found at the front; and that it is the same however the items
-- go on.
use Rattle.std.specs.Prelude.{◌≡◌, ℕ, zero, suc, ◌<◌, ◌≤◌, nat_lt, Bool, true, false, List, [], ◌∷◌, ◌++◌, length, take, Option, Some, None, refl, if◌then◌else◌}
use Rattle.std.proofs.Common.{arith, ap, sym, ◌∙◌, subst}
use Rattle.std.proofs.lemmas.List.{append-nil, take-append-le}
use Rattle.ap_stream.specs.Limits.{span_max, unit_max}
use Rattle.ap_stream.specs.Steps.{bytes_of}
use Rattle.ap_stream.specs.declared.fault.LimitKind.TheVariants as limit
use Rattle.ap_stream.specs.declared.item.Read.{Read}
use Rattle.ap_rules.specs.declared.rules.Form.{Form}
use Rattle.ap_rules.specs.declared.rules.Rules.{Rules}
use Rattle.ap_symbol.specs.declared.symbol.Symbol.{Symbol}
use Rattle.ap_chunk.specs.Chunks.{first_words, first_text}
use Rattle.ap_chunk.specs.Carrying.{Held, Step, Stops}
use Rattle.ap_chunk.specs.Parts.{parts_of, taken_by}
use Rattle.ap_chunk.specs.Searching.{IsTaken, IsFront}
use Rattle.ap_chunk.specs.Stages.{span, choice, rule_step, unmatched_step, chosen_step, is_overfull, tested_step, chunk_step}
use Rattle.ap_chunk.specs.declared.choice.Choice.{Choice}
use Rattle.ap_chunk.specs.declared.search.Front.{Front}
use Rattle.ap_chunk.proofs.ChunkSteps.{tested_by, chosen_some, taken_some, parts_length}
use Rattle.ap_chunk.proofs.Fronts.{parts_append}

-- What a rule gives.

-- By its cases.

step_by : (rules : Rules) (vars : Held) (items : List Read) (n : ℕ) (b : Bool) →
    span rules items ≡ n → nat_lt span_max (bytes_of (take n items)) ≡ b
    → chunk_step rules vars items
    ≡ (if b then Stops limit.SpanTooLong else tested_step rules vars items)
unfolding chunk_step
step_by rules vars items n b s e =
    ap (λ b. if b then Stops limit.SpanTooLong else tested_step rules vars items)
    (ap (λ k. nat_lt span_max (bytes_of (take k items))) s ∙ e)

module _ (rules : Rules) (vars : Held) (items : List Read) (front : Front)
    (f : IsFront true rules items front) where
  choice_here : choice rules items ≡ front.choice
  choice_here = ap (choice rules) (sym (append-nil items)) ∙ f.chosen_is [] (λ _. refl)

  span_here : span rules items ≡ front.span
  span_here = ap (span rules) (sym (append-nil items)) ∙ f.span_is [] (λ _. refl)

  -- the words that the code has of the first item
  overfull_here : (reads : List Read) (words : List (List Symbol)) → reads ≡ items →
      words ≡ first_words rules.form reads →
      nat_lt unit_max (length (first_text rules.form reads words)) ≡ is_overfull rules.form items
  overfull_here reads words r w =
      ap (λ (ws : List (List Symbol)). nat_lt unit_max (length (first_text rules.form reads ws))) w
      ∙ ap
      (λ (rs : List Read). nat_lt unit_max
      (length (first_text rules.form rs (first_words rules.form rs)))) r

  module _ (b : Bool) (is : b ≡ nat_lt span_max (bytes_of (take front.span items))) where
    pub first_over : b ≡ true → Stops limit.SpanTooLong ≡ chunk_step rules vars items
    first_over t = sym (step_by rules vars items front.span true span_here (sym is ∙ t))

    module _ (t : b ≡ false) (reads : List Read) (words : List (List Symbol)) (r : reads ≡ items)
        (w : words ≡ first_words rules.form reads) (over : Bool)
        (o : over ≡ nat_lt unit_max (length (first_text rules.form reads words))) where
      first_tested : chunk_step rules vars items ≡ tested_step rules vars items
      first_tested = step_by rules vars items front.span false span_here (sym is ∙ t)

      full : over ≡ is_overfull rules.form items
      full = o ∙ overfull_here reads words r w

      pub first_full : over ≡ true → Stops limit.UnitTooLong ≡ chunk_step rules vars items
      first_full e = sym (first_tested ∙ tested_by rules vars items true (sym full ∙ e))

      pub first_chosen : over ≡ false → chosen_step rules vars reads front.choice
          ≡ chunk_step rules vars items
      first_chosen e =
          ap (λ (rs : List Read). chosen_step rules vars rs front.choice) r
          ∙ ap (chosen_step rules vars items) (sym choice_here)
          ∙ sym (first_tested ∙ tested_by rules vars items false (sym full ∙ e))

-- the step that is chosen
module _ (rules : Rules) (vars : Held) (reads : List Read) (choice : Option Choice) (taken : ℕ)
    (is : IsTaken choice taken (parts_of rules reads)) where
  module _ (c : Choice) (e : choice ≡ Some c) where
    taken_here : taken_by c.size (parts_of rules reads) ≡ taken
    taken_here =
        ap (taken_by c.size) (sym (append-nil (parts_of rules reads)))
        ∙ (let h : IsTaken (Some c) taken (parts_of rules reads) =
        subst (λ o. IsTaken o taken (parts_of rules reads)) e is in h [])

    pub some_taken : 0 < c.size → 0 < length reads → 0 < taken
    some_taken h some =
        let l = parts_length rules reads in
        let t = taken_some c.size (parts_of rules reads) h (omega (arith, l, some)) in
        omega (arith, t, taken_here)

    pub rule_chosen : 0 < c.size → rule_step rules c.rule vars (take taken reads)
        ≡ chosen_step rules vars reads choice
    rule_chosen h = ap (λ k. rule_step rules c.rule vars (take k reads)) (sym taken_here)
        ∙ sym (chosen_some rules vars reads c h) ∙ ap (chosen_step rules vars reads) (sym e)

-- the words of the first item of some
pub words_taken : (form : Form) (reads : List Read) (k : ℕ) (words : List (List Symbol)) → 0 < k →
    words ≡ first_words form reads → words ≡ first_words form (take k reads)
words_taken form reads zero words h e = absurd (omega arith)
words_taken form [] (suc k) words h e = e
words_taken form (read ∷ reads) (suc k) words h e = e

-- However the items go on.

unmatched_more : (rules : Rules) (vars : Held) (items xs : List Read) → 0 < length items →
    unmatched_step rules vars (items ++ xs) ≡ unmatched_step rules vars items
unmatched_more rules vars [] xs some = absurd (omega arith)
unmatched_more rules vars (read ∷ items) xs some = refl

chosen_more : (rules : Rules) (vars : Held) (items xs : List Read) (o : Option Choice) (taken : ℕ) →
    0 < length items → IsTaken o taken (parts_of rules items) → taken ≤ length items
    → chosen_step rules vars (items ++ xs) o ≡ chosen_step rules vars items o
chosen_more rules vars items xs None taken some is le = unmatched_more rules vars items xs some
chosen_more rules vars items xs (Some c) taken some is le =
    let with_more : taken_by c.size (parts_of rules (items ++ xs)) ≡ taken =
    ap (taken_by c.size) (parts_append rules items xs) ∙ is (parts_of rules xs) in
    let alone : taken ≡ taken_by c.size (parts_of rules items) = sym (is [])
    ∙ ap (taken_by c.size) (append-nil (parts_of rules items)) in
    let same : take (taken_by c.size (parts_of rules (items ++ xs))) (items ++ xs)
    ≡ take (taken_by c.size (parts_of rules items)) items =
    ap (λ k. take k (items ++ xs)) with_more ∙ take-append-le taken items xs le
    ∙ ap (λ k. take k items) alone in
    ap (λ (reads : List Read). if nat_lt 0 c.size then rule_step rules c.rule vars reads else
    unmatched_step rules vars (items ++ xs)) same
    ∙ ap (λ (step : Step). if nat_lt 0 c.size then rule_step rules c.rule vars
    (take (taken_by c.size (parts_of rules items)) items) else step) (unmatched_more rules vars
    items xs some)

overfull_more : (form : Form) (items xs : List Read) → 0 < length items →
    is_overfull form (items ++ xs) ≡ is_overfull form items
overfull_more form [] xs some = absurd (omega arith)
overfull_more form (read ∷ items) xs some = refl

pub settled : (last : Bool) (rules : Rules) (vars : Held) (items : List Read) (front : Front) →
    IsFront last rules items front → 0 < length items → (xs : List Read) → (last ≡ true → xs ≡ [])
    → chunk_step rules vars (items ++ xs) ≡ chunk_step rules vars items
settled last rules vars items front f some xs e =
    let alone_choice : choice rules items ≡ front.choice =
    ap (choice rules) (sym (append-nil items)) ∙ f.chosen_is [] (λ _. refl) in
    let alone_span : span rules items ≡ front.span = ap (span rules) (sym (append-nil items))
    ∙ f.span_is [] (λ _. refl) in
    let b = nat_lt span_max (bytes_of (take front.span items)) in
    let within : front.taken ≤ length items = (let t = f.taken_within in let w = f.within in
    omega (arith, t, w)) in
    step_by rules vars (items ++ xs) front.span b (f.span_is xs e)
    (ap (λ (reads : List Read). nat_lt span_max (bytes_of reads))
    (take-append-le front.span items xs f.within))
    ∙ ap (λ (step : Step). if b then Stops limit.SpanTooLong else step)
    (tested_by rules vars (items ++ xs) (is_overfull rules.form items)
    (overfull_more rules.form items xs some)
    ∙ ap (λ (step : Step). if is_overfull rules.form items then Stops limit.UnitTooLong else step)
    (ap (chosen_step rules vars (items ++ xs)) (f.chosen_is xs e)
    ∙ chosen_more rules vars items xs front.choice front.taken some f.taken_is within
    ∙ ap (chosen_step rules vars items) (sym alone_choice)))
    ∙ sym (step_by rules vars items front.span b alone_span refl)
