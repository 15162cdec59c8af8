-- The first step: by its cases, what it uses, and where its span is over the limit.
use Rattle.std.specs.Prelude.{◌≡◌, ℕ, suc, zero, ◌<◌, ◌≤◌, nat_lt, Bool, true, false, List, [], ◌∷◌, ◌++◌, length, take, Option, Some, None, Ok, Err, refl, if◌then◌else◌}
use Rattle.std.proofs.Common.{arith, ap, sym, ◌∙◌, inl, inr}
use Rattle.std.proofs.lemmas.Bool.{cases_lt, cases_Bool}
use Rattle.std.proofs.lemmas.Bool.Decides.{nat_tests}
use Rattle.std.proofs.lemmas.List.{length-take}
use Rattle.ap_stream.specs.Limits.{span_max, unit_max, stage_max}
use Rattle.ap_stream.specs.Steps.{bytes_of}
use Rattle.ap_stream.specs.declared.fault.LimitKind.TheVariants as limit
use Rattle.ap_stream.specs.declared.item.Read.{Read}
use Rattle.ap_stream.proofs.StepLaws.{bytes_taken}
use Rattle.ap_rules.specs.Views.{plain_rules}
use Rattle.ap_rules.specs.declared.rules.Rules.{Rules}
use Rattle.ap_exec.specs.Acting.{act_of, Outcome}
use Rattle.ap_exec.specs.Filling.{marks, filled, is_over, within_span}
use Rattle.ap_exec.specs.Results.{Ran}
use Rattle.ap_exec.specs.Results.{OutputTooLong}
use Rattle.ap_chunk.specs.Carrying.{Held, Step, Gives, Stops}
use Rattle.ap_chunk.specs.Matches.{matched_of, blanks_of}
use Rattle.ap_chunk.specs.Parts.{Part, unit, gap, wall, parts_of, taken_by}
use Rattle.ap_chunk.specs.Stages.{span, choice, filled_step, acted_step, rule_step, lone_step, unmatched_step, chosen_step, is_overfull, tested_step, chunk_step}
use Rattle.ap_chunk.specs.Unmatched.{unmatched_text}
use Rattle.ap_chunk.specs.declared.choice.Choice.{Choice}

-- what a step uses and gives
pub record Uses (reads : List Read) (n : ℕ) (text : List ℕ) : Type 0 where
  pub some : 0 < n
  pub within : n ≤ length reads
  pub short : length text ≤ stage_max

module _ (rules : Rules) (vars : Held) (reads : List Read) where
  pub step_over : span_max < bytes_of (take (span rules reads) reads) → chunk_step rules vars reads
      ≡ Stops limit.SpanTooLong
  unfolding chunk_step
  step_over h =
      let t : nat_lt span_max (bytes_of (take (span rules reads) reads)) ≡ true =
      grind (arith, nat_tests) in
      ap (λ b. if b then Stops limit.SpanTooLong else tested_step rules vars reads) t

  pub step_within : bytes_of (take (span rules reads) reads) ≤ span_max →
      chunk_step rules vars reads ≡ tested_step rules vars reads
  unfolding chunk_step
  step_within h =
      let f : nat_lt span_max (bytes_of (take (span rules reads) reads)) ≡ false =
      grind (arith, nat_tests) in
      ap (λ b. if b then Stops limit.SpanTooLong else tested_step rules vars reads) f

  pub tested_by : (b : Bool) → is_overfull rules.form reads ≡ b → tested_step rules vars reads
      ≡ (if b then Stops limit.UnitTooLong else chosen_step rules vars reads (choice rules reads))
  tested_by b e = ap (λ b. if b then Stops limit.UnitTooLong else chosen_step rules vars reads
      (choice rules reads)) e

  pub chosen_some : (c : Choice) → 0 < c.size → chosen_step rules vars reads (Some c)
      ≡ rule_step rules c.rule vars (take (taken_by c.size (parts_of rules reads)) reads)
  chosen_some c h =
      let t : nat_lt 0 c.size ≡ true = grind (arith, nat_tests) in
      ap
      (λ b. if b then rule_step rules c.rule vars
      (take (taken_by c.size (parts_of rules reads)) reads) else unmatched_step rules vars
      reads) t

  pub chosen_empty : (c : Choice) → c.size ≡ 0 → chosen_step rules vars reads (Some c)
      ≡ unmatched_step rules vars reads
  chosen_empty c h =
      let f : nat_lt 0 c.size ≡ false = grind (arith, nat_tests) in
      ap
      (λ b. if b then rule_step rules c.rule vars
      (take (taken_by c.size (parts_of rules reads)) reads) else unmatched_step rules vars
      reads) f

pub lone_over : (vars : Held) (text : List ℕ) → unit_max < length text →
    lone_step vars text ≡ Stops limit.UnitTooLong
lone_over vars text h = let t : nat_lt unit_max (length text) ≡ true = grind (arith, nat_tests) in
    ap (λ b. if b then Stops limit.UnitTooLong else Gives 1 text vars) t

pub lone_within : (vars : Held) (text : List ℕ) → length text ≤ unit_max →
    lone_step vars text ≡ Gives 1 text vars
lone_within vars text h = let f : nat_lt unit_max (length text) ≡ false =
    grind (arith, nat_tests) in ap (λ b. if b then Stops limit.UnitTooLong else Gives 1 text vars) f

-- where more items come, and the span is all of those before
pub step_overlong : (rules : Rules) (vars : Held) (reads xs : List Read) →
    length reads ≤ span rules (reads ++ xs) → span_max < bytes_of reads →
    chunk_step rules vars (reads ++ xs) ≡ Stops limit.SpanTooLong
step_overlong rules vars reads xs all long = let b =
    bytes_taken reads xs (span rules (reads ++ xs)) all in
    step_over rules vars (reads ++ xs) (omega (arith, b, long))

-- What a step uses.

abbrev count_of : Step → ℕ
count_of (Gives n text vars) = n
count_of (Stops kind) = 0

abbrev text_of : Step → List ℕ
text_of (Gives n text vars) = text
text_of (Stops kind) = []

lone_uses : (vars held : Held) (read : Read) (reads : List Read) (given : List ℕ) (n : ℕ)
    (text : List ℕ) → lone_step vars given ≡ Gives n text held → Uses (read ∷ reads) n text
lone_uses vars held read reads given n text e = elim (cases_lt unit_max (length given)) [
  | inl lt ↦ let wrong : Stops limit.UnitTooLong ≡ Gives n text held = sym (lone_over vars given lt)
      ∙ e in absurd (cc)
  | inr le ↦
      let same : Gives 1 given vars ≡ Gives n text held = sym (lone_within vars given le) ∙ e in
      let k : 1 ≡ n = ap count_of same in
      let t : length given ≡ length text = ap (λ s. length (text_of s)) same in
      record { some = omega (arith, k); within = omega (arith, k); short = omega (arith, t, le) }
]

unmatched_uses : (rules : Rules) (vars held : Held) (reads : List Read) (n : ℕ) (text : List ℕ) →
    0 < length reads → unmatched_step rules vars reads ≡ Gives n text held → Uses reads n text
unmatched_uses rules vars held [] n text some e = absurd (omega arith)
unmatched_uses rules vars held (read ∷ reads) n text some e = lone_uses vars held read reads
    (unmatched_text rules read.item) n text e

is_short : (bytes : List ℕ) → is_over bytes ≡ false → length bytes ≤ span_max
unfolding is_over
is_short bytes e = elim (cases_lt span_max (length bytes)) [
  | inl lt ↦ let t : nat_lt span_max (length bytes) ≡ true = grind (arith, nat_tests) in absurd (cc)
  | inr le ↦ le
]

within_is : (bytes : List ℕ) (b : Bool) → is_over bytes ≡ b →
    within_span bytes ≡ (if b then Err OutputTooLong else Ok bytes)
unfolding within_span
within_is bytes b e = ap (λ b. if b then Err OutputTooLong else Ok bytes) e

filled_uses : (k : ℕ) (vars held : Held) (bytes : List ℕ) (n : ℕ) (text : List ℕ) →
    filled_step k vars (within_span bytes) ≡ Gives n text held → (k ≡ n) × (length text ≤ span_max)
filled_uses k vars held bytes n text e = by (is_over bytes) refl
  where
    by : (b : Bool) → is_over bytes ≡ b → (k ≡ n) × (length text ≤ span_max)
    by true o = let wrong : Stops limit.OutputTooLong ≡ Gives n text held =
        sym (ap (filled_step k vars) (within_is bytes true o)) ∙ e in absurd (cc)
    by false o =
        let same : Gives k bytes vars ≡ Gives n text held =
        sym (ap (filled_step k vars) (within_is bytes false o)) ∙ e in
        let t : length bytes ≡ length text = ap (λ s. length (text_of s)) same in
        let le = is_short bytes o in
        (ap count_of same, omega (arith, t, le))

acted_uses : (k : ℕ) (held : Held) (blanks : List (List ℕ)) (ran : Ran Outcome) (n : ℕ)
    (text : List ℕ) → acted_step k blanks ran ≡ Gives n text held →
    (k ≡ n) × (length text ≤ span_max)
acted_uses k held blanks (Ok outcome) n text e = filled_uses k outcome.vars held
    (filled (marks outcome.pieces) blanks) n text e
acted_uses k held blanks (Err refusal) n text e = absurd (cc)

pub taken_some : (k : ℕ) (parts : List Part) → 0 < k → 0 < length parts → 0 < taken_by k parts
taken_some zero parts h some = absurd (omega arith)
taken_some (suc k) [] h some = absurd (omega arith)
taken_some (suc k) (unit u ∷ parts) h some = omega arith
taken_some (suc k) (gap ∷ parts) h some = omega arith
taken_some (suc k) (wall ∷ parts) h some = omega arith

pub parts_length : (rules : Rules) (reads : List Read) → length (parts_of rules reads)
    ≡ length reads
parts_length rules [] = refl
parts_length rules (read ∷ reads) = ap suc (parts_length rules reads)

rule_uses : (rules : Rules) (rule : ℕ) (vars held : Held) (reads : List Read) (k n : ℕ)
    (text : List ℕ) → 0 < k → 0 < length reads → rule_step rules rule vars (take k reads)
    ≡ Gives n text held → Uses reads n text
rule_uses rules rule vars held reads k n text h some e =
    let both = acted_uses (length (take k reads)) held (blanks_of (take k reads))
    (act_of (plain_rules rules) rule (matched_of rules.form (take k reads)) vars) n text e in
    let l = length-take k reads in
    record {
      some = omega (arith, both.0, l, h, some);
      within = omega (arith, both.0, l);
      short =
          omega (arith, both.1);
    }

chosen_uses : (rules : Rules) (vars held : Held) (reads : List Read) (o : Option Choice) (n : ℕ)
    (text : List ℕ) → 0 < length reads → chosen_step rules vars reads o ≡ Gives n text held →
    Uses reads n text
chosen_uses rules vars held reads None n text some e =
    unmatched_uses rules vars held reads n text some e
chosen_uses rules vars held reads (Some c) n text some e = elim (cases_lt 0 c.size) [
  | inl lt ↦ rule_uses rules c.rule vars held reads (taken_by c.size (parts_of rules reads)) n text
      (taken_some c.size (parts_of rules reads) lt (let l = parts_length rules reads in
      omega (arith, l, some))) some
      (sym (chosen_some rules vars reads c lt) ∙ e)
  | inr le ↦ unmatched_uses rules vars held reads n text some
      (sym (chosen_empty rules vars reads c (omega (arith, le))) ∙ e)
]

tested_uses : (rules : Rules) (vars held : Held) (reads : List Read) (n : ℕ) (text : List ℕ) →
    0 < length reads → tested_step rules vars reads ≡ Gives n text held → Uses reads n text
tested_uses rules vars held reads n text some e = elim (cases_Bool (is_overfull rules.form reads)) [
  | inl t ↦ let wrong : Stops limit.UnitTooLong ≡ Gives n text held =
      sym (tested_by rules vars reads true t) ∙ e in absurd (cc)
  | inr f ↦ chosen_uses rules vars held reads (choice rules reads) n text some
      (sym (tested_by rules vars reads false f) ∙ e)
]

pub step_uses : (rules : Rules) (vars held : Held) (reads : List Read) (n : ℕ) (text : List ℕ) →
    0 < length reads → chunk_step rules vars reads ≡ Gives n text held → Uses reads n text
step_uses rules vars held reads n text some e =
    elim (cases_lt span_max (bytes_of (take (span rules reads) reads))) [
      | inl lt ↦ let wrong : Stops limit.SpanTooLong ≡ Gives n text held =
          sym (step_over rules vars reads lt) ∙ e in absurd (cc)
      | inr le ↦ tested_uses rules vars held reads n text some
          (sym (step_within rules vars reads le) ∙ e)
    ]
