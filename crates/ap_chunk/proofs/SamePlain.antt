-- What the stages give depends on the plain rules alone.
use Rattle.std.specs.Prelude.{◌≡◌, ℕ, zero, suc, pred, List, [], ◌∷◌, map, length, take, Option, Some, None, nat_lt, if◌then◌else◌, refl}
use Rattle.std.proofs.Common.{ap, sym, ◌∙◌}
use Rattle.ap_symbol.specs.declared.symbol.Symbol.{Symbol}
use Rattle.ap_stream.specs.Limits.{span_max}
use Rattle.ap_stream.specs.Reading.{Reads, reads}
use Rattle.ap_stream.specs.Steps.{bytes_of}
use Rattle.ap_stream.specs.Told.{Told, Ending, behind, or_else, stop_at}
use Rattle.ap_stream.specs.declared.dialect.Dialect.TheVariants.{Bilingual, Chunked}
use Rattle.ap_stream.specs.declared.fault.LimitKind.TheVariants as limit
use Rattle.ap_stream.specs.declared.item.Item.{Item}
use Rattle.ap_stream.specs.declared.item.Item.TheVariants.{Plain, Blank, Unit, Chunk}
use Rattle.ap_stream.specs.declared.item.Read.{Read}
use Rattle.ap_rules.specs.Plain.{PlainRule, PlainRules}
use Rattle.ap_rules.specs.Views.{plain_rule, plain_rules}
use Rattle.ap_rules.specs.declared.rules.Form.{Form}
use Rattle.ap_rules.specs.declared.rules.Form.TheVariants.{Transfer, Interchunk, Postchunk}
use Rattle.ap_rules.specs.declared.rules.Rule.{Rule}
use Rattle.ap_rules.specs.declared.rules.Rules.{Rules}
use Rattle.ap_exec.specs.Acting.{act_of}
use Rattle.ap_exec.specs.Starting.{start_of}
use Rattle.ap_chunk.specs.Carrying.{Held, Step, Gives, Stops, carried, goes_on}
use Rattle.ap_chunk.specs.Choice.{unit_of}
use Rattle.ap_chunk.specs.Matches.{matched_of, blanks_of}
use Rattle.ap_chunk.specs.Parts.{unit, unit_part, chunk_part, part_of, parts_of, word_of}
use Rattle.ap_chunk.specs.Patterns.{pattern_of, patterns_of}
use Rattle.ap_chunk.specs.Stages.{span, choice, acted_step, rule_step, unmatched_step, chosen_step, is_overfull, tested_step, chunk_step, chunked, chunked_by, transferred_text, interchunked_text, postchunked_text, lone_step}
use Rattle.ap_chunk.specs.Tests.{row_of}
use Rattle.ap_chunk.specs.Unmatched.{unmatched_text}
use Rattle.ap_chunk.specs.declared.choice.Choice.{Choice}

plain_patterns : (rules : List Rule) → map pattern_of rules
    ≡ map (λ (rule : PlainRule). map (λ item. item.n) rule.pattern) (map plain_rule rules)
plain_patterns [] = refl
plain_patterns (rule ∷ rules) = ap (λ more. pattern_of rule ∷ more) (plain_patterns rules)

-- steps that are the same give the same
goes_on_same : (place : ℕ) (step : Step) (a b : ℕ → Held → Told) →
    ((n : ℕ) (held : Held) → a n held ≡ b n held) → goes_on place step a ≡ goes_on place step b
goes_on_same place (Gives n text vars) a b h = ap (behind text) (h (pred n) vars)
goes_on_same place (Stops kind) a b h = refl

carried_same : (a b : Held → List Read → Step) →
    ((vars : Held) (items : List Read) → a vars items ≡ b vars items) → (vars : Held) (skip : ℕ)
    (items : List Read) → carried a vars skip items ≡ carried b vars skip items
unfolding carried
carried_same a b h vars skip [] = refl
carried_same a b h vars (suc skip) (read ∷ items) = carried_same a b h vars skip items
carried_same a b h vars zero (read ∷ items) =
    ap (λ step. goes_on read.place step (λ n held. carried a held n items))
    (h vars (read ∷ items))
    ∙ goes_on_same read.place (b vars (read ∷ items)) (λ n held. carried a held n items)
    (λ n held. carried b held n items) (λ n held. carried_same a b h held n items)

module _ (r s : Rules) (same : plain_rules r ≡ plain_rules s) where
  form_same : r.form ≡ s.form
  form_same = ap (λ (p : PlainRules). p.form) same

  default_same : r.default ≡ s.default
  default_same = ap (λ (p : PlainRules). p.default) same

  categories_same : r.categories ≡ s.categories
  categories_same = ap (λ (p : PlainRules). p.categories) same

  variables_same : r.variables ≡ s.variables
  variables_same = ap (λ (p : PlainRules). p.variables) same

  patterns_same : patterns_of r ≡ patterns_of s
  patterns_same = plain_patterns r.rules.items
      ∙ ap (λ (p : PlainRules). map (λ (rule : PlainRule). map (λ item. item.n) rule.pattern)
      p.rules) same ∙ sym (plain_patterns s.rules.items)

  row_same : (word : List Symbol) → row_of r word ≡ row_of s word
  row_same word = rw (form_same, categories_same) refl

  unit_part_same : (form : Form) (words : List (List Symbol)) →
      unit_part r form words ≡ unit_part s form words
  unit_part_same Transfer words = ap (λ row. unit (unit_of row)) (row_same (word_of 0 words))
  unit_part_same Interchunk words = refl
  unit_part_same Postchunk words = refl

  chunk_part_same : (form : Form) (name : List Symbol) →
      chunk_part r form name ≡ chunk_part s form name
  chunk_part_same Transfer name = refl
  chunk_part_same Interchunk name = ap (λ row. unit (unit_of row)) (row_same name)
  chunk_part_same Postchunk name = ap (λ row. unit (unit_of row)) (row_same name)

  part_same : (thing : Item) → part_of r thing ≡ part_of s thing
  part_same (Plain c) = refl
  part_same (Blank bytes) = refl
  part_same (Unit words) = unit_part_same r.form words
      ∙ ap (λ form. unit_part s form words) form_same
  part_same (Chunk c) = chunk_part_same r.form c.name
      ∙ ap (λ form. chunk_part s form c.name) form_same

  parts_same : (items : List Read) → parts_of r items ≡ parts_of s items
  parts_same [] = refl
  parts_same (read ∷ items) = ap (λ part. part ∷ parts_of r items) (part_same read.item)
      ∙ ap (λ parts. part_of s read.item ∷ parts) (parts_same items)

  span_same : (items : List Read) → span r items ≡ span s items
  unfolding span
  span_same items = rw (patterns_same, parts_same items) refl

  choice_same : (items : List Read) → choice r items ≡ choice s items
  unfolding choice
  choice_same items = rw (patterns_same, parts_same items) refl

  unmatched_same : (thing : Item) → unmatched_text r thing ≡ unmatched_text s thing
  unmatched_same (Plain c) = refl
  unmatched_same (Blank bytes) = refl
  unmatched_same (Unit words) = rw (form_same, default_same) refl
  unmatched_same (Chunk c) = rw form_same refl

  unmatched_step_same : (vars : Held) (items : List Read) →
      unmatched_step r vars items ≡ unmatched_step s vars items
  unmatched_step_same vars [] = refl
  unmatched_step_same vars (read ∷ items) = ap (lone_step vars) (unmatched_same read.item)

  rule_step_same : (rule : ℕ) (vars : Held) (items : List Read) →
      rule_step r rule vars items ≡ rule_step s rule vars items
  rule_step_same rule vars items = ap (λ (p : PlainRules). acted_step (length items)
      (blanks_of items) (act_of p rule (matched_of p.form items) vars)) same

  chosen_step_same : (vars : Held) (items : List Read) (chosen : Option Choice) →
      chosen_step r vars items chosen ≡ chosen_step s vars items chosen
  chosen_step_same vars items None = unmatched_step_same vars items
  chosen_step_same vars items (Some c) =
      rw (unmatched_step_same vars items, parts_same items, rule_step_same c.rule vars) refl

  tested_same : (vars : Held) (items : List Read) →
      tested_step r vars items ≡ tested_step s vars items
  tested_same vars items =
      ap (λ (f : Form). if is_overfull f items then Stops limit.UnitTooLong else
      chosen_step r vars items (choice r items)) form_same
      ∙ ap (λ (c : Option Choice). if is_overfull s.form items then Stops limit.UnitTooLong else
      chosen_step r vars items c) (choice_same items)
      ∙ ap (λ (x : Step). if is_overfull s.form items then Stops limit.UnitTooLong else x)
      (chosen_step_same vars items (choice s items))

  step_same : (vars : Held) (items : List Read) →
      chunk_step r vars items ≡ chunk_step s vars items
  unfolding chunk_step
  step_same vars items =
      ap (λ (n : ℕ). if nat_lt span_max (bytes_of (take n items)) then Stops limit.SpanTooLong else
      tested_step r vars items) (span_same items)
      ∙ ap (λ (x : Step). if nat_lt span_max (bytes_of (take (span s items) items)) then
      Stops limit.SpanTooLong else x) (tested_same vars items)

  start_same : start_of r ≡ start_of s
  start_same = rw variables_same refl

  chunked_same : (items : List Read) →
      chunked r (start_of r) items ≡ chunked s (start_of s) items
  chunked_same items = carried_same (chunk_step r) (chunk_step s) step_same (start_of r) 0 items
      ∙ ap (λ vars. chunked s vars items) start_same

  by_same : (read : Reads) (ending : Ending) → chunked_by r read ending ≡ chunked_by s read ending
  by_same read ending = ap (λ (t : Told). record {
    text = t.text;
    fault = or_else t.fault (stop_at ending read.stop);
  }) (chunked_same read.items)

  pub transferred_same : (text : List ℕ) (ending : Ending) →
      transferred_text r text ending ≡ transferred_text s text ending
  transferred_same text ending = by_same (reads Bilingual 0 text) ending

  pub interchunked_same : (text : List ℕ) (ending : Ending) →
      interchunked_text r text ending ≡ interchunked_text s text ending
  interchunked_same text ending = by_same (reads Chunked 0 text) ending

  pub postchunked_same : (text : List ℕ) (ending : Ending) →
      postchunked_text r text ending ≡ postchunked_text s text ending
  postchunked_same text ending = by_same (reads Chunked 0 text) ending
