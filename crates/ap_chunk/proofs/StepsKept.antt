-- Steps keep superblanks, where what rules give is as it should be.
use Rattle.std.specs.Prelude.{◌≡◌, ℕ, zero, suc, pred, ◌<◌, nat_lt, Bool, true, false, List, [], ◌∷◌, ◌++◌, length, take, drop, Option, Some, None, Ok, Err, refl, if◌then◌else◌}
use Rattle.std.proofs.Common.{arith, ap, sym, subst, ◌∙◌, inl, inr}
use Rattle.std.proofs.lemmas.Bool.{cases_lt, cases_Bool}
use Rattle.std.proofs.lemmas.Grind.{flat_map-append}
use Rattle.std.proofs.lemmas.List.{append-nil, take-append-drop, length-take}
use Rattle.ap_stream.specs.Laws.{EachSpelt}
use Rattle.ap_stream.specs.Limits.{span_max, unit_max}
use Rattle.ap_stream.specs.Pieces.{HasSuperblanks, HaveSameSuperblanks, supers_of}
use Rattle.ap_stream.specs.ReadOn.{IsReadOn}
use Rattle.ap_stream.specs.Reading.{reads}
use Rattle.ap_stream.specs.Steps.{bytes_of}
use Rattle.ap_stream.specs.Supers.{item_supers}
use Rattle.ap_stream.specs.Told.{Told, Clean, behind}
use Rattle.ap_stream.specs.declared.dialect.Dialect.{Dialect}
use Rattle.ap_stream.specs.declared.dialect.Dialect.TheVariants.{Lexical}
use Rattle.ap_stream.specs.declared.fault.LimitKind.TheVariants as limit
use Rattle.ap_stream.specs.declared.fault.StreamFault.TheVariants.{Limit}
use Rattle.ap_stream.specs.declared.item.Read.{Read}
use Rattle.ap_stream.proofs.EachKept.{neither}
use Rattle.ap_stream.proofs.Gives.{GivesPieces, gives_none, gives_end, gives_behind, gives_all, gives_read}
use Rattle.ap_stream.proofs.Rows.{reads_have, supers_more}
use Rattle.ap_stream.proofs.StepLaws.{drop_after}
use Rattle.ap_rules.specs.Views.{plain_rules}
use Rattle.ap_rules.specs.declared.rules.DefaultPiece.{DefaultPiece}
use Rattle.ap_rules.specs.declared.rules.DefaultPiece.TheVariants as default
use Rattle.ap_rules.specs.declared.rules.Rules.{Rules}
use Rattle.ap_exec.specs.Acting.{act_of, Outcome}
use Rattle.ap_exec.specs.Filling.{marks, filled, is_over, within_span}
use Rattle.ap_exec.specs.FillingLaws.{supers_in}
use Rattle.ap_exec.specs.Results.{Ran}
use Rattle.ap_exec.specs.Starting.{start_of}
use Rattle.ap_exec.specs.declared.template.Piece.{Piece}
use Rattle.ap_exec.specs.Results.{OutputTooLong}
use Rattle.ap_chunk.specs.Carrying.{Held, Step, Gives, Stops, goes_on, carried}
use Rattle.ap_chunk.specs.Laws.{MayGive, given_dialect}
use Rattle.ap_chunk.specs.Matches.{matched_of, blanks_of}
use Rattle.ap_chunk.specs.Parts.{parts_of, taken_by}
use Rattle.ap_chunk.specs.Stages.{span, choice, dialect_of, filled_step, acted_step, rule_step, unmatched_step, chosen_step, is_overfull, tested_step, chunk_step, chunked, chunked_by}
use Rattle.ap_chunk.specs.Unmatched.{unmatched_text}
use Rattle.ap_chunk.specs.declared.choice.Choice.{Choice}
use Rattle.ap_chunk.proofs.ChunkSteps.{step_over, step_within, tested_by, chosen_some, chosen_empty, taken_some, parts_length}
use Rattle.ap_chunk.proofs.ChunksFilled.{AreGood, chunks_filled}
use Rattle.ap_chunk.proofs.FilledKept.{HaveOwn, filled_keeps}
use Rattle.ap_chunk.proofs.ItemsRead.{IsKnown, AreKnown, reads_known, known_take, blank_supers_of, read_blanks}
use Rattle.ap_chunk.proofs.UnmatchedKept.{given_by, written_by, unmatched_kept}

-- what a template with its slots filled has

own_all : (blanks : List (List ℕ)) → AreGood blanks → HaveOwn blanks
own_all [] h = tt
own_all (b ∷ blanks) h = (h.0.1 Lexical, own_all blanks h.1)

filled_has : (d : DefaultPiece) (template : List Piece) (blanks : List (List ℕ)) →
    MayGive d template → AreGood blanks →
    HasSuperblanks (given_dialect d) (filled (marks template) blanks) (supers_in blanks)
filled_has default.Lu template blanks h k = filled_keeps template blanks h (own_all blanks k)
filled_has default.Chunk template blanks h k = chunks_filled template blanks h k

take_own : (k : ℕ) (items : List Read) → take (length (take k items)) items ≡ take k items
take_own zero items = refl
take_own (suc k) [] = refl
take_own (suc k) (read ∷ items) = ap (λ (q : List Read). read ∷ q) (take_own k items)

within_is : (bytes : List ℕ) →
    within_span bytes ≡ (if is_over bytes then Err OutputTooLong else Ok bytes)
unfolding within_span
within_is bytes = refl

-- a step uses items, and keeps their superblanks; and what it leaves in the variables can be
-- written
abbrev StepKept : Dialect → List Read → Step → Type 0
StepKept to items (Gives n text vars) = (0 < n)
    × HasSuperblanks to text (supers_of (take n items)) × EachSpelt vars
StepKept to items (Stops kind) = Unit {0}

-- What rules give of items that were read: pieces of their dialect, and variables that can be
-- written.
abbrev pub GiveRead : Rules → Type 0
GiveRead rules = (rule : ℕ) (taken : List Read) (vars : Held) (o : Outcome) →
    AreKnown (dialect_of rules.form) taken → EachSpelt vars →
    act_of (plain_rules rules) rule (matched_of rules.form taken) vars ≡ Ok o →
    MayGive (given_by rules.form rules.default) o.pieces × EachSpelt o.vars

module _ (rules : Rules) (gives : GiveRead rules) where
  abbrev from : Dialect
  from = dialect_of rules.form

  abbrev to : Dialect
  to = written_by rules.form rules.default

  lone_keeps : (vars : Held) (read : Read) (items : List Read) → EachSpelt vars →
      IsKnown from read → (v : Bool) → StepKept to (read ∷ items)
      (if v then Stops limit.UnitTooLong else Gives 1 (unmatched_text rules read.item) vars)
  lone_keeps vars read items s h true = tt
  lone_keeps vars read items s h false = (
    omega arith,
    subst (λ (q : List (List ℕ)). HasSuperblanks to (unmatched_text rules read.item) q)
        (sym (supers_more read [] ∙ append-nil (item_supers read.item)))
        (unmatched_kept rules read.item h.0.0 h.0.1),
    s,
  )

  unmatched_keeps : (vars : Held) (items : List Read) → EachSpelt vars → AreKnown from items →
      0 < length items → StepKept to items (unmatched_step rules vars items)
  unmatched_keeps vars [] s h some = absurd (omega (arith, some))
  unmatched_keeps vars (read ∷ items) s h some = lone_keeps vars read items s h.0
      (nat_lt unit_max (length (unmatched_text rules read.item)))

  module _ (items : List Read) (h : AreKnown from items) (k : ℕ)
      (some : 0 < length (take k items)) where
    filled_kept : (vars : Held) (bytes : List ℕ) → EachSpelt vars →
        HasSuperblanks to bytes (supers_of (take k items)) → (v : Bool) → StepKept to items
        (filled_step (length (take k items)) vars (if v then Err OutputTooLong else Ok bytes))
    filled_kept vars bytes s has true = tt
    filled_kept vars bytes s has false = (
      some,
      subst (λ (q : List Read). HasSuperblanks to bytes (supers_of q)) (sym (take_own k items)) has,
      s,
    )

    acted_kept : (ran : Ran Outcome) → ((o : Outcome) → ran ≡ Ok o →
        MayGive (given_by rules.form rules.default) o.pieces × EachSpelt o.vars) →
        StepKept to items (acted_step (length (take k items)) (blanks_of (take k items)) ran)
    acted_kept (Err e) g = tt
    acted_kept (Ok o) g =
        let both = g o refl in
        let there = known_take from k items h in
        let bytes = filled (marks o.pieces) (blanks_of (take k items)) in
        let has : HasSuperblanks to bytes (supers_of (take k items)) =
        subst (λ (q : List (List ℕ)). HasSuperblanks to bytes q)
        (sym (blank_supers_of (take k items)))
        (filled_has (given_by rules.form rules.default) o.pieces (blanks_of (take k items)) both.0
        (read_blanks from (take k items) there)) in
        subst (λ (r : Ran (List ℕ)). StepKept to items
        (filled_step (length (take k items)) o.vars r))
        (sym (within_is bytes)) (filled_kept o.vars bytes both.1 has (is_over bytes))

    rule_kept : (rule : ℕ) (vars : Held) → EachSpelt vars →
        StepKept to items (rule_step rules rule vars (take k items))
    rule_kept rule vars s =
        acted_kept (act_of (plain_rules rules) rule (matched_of rules.form (take k items)) vars)
        (λ o e. gives rule (take k items) vars o (known_take from k items h) s e)

  module _ (vars : Held) (items : List Read) (s : EachSpelt vars) (h : AreKnown from items)
      (some : 0 < length items) where
    chosen_kept : (o : Option Choice) → StepKept to items (chosen_step rules vars items o)
    chosen_kept None = unmatched_keeps vars items s h some
    chosen_kept (Some c) = elim (cases_lt 0 c.size) [
      | inl lt ↦
          let l = parts_length rules items in
          let t = taken_some c.size (parts_of rules items) lt (omega (arith, l, some)) in
          let k = taken_by c.size (parts_of rules items) in
          let n = length-take k items in
          subst (StepKept to items) (sym (chosen_some rules vars items c lt))
          (rule_kept items h k (omega (arith, n, t, some)) c.rule vars s)
      | inr le ↦ subst (StepKept to items)
          (sym (chosen_empty rules vars items c (omega (arith, le))))
          (unmatched_keeps vars items s h some)
    ]

    tested_kept : StepKept to items (tested_step rules vars items)
    tested_kept = elim (cases_Bool (is_overfull rules.form items)) [
      | inl t ↦ subst (StepKept to items) (sym (tested_by rules vars items true t)) tt
      | inr e ↦ subst (StepKept to items) (sym (tested_by rules vars items false e))
          (chosen_kept (choice rules items))
    ]

    first_kept : StepKept to items (chunk_step rules vars items)
    first_kept = elim (cases_lt span_max (bytes_of (take (span rules items) items))) [
      | inl long ↦ subst (StepKept to items) (sym (step_over rules vars items long)) tt
      | inr short ↦ subst (StepKept to items) (sym (step_within rules vars items short))
          tested_kept
    ]

  step_gives : (read : Read) (items : List Read) (step : Step) → StepKept to (read ∷ items) step →
      ((n : ℕ) (held : Held) → EachSpelt held →
      GivesPieces to (carried (chunk_step rules) held n items) (supers_of (drop n items)))
      → GivesPieces to (goes_on read.place step (λ n held. carried (chunk_step rules) held n items))
      (supers_of (read ∷ items))
  step_gives read items (Gives n text held) k go =
      let cut : take n (read ∷ items) ++ drop (pred n) items ≡ read ∷ items =
      ap (λ (q : List Read). take n (read ∷ items) ++ q) (drop_after read items n k.0)
      ∙ take-append-drop n (read ∷ items) in
      let all : supers_of (take n (read ∷ items)) ++ supers_of (drop (pred n) items)
      ≡ supers_of (read ∷ items) =
      sym (flat_map-append (λ (r : Read). item_supers r.item) (take n (read ∷ items))
      (drop (pred n) items)) ∙ ap supers_of cut in
      subst (GivesPieces to (behind text (carried (chunk_step rules) held (pred n) items))) all
      (gives_behind to text (carried (chunk_step rules) held (pred n) items)
      (supers_of (take n (read ∷ items))) (supers_of (drop (pred n) items)) k.1
      (go (pred n) held k.2))
  step_gives read items (Stops kind) k go =
      gives_end to (Limit kind read.place) (supers_of (read ∷ items))

  steps_give : (vars : Held) (skip : ℕ) (items : List Read) → EachSpelt vars →
      AreKnown from items →
      GivesPieces to (carried (chunk_step rules) vars skip items) (supers_of (drop skip items))
  unfolding carried
  steps_give vars zero [] s h = gives_none to
  steps_give vars (suc skip) [] s h = gives_none to
  steps_give vars (suc skip) (read ∷ items) s h = steps_give vars skip items s h.1
  steps_give vars zero (read ∷ items) s h =
      step_gives read items (chunk_step rules vars (read ∷ items))
      (first_kept vars (read ∷ items) s h (omega arith))
      (λ n held t. steps_give held n items t h.1)

  module _ (text : List ℕ) (s : EachSpelt (start_of rules)) where
    abbrev given : Told
    given = chunked rules (start_of rules) (reads from 0 text).items

    text_gives : GivesPieces to given (supers_of (reads from 0 text).items)
    text_gives = steps_give (start_of rules) 0 (reads from 0 text).items s (reads_known from text)

    -- what the stage writes of a text is read on
    pub stage_is_read : IsReadOn to given.text
    stage_is_read = gives_read to given (supers_of (reads from 0 text).items) text_gives

    -- where there is no fault, it has the superblanks of the text
    pub stage_keeps : (chunked_by rules (reads from 0 text) Clean).fault ≡ None →
        HaveSameSuperblanks from to text (chunked_by rules (reads from 0 text) Clean).text
    stage_keeps e =
        let n = neither given.fault (reads from 0 text).stop e in
        record {
          superblanks = supers_of (reads from 0 text).items;
          before = reads_have from 0 text n.1;
          after = gives_all to given (supers_of (reads from 0 text).items) text_gives n.0;
        }
