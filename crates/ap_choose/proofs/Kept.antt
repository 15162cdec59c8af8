-- The readings of units are words of lexical units; choosing among them keeps superblanks, and what
-- is written is read on.
use Rattle.std.specs.Prelude.{◌≡◌, ℕ, zero, suc, ◌<◌, nat_lt, Bool, true, false, cond, List, [], ◌∷◌, ◌++◌, length, take, slice_index_or, None, refl}
use Rattle.std.proofs.Common.{arith, sym, subst, inl, inr}
use Rattle.std.proofs.lemmas.Bool.{cases_Bool}
use Rattle.ap_symbol.specs.declared.symbol.Symbol.{Symbol}
use Rattle.ap_stream.specs.Laws.{AreSpelt, EachSpelt, AreWords}
use Rattle.ap_stream.specs.Limits.{span_max}
use Rattle.ap_stream.specs.Pieces.{HasSuperblanks, nothing, plain, HaveSameSuperblanks, supers_of}
use Rattle.ap_stream.specs.ReadOn.{Links}
use Rattle.ap_stream.specs.Reading.{reads}
use Rattle.ap_stream.specs.Spelling.{spelled}
use Rattle.ap_stream.specs.Steps.{Gives, Stops, bytes_of}
use Rattle.ap_stream.specs.Supers.{blank_supers, item_supers}
use Rattle.ap_stream.specs.Told.{Clean}
use Rattle.ap_stream.specs.declared.dialect.Dialect.TheVariants.{Analysed, Lexical}
use Rattle.ap_stream.specs.declared.fault.LimitKind.TheVariants.{SpanTooLong}
use Rattle.ap_stream.specs.declared.item.Item.{Item}
use Rattle.ap_stream.specs.declared.item.Item.TheVariants as item
use Rattle.ap_stream.specs.declared.item.Read.{Read}
use Rattle.ap_stream.proofs.EachKept.{neither, unit_has_none}
use Rattle.ap_stream.proofs.Faults.{fault_fine, steps_fine}
use Rattle.ap_stream.proofs.Gives.{GivesPieces, gives_all, gives_read}
use Rattle.ap_stream.proofs.Joined.{joined, one_piece}
use Rattle.ap_stream.proofs.Rows.{IsRow, AreRead, reads_read, read_take, reads_have, supers_more}
use Rattle.ap_stream.proofs.StepsKept.{StepKeeps, steps_keep}
use Rattle.ap_passes.specs.Passes.{filled_one}
use Rattle.ap_choose.specs.Choice.{chosen_places}
use Rattle.ap_choose.specs.declared.forbidden.Pair.{Pair}
use Rattle.ap_choose.specs.Sentences.{reading_at, is_unit, units, begins_unit, unit_part, part, left, written, sentence_length, sentence_text, sentence_step, copied, choose_step, chosen, chosen_text}
use Rattle.ap_choose.proofs.ChooseSteps.{step_sentence, step_bare, length_is}

at_spelt : (words : List (List Symbol)) (place : ℕ) → EachSpelt words →
    AreSpelt false (slice_index_or words place [])
at_spelt [] place h = tt
at_spelt (word ∷ words) zero h = h.0
at_spelt (word ∷ words) (suc place) h = at_spelt words place h.1

reading_spelt : (words : List (List Symbol)) (place : ℕ) → AreWords Analysed words →
    AreSpelt false (reading_at words place)
reading_spelt [] place h = absurd h
reading_spelt (surface ∷ words) place h = at_spelt words place h.3

pub reading_reads : (words : List (List Symbol)) (place : ℕ) → 0 < length (reading_at words place) →
    AreWords Analysed words → AreWords Lexical (reading_at words place ∷ [])
reading_reads words place some h = (refl, some, reading_spelt words place h, tt, refl)

filled_none : (word : List Symbol) → AreSpelt false word →
    HasSuperblanks Lexical (filled_one word) []
filled_none [] h = nothing refl refl
filled_none (s ∷ word) h = unit_has_none Lexical ((s ∷ word) ∷ []) (refl, omega arith, h, tt, refl)

unit_none : (words : List (List Symbol)) (places : List ℕ) → AreWords Analysed words →
    HasSuperblanks Lexical (unit_part words places) []
unit_none words [] h = nothing refl refl
unit_none words (place ∷ places) h =
    filled_none (reading_at words place) (reading_spelt words place h)

part_has : (thing : Item) (places bytes : List ℕ) → IsRow Analysed thing bytes →
    HasSuperblanks Lexical (part thing places) (item_supers thing)
part_has (item.Plain c) places bytes h = one_piece Lexical (spelled (item.Plain c)) []
    (plain (record { character = c; code = h.0; allowed = λ e. h.1 e; spelled = refl }) refl)
part_has (item.Blank all) places bytes h =
    subst (λ (q : List ℕ). HasSuperblanks Lexical q (blank_supers 0 q)) (sym h.0) (h.1 Lexical)
part_has (item.Unit words) places bytes h = unit_none words places h.1
part_has (item.Chunk c) places bytes h = absurd h

written_has : (items : List Read) (places : List ℕ) → AreRead Analysed items →
    HasSuperblanks Lexical (written items places) (supers_of items)
written_has [] places h = nothing refl refl
written_has (read ∷ items) places h =
    subst (λ (q : List (List ℕ)). HasSuperblanks Lexical (part read.item places ++ written items
    (left read.item places)) q) (sym (supers_more read items))
    (joined Lexical (part read.item places) (written items (left read.item places))
    (item_supers read.item) (supers_of items) (part_has read.item places h.0.0 h.0.1)
    (written_has items (left read.item places) h.1))

pub some_length : (read : Read) (items : List Read) → 0 < sentence_length (read ∷ items)
some_length read items = let e = length_is (read ∷ items) in omega (arith, e)

sentence_keeps : (pairs : List Pair) (items : List Read) (n : ℕ) → AreRead Analysed items → 0 < n →
    StepKeeps Lexical items (sentence_step pairs items n)
sentence_keeps pairs items n h some = by (nat_lt span_max (bytes_of (take n items)))
  where
    by : (b : Bool) → StepKeeps Lexical items
        (cond b (Stops SpanTooLong) (Gives n (sentence_text pairs (take n items))))
    by true = tt
    by false = (
      some,
      written_has (take n items) (chosen_places pairs (units (take n items)))
          (read_take Analysed n items h),
    )

copied_keeps : (read : Read) (items : List Read) → AreRead Analysed (read ∷ items) →
    is_unit read.item ≡ false → StepKeeps Lexical (read ∷ items) (copied (read ∷ items))
copied_keeps read items h e =
    let one : HasSuperblanks Lexical (spelled read.item) (item_supers read.item) =
    same read.item e (part_has read.item [] h.0.0 h.0.1) in
    let both : HasSuperblanks Lexical (spelled read.item ++ []) (item_supers read.item ++ []) =
    joined Lexical (spelled read.item) [] (item_supers read.item) [] one (nothing refl refl) in (
      omega arith,
      subst (λ (q : List (List ℕ)). HasSuperblanks Lexical (spelled read.item ++ []) q)
          (sym (supers_more read [])) both,
    )
  where
    same : (thing : Item) → is_unit thing ≡ false →
        HasSuperblanks Lexical (part thing []) (item_supers thing) →
        HasSuperblanks Lexical (spelled thing) (item_supers thing)
    same (item.Plain c) e h = h
    same (item.Blank bytes) e h = h
    same (item.Unit words) e h = absurd (cc)
    same (item.Chunk c) e h = h

step_keeps : (pairs : List Pair) (read : Read) (items : List Read) →
    AreRead Analysed (read ∷ items) →
    StepKeeps Lexical (read ∷ items) (choose_step pairs (read ∷ items))
step_keeps pairs read items h = elim (cases_Bool (begins_unit (read ∷ items))) [
  | inl t ↦ subst (StepKeeps Lexical (read ∷ items)) (sym (step_sentence pairs (read ∷ items) t))
      (sentence_keeps pairs (read ∷ items) (sentence_length (read ∷ items)) h
      (some_length read items))
  | inr f ↦ subst (StepKeeps Lexical (read ∷ items)) (sym (step_bare pairs (read ∷ items) f))
      (copied_keeps read items h f)
]

chosen_gives : (pairs : List Pair) (text : List ℕ) →
    GivesPieces Lexical (chosen pairs (reads Analysed 0 text).items)
    (supers_of (reads Analysed 0 text).items)
chosen_gives pairs text = steps_keep Analysed Lexical (choose_step pairs) (step_keeps pairs) 0
    (reads Analysed 0 text).items (reads_read Analysed 0 text)

pub choose_keeps : (pairs : List Pair) (text : List ℕ) → (chosen_text pairs text Clean).fault
    ≡ None → HaveSameSuperblanks Analysed Lexical text (chosen_text pairs text Clean).text
choose_keeps pairs text e =
    let n = neither (chosen pairs (reads Analysed 0 text).items).fault (reads Analysed 0 text).stop
    e in
    record {
      superblanks = supers_of (reads Analysed 0 text).items;
      before = reads_have Analysed 0 text n.1;
      after = gives_all Lexical (chosen pairs (reads Analysed 0 text).items)
          (supers_of (reads Analysed 0 text).items) (chosen_gives pairs text) n.0;
    }

pub choose_read : (pairs : List Pair) → Links Analysed Lexical (chosen_text pairs)
choose_read pairs = record {
  taken = λ text h. fault_fine (chosen pairs (reads Analysed 0 text).items).fault
      (reads Analysed 0 text).stop
      (steps_fine (choose_step pairs) 0 (reads Analysed 0 text).items) h;
  written = λ text ending. gives_read Lexical (chosen pairs (reads Analysed 0 text).items)
      (supers_of (reads Analysed 0 text).items) (chosen_gives pairs text);
}
