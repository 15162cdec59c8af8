-- Without forbidden pairs the first readings are chosen.
use Rattle.std.specs.Prelude.{◌≡◌, ℕ, zero, suc, pred, ◌<◌, nat_lt, Bool, true, false, not, ◌&&◌, cond, List, [], ◌∷◌, ◌++◌, map, take, drop, Option, Some, None, refl}
use Rattle.std.specs.List.{filter, flat_map}
use Rattle.std.proofs.Common.{arith, ap, sym, subst, ◌∙◌, inl, inr, append_assoc}
use Rattle.std.proofs.lemmas.Bool.{cases_Bool}
use Rattle.std.proofs.lemmas.List.{take-append-drop}
use Rattle.ap_stream.specs.Each.{each, item_text, is_over}
use Rattle.ap_stream.specs.Limits.{span_max}
use Rattle.ap_stream.specs.Reading.{reads}
use Rattle.ap_stream.specs.Spelling.{spelled}
use Rattle.ap_stream.specs.Steps.{Step, Gives, Stops, goes_on, steps, bytes_of}
use Rattle.ap_stream.specs.Told.{Clean, behind, ends_in}
use Rattle.ap_stream.specs.declared.dialect.Dialect.TheVariants.{Analysed}
use Rattle.ap_stream.specs.declared.fault.LimitKind.TheVariants.{SpanTooLong, UnitTooLong}
use Rattle.ap_stream.specs.declared.fault.StreamFault.TheVariants.{Limit}
use Rattle.ap_stream.specs.declared.item.Item.{Item}
use Rattle.ap_stream.specs.declared.item.Item.TheVariants as item
use Rattle.ap_stream.specs.declared.item.Read.{Read}
use Rattle.ap_stream.proofs.EachKept.{neither}
use Rattle.ap_stream.proofs.Rows.{IsRow, AreRead, reads_read, read_take}
use Rattle.ap_stream.proofs.StepLaws.{drop_after}
use Rattle.ap_passes.specs.Passes.{first_reading, first_pass}
use Rattle.ap_choose.specs.Choice.{Reading, bars, bars_tags, choices, firsts, is_allowed, first_row, chosen_places}
use Rattle.ap_choose.specs.Sentences.{is_unit, unit_of, units, begins_unit, part, left, written, sentence_length, sentence_text, sentence_step, copied, choose_step, chosen, chosen_text}
use Rattle.ap_choose.proofs.ChooseSteps.{step_sentence, step_bare}
use Rattle.ap_choose.proofs.Kept.{some_length}

none_barred : (a b : Option (List ℕ)) → bars_tags [] a b ≡ false
none_barred None b = refl
none_barred (Some a) None = refl
none_barred (Some a) (Some b) = refl

all_allowed : (row : List Reading) → is_allowed (bars []) row ≡ true
all_allowed [] = refl
all_allowed (one ∷ []) = refl
all_allowed (one ∷ next ∷ row) = ap (λ (b : Bool). not b && is_allowed (bars []) (next ∷ row))
    (none_barred one.tag next.tag) ∙ all_allowed (next ∷ row)

filter_whole : {X : Type 0} (p : X → Bool) (xs : List X) → ((x : X) → p x ≡ true) → filter p xs ≡ xs
filter_whole p [] h = refl
filter_whole {X} p (x ∷ xs) h = ap (λ (b : Bool). cond b (x ∷ filter p xs) (filter p xs)) (h x)
    ∙ ap (λ (q : List X). x ∷ q) (filter_whole p xs h)

-- the first of all choices

none_follow : (unit : List Reading) → flat_map (λ one. map (λ row. one ∷ row) []) unit ≡ []
none_follow [] = refl
none_follow (one ∷ unit) = none_follow unit

first_by : (one : Reading) (unit : List Reading) (other : List Reading) (rows : List (List Reading))
    → first_row other rows ≡ other →
    first_row (one ∷ other) (flat_map (λ one. map (λ row. one ∷ row) rows) (one ∷ unit))
    ≡ one ∷ other
first_by one unit other [] e = ap (first_row (one ∷ other)) (none_follow unit)
first_by one unit other (row ∷ rows) e = ap (λ (q : List Reading). one ∷ q) e

first_is : (units : List (List Reading)) → first_row (firsts units) (choices units) ≡ firsts units
first_is [] = refl
first_is ([] ∷ units) = refl
first_is ((one ∷ unit) ∷ units) = first_by one unit (firsts units) (choices units) (first_is units)

places_are : (units : List (List Reading)) → chosen_places [] units ≡ map (λ reading. reading.place)
    (firsts units)
unfolding chosen_places
places_are units =
    ap (λ (rows : List (List Reading)). map (λ reading. reading.place)
    (first_row (firsts units) rows)) (filter_whole (is_allowed (bars []))
    (choices units) all_allowed)
    ∙ ap (λ (row : List Reading). map (λ reading. reading.place) row) (first_is units)

-- what the items give, one by one
abbrev texts : List Read → List ℕ
texts [] = []
texts (read ∷ items) = item_text first_reading read.item ++ texts items

firsts_written : (items : List Read) → AreRead Analysed items →
    written items (map (λ reading. reading.place) (firsts (units items))) ≡ texts items
firsts_written [] h = refl
firsts_written (read ∷ items) h = by read.item h.0 (firsts_written items h.1)
  where
    by : (thing : Item) → (bytes : List ℕ) × IsRow Analysed thing bytes →
        written items (map (λ reading. reading.place) (firsts (units items))) ≡ texts items
        → part thing (map (λ reading. reading.place)
        (firsts (unit_of thing ++ units items))) ++ written items
        (left thing (map (λ reading. reading.place) (firsts (unit_of thing ++ units items))))
        ≡ item_text first_reading thing ++ texts items
    by (item.Plain c) r e = ap (λ (q : List ℕ). spelled (item.Plain c) ++ q) e
    by (item.Blank bytes) r e = ap (λ (q : List ℕ). bytes ++ q) e
    by (item.Unit []) r e = absurd r.1.1
    by (item.Unit (surface ∷ [])) r e = absurd (let k = r.1.1.4 in cc)
    by (item.Unit (surface ∷ reading ∷ words)) r e =
        ap (λ (q : List ℕ). first_reading (surface ∷ reading ∷ words) ++ q) e
    by (item.Chunk c) r e = absurd r.1

sentence_firsts : (items : List Read) → AreRead Analysed items →
    sentence_text [] items ≡ texts items
sentence_firsts items h = ap (written items) (places_are (units items)) ∙ firsts_written items h

abbrev StepGives : List Read → Step → Type 0
StepGives items (Gives n text) = (0 < n) × (text ≡ texts (take n items))
StepGives items (Stops kind) = Unit {0}

sentence_gives : (items : List Read) (n : ℕ) → AreRead Analysed items → 0 < n →
    StepGives items (sentence_step [] items n)
sentence_gives items n h some = by (nat_lt span_max (bytes_of (take n items)))
  where
    by : (b : Bool) → StepGives items
        (cond b (Stops SpanTooLong) (Gives n (sentence_text [] (take n items))))
    by true = tt
    by false = (some, sentence_firsts (take n items) (read_take Analysed n items h))

copied_gives : (read : Read) (items : List Read) → is_unit read.item ≡ false →
    StepGives (read ∷ items) (copied (read ∷ items))
copied_gives read items e = (omega arith, ap (λ (q : List ℕ). q ++ []) (same read.item e))
  where
    same : (thing : Item) → is_unit thing ≡ false → spelled thing ≡ item_text first_reading thing
    same (item.Plain c) e = refl
    same (item.Blank bytes) e = refl
    same (item.Unit words) e = absurd (cc)
    same (item.Chunk c) e = refl

step_gives : (read : Read) (items : List Read) → AreRead Analysed (read ∷ items) →
    StepGives (read ∷ items) (choose_step [] (read ∷ items))
step_gives read items h = elim (cases_Bool (begins_unit (read ∷ items))) [
  | inl t ↦ subst (StepGives (read ∷ items)) (sym (step_sentence [] (read ∷ items) t))
      (sentence_gives (read ∷ items) (sentence_length (read ∷ items)) h (some_length read items))
  | inr f ↦ subst (StepGives (read ∷ items)) (sym (step_bare [] (read ∷ items) f))
      (copied_gives read items f)
]

texts_append : (a b : List Read) → texts (a ++ b) ≡ texts a ++ texts b
texts_append [] b = refl
texts_append (read ∷ a) b = ap (λ (q : List ℕ). item_text first_reading read.item ++ q)
    (texts_append a b) ∙ sym (append_assoc (item_text first_reading read.item) (texts a) (texts b))

abbrev GoesFirst : ℕ → List Read → Type 0
GoesFirst skip items = (steps (choose_step []) skip items).fault ≡ None →
    (steps (choose_step []) skip items).text ≡ texts (drop skip items)

goes_first : (read : Read) (items : List Read) (step : Step) → StepGives (read ∷ items) step →
    ((n : ℕ) → GoesFirst n items)
    → (goes_on read.place step (λ n. steps (choose_step []) n items)).fault ≡ None →
    (goes_on read.place step (λ n. steps (choose_step []) n items)).text ≡ texts (read ∷ items)
goes_first read items (Gives n text) k go e =
    let on = go (pred n) e in
    let cut : take n (read ∷ items) ++ drop (pred n) items ≡ read ∷ items =
    ap (λ (q : List Read). take n (read ∷ items) ++ q) (drop_after read items n k.0)
    ∙ take-append-drop n (read ∷ items) in
    ap (λ (q : List ℕ). q ++ (steps (choose_step []) (pred n) items).text) k.1
    ∙ ap (λ (q : List ℕ). texts (take n (read ∷ items)) ++ q) on
    ∙ sym (texts_append (take n (read ∷ items)) (drop (pred n) items)) ∙ ap texts cut
goes_first read items (Stops kind) k go e = absurd (cc)

steps_first : (skip : ℕ) (items : List Read) → AreRead Analysed items → GoesFirst skip items
unfolding steps
steps_first zero [] h e = refl
steps_first (suc skip) [] h e = refl
steps_first (suc skip) (read ∷ items) h e = steps_first skip items h.1 e
steps_first zero (read ∷ items) h e = goes_first read items (choose_step [] (read ∷ items))
    (step_gives read items h) (λ n. steps_first n items h.1) e

each_first : (items : List Read) → (each first_reading items).fault ≡ None →
    (each first_reading items).text ≡ texts items
each_first [] e = refl
each_first (read ∷ items) e = by (is_over first_reading read.item) (each_first items) e
  where
    by : (b : Bool) → ((each first_reading items).fault ≡ None → (each first_reading items).text
        ≡ texts items)
        → (cond b (ends_in [] (Limit UnitTooLong read.place))
        (behind (item_text first_reading read.item) (each first_reading items))).fault ≡ None
        → (cond b (ends_in [] (Limit UnitTooLong read.place))
        (behind (item_text first_reading read.item) (each first_reading items))).text
        ≡ item_text first_reading read.item ++ texts items
    by true go e = absurd (cc)
    by false go e = ap (λ (q : List ℕ). item_text first_reading read.item ++ q) (go e)

pub no_pairs_first : (text : List ℕ) → (chosen_text [] text Clean).fault ≡ None →
    (first_pass text Clean).fault ≡ None → (chosen_text [] text Clean).text
    ≡ (first_pass text Clean).text
no_pairs_first text e f =
    let n = neither (chosen [] (reads Analysed 0 text).items).fault (reads Analysed 0 text).stop
    e in
    let m = neither (each first_reading (reads Analysed 0 text).items).fault
    (reads Analysed 0 text).stop f in
    steps_first 0 (reads Analysed 0 text).items (reads_read Analysed 0 text) n.0
    ∙ sym (each_first (reads Analysed 0 text).items m.0)
