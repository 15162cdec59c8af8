-- Honest runs, and the first flaw: for every command at once.
use Rattle.std.proofs.Common.{◌≡◌, ℕ, ◌+◌, ◌-◌, ◌^◌, ◌<◌, ◌≤◌, List, [], ◌∷◌, ◌++◌, arith, subst, sym, ap, ◌∙◌, refl, inl, inr, ◌⊎◌, Option, Some, None, length, append-nil, length-append, append_assoc, take}
use Rattle.std.specs.Option.{option_map, IfSome}
use Rattle.std.proofs.lemmas.Bool.{le-ltb, lt-ltb}
use Rattle.std.proofs.lemmas.List.{take_all}
use Rattle.std.proofs.Math.Seq.{take-append-add}
use Rattle.ap_outside.specs.Causes.{Rose}
use Rattle.ap_outside.specs.Told.{Takes, IsEnd, Puts}
use Rattle.ap_dix.specs.declared.dictionary.Direction.{Direction}
use Rattle.ap_stream.specs.Told.{Ending as TextEnding}
use Rattle.ap_stream.specs.declared.fault.StreamFault.TheVariants as fault
use Rattle.ap_command.specs.Said.{Said, Entries, Sections, Rules}
use Rattle.ap_command.specs.declared.reading.Manner.{Manner}
use Rattle.ap_command.specs.declared.reading.Manner.TheVariants.{Made, Either, Chunking}
use Rattle.ap_command.specs.declared.reading.Reading.{Reading}
use Rattle.ap_command.specs.declared.status.Status.{Status}
use Rattle.ap_command.specs.declared.status.Status.TheVariants.{Done, FileFault, WriteFault, Memory}
use Rattle.ap_pipe.specs.declared.round.Intake.{Intake}
use Rattle.ap_pipe.specs.declared.round.Intake.TheVariants.{Open, Clean, Failed, TooLong as TooMuch}
use Rattle.ap_command.specs.declared.words.Command.{Command}
use Rattle.ap_command.specs.Words.{files_of, work_max}
use Rattle.ap_command.specs.Messages.{name_at}
use Rattle.ap_pipe.specs.Standing.{Standing}
use Rattle.ap_command.specs.Outside.{FilesStanding, Outside}
use Rattle.ap_pipe.specs.declared.TheConstants.{INPUT_MAX}
use Rattle.ap_pipe.specs.declared.round.Outcome.{Outcome as RowOutcome}
use Rattle.ap_pipe.specs.declared.round.Outcome.TheVariants as outcome
use Rattle.ap_pipe.specs.Row.{RowTold, meaning}
use Rattle.ap_pipe.specs.Answers.{ending_of as text_ending, outcome_of, outcome_fault}
use Rattle.ap_pipe.specs.Flow.{IsTaken, WentThrough, Came}
use Rattle.ap_command.specs.Rows.{Stage, Meaning, AreMeanings}
use Rattle.ap_command.specs.Gives.{Gives, Streams, Lists, Stores, Works, Nothing, gives_of, Making}
use Rattle.ap_command.specs.Listing.{IsListed}
use Rattle.ap_command.specs.Reading.{file_max, HasText, HoldsText, notation_of, IsAccepted, Flaw, TooLong, OfDictionary, OfCompiled, OfRules, status_of_flaw, IsFaultOf, IsFlawOf, IsMisfit, IsFirstMisfit, SpellsMisfit, IsFirstEmptyInput, made_way}
use Rattle.ap_command.specs.Stream.{status_of_outcome, row_status, FlowsOrStops}
use Rattle.ap_command.specs.Compiling.{StoresOrStops}
use Rattle.ap_command.specs.Working.{built_in, run_words, work_run, before_work, made_text, work_lines, of_built_in}
use Rattle.ap_command.specs.Answer.{AllOpen, Opens, Reaches, IsUnloaded, IsRefusal, IsUntouched, IsRun, IsStreamAnswer, bytes_of, IsReported, IsWorked, IsCommandAnswer, IsAnswer}
use Rattle.ap_command.specs.Account.{IsCalm, Holds, AllHold, AreCalm, Meets, IsServed, IsHonest, cut_input, ending_of, Outcome, row_outcome, failed_outcome, worked_outcome, IsRowOutcome, IsBuiltInRow, IsWorkOutcome, IsOutcome, Leaves, IsExact, IsComplete, GivesUp, RefusesFlawed}
use Rattle.ap_command.proofs.Entries.{first-input, one-input}
use Rattle.ap_command.proofs.OneReading.{Laws}
use Rattle.ap_command.proofs.Flowing.{no-more}
use Rattle.ap_command.proofs.Listings.{take-front}
use Rattle.ap_command.proofs.Making.{made-short}
use Rattle.ap_command.proofs.Sending.{Refused, Unloaded, Flawed, Starved, refused-so}
use Rattle.ap_command.proofs.Reasons.{by-command, stream-calm}
use Rattle.ap_command.proofs.Worked.{never-unloaded, nothing-put, undone-stays}

-- a count that is calm has not risen
calm-not-rose : (before now : ℕ) → IsCalm before now → Rose before now → ⊥
calm-not-rose before now c r = let e : now ≡ before = c.0 in let l : before < 2 ^ 64 - 1 = c.1
    in omega arith

-- what is told of the text of a file holds of that text
text-told : (files : FilesStanding) (name : List ℕ) (P Q : List ℕ → Type 0) →
    (h : HoldsText files name P) → HasText files name Q → Q h.text
text-told files name P Q h t =
    let u = subst (λ o. IfSome o (λ at. (text : List ℕ) × (at name ≡ Some text) × Q text)) h.told t
    in
    let same : u.0 ≡ h.text = (let x : Some u.0 ≡ Some h.text = sym u.1 ∙ h.there in cc) in
    subst Q same u.2

-- a text says one thing, or has one flaw
first-misfit : (manner : Manner) (content : Said) (flaw : Flaw) →
    IsFirstMisfit manner content flaw → IsMisfit manner content
first-misfit (Made way) content flaw f = first-input way content f.0 f.1
first-misfit (Either way) (Entries d) flaw f = first-input (made_way way) (Entries d) f.0 f.1
first-misfit (Either way) (Sections p) flaw f = f.0
first-misfit Chunking (Rules r) flaw f = f.0
first-misfit manner content flaw f = absurd f

one-line : (way : Direction) (content : Said) (line line' : ℕ) (e f : Flaw) →
    IsFirstEmptyInput way content line → IsFirstEmptyInput way content line' →
    e ≡ OfDictionary 13 line → f ≡ OfDictionary 13 line' → e ≡ f
one-line way content line line' e f p q a b =
    a ∙ ap (OfDictionary 13) (one-input way content line line' p q) ∙ sym b

one-misfit : (manner : Manner) (content : Said) (e f : Flaw) → IsFirstMisfit manner content e →
    IsFirstMisfit manner content f → e ≡ f
one-misfit (Made way) content e f p q = one-line way content p.0 q.0 e f p.1 q.1 p.2 q.2
one-misfit (Either way) (Entries d) e f p q =
    one-line (made_way way) (Entries d) p.0 q.0 e f p.1 q.1 p.2 q.2
one-misfit (Either way) (Sections s) e f p q = p.1 ∙ sym q.1
one-misfit Chunking (Rules r) e f p q = p.1 ∙ sym q.1
one-misfit manner content e f p q = absurd p

pub says-one : Laws → (manner : Manner) (text : List ℕ) (c d : Said) → IsAccepted manner text c →
    IsAccepted manner text d → c ≡ d
says-one laws manner text c d p q =
    laws.one (notation_of manner text) text c d p.says.spelled q.says.spelled

one-side : Laws → (manner : Manner) (text : List ℕ) (e f : Flaw) → SpellsMisfit manner text e →
    SpellsMisfit manner text f → e ≡ f
one-side laws manner text e f p q =
    let same : p.content ≡ q.content =
    laws.one (notation_of manner text) text p.content q.content p.spelled q.spelled in
    one-misfit manner q.content e f (subst (λ c. IsFirstMisfit manner c e) same p.first) q.first

one-fault-of : Laws → (manner : Manner) (text : List ℕ) (e f : Flaw) → IsFaultOf manner text e →
    IsFaultOf manner text f → e ≡ f
one-fault-of laws manner text e f (inl p) (inl q) =
    laws.one_fault (notation_of manner text) text e f p q
one-fault-of laws manner text e f (inl p) (inr q) =
    absurd (laws.no_fault (notation_of manner text) text q.content e q.spelled p)
one-fault-of laws manner text e f (inr p) (inl q) =
    absurd (laws.no_fault (notation_of manner text) text p.content f p.spelled q)
one-fault-of laws manner text e f (inr p) (inr q) = one-side laws manner text e f p q

abbrev IsFlawIn : Manner → List ℕ → Flaw → Type 0
IsFlawIn manner text flaw = ((flaw ≡ TooLong) × (file_max < length text))
    ⊎ ((length text ≤ file_max) × IsFaultOf manner text flaw)

flaw-in : (manner : Manner) (text : List ℕ) (flaw : Flaw) → IsFlawOf manner text flaw →
    IsFlawIn manner text flaw
flaw-in manner text TooLong h = inl (refl, h)
flaw-in manner text (OfDictionary n l) h = inr h
flaw-in manner text (OfCompiled n l) h = inr h
flaw-in manner text (OfRules n l) h = inr h

one-flaw-in : Laws → (manner : Manner) (text : List ℕ) (e f : Flaw) → IsFlawIn manner text e →
    IsFlawIn manner text f → e ≡ f
one-flaw-in laws manner text e f (inl p) (inl q) = p.0 ∙ sym q.0
one-flaw-in laws manner text e f (inl p) (inr q) =
    absurd (let a : file_max < length text = p.1 in let b : length text ≤ file_max = q.0
    in omega arith)
one-flaw-in laws manner text e f (inr p) (inl q) =
    absurd (let a : file_max < length text = q.1 in let b : length text ≤ file_max = p.0
    in omega arith)
one-flaw-in laws manner text e f (inr p) (inr q) = one-fault-of laws manner text e f p.1 q.1

pub one-flaw-of : Laws → (manner : Manner) (text : List ℕ) (e f : Flaw) → IsFlawOf manner text e →
    IsFlawOf manner text f → e ≡ f
one-flaw-of laws manner text e f p q =
    one-flaw-in laws manner text e f (flaw-in manner text e p) (flaw-in manner text f q)

no-fault-of : Laws → (manner : Manner) (text : List ℕ) (c : Said) (f : Flaw) →
    IsAccepted manner text c → IsFaultOf manner text f → ⊥
no-fault-of laws manner text c f a (inl p) =
    laws.no_fault (notation_of manner text) text c f a.says.spelled p
no-fault-of laws manner text c f a (inr p) =
    a.says.fits (first-misfit manner c f
    (subst (λ d. IsFirstMisfit manner d f)
    (laws.one (notation_of manner text) text p.content c p.spelled a.says.spelled) p.first))

no-flaw-in : Laws → (manner : Manner) (text : List ℕ) (c : Said) (f : Flaw) →
    IsAccepted manner text c → IsFlawIn manner text f → ⊥
no-flaw-in laws manner text c f a (inl p) = let s : length text ≤ file_max = a.short in
    let l : file_max < length text = p.1 in omega arith
no-flaw-in laws manner text c f a (inr p) = no-fault-of laws manner text c f a p.1

pub no-flaw-of : Laws → (manner : Manner) (text : List ℕ) (c : Said) (f : Flaw) →
    IsAccepted manner text c → IsFlawOf manner text f → ⊥
no-flaw-of laws manner text c f a p = no-flaw-in laws manner text c f a (flaw-in manner text f p)

-- files that are told and accepted are refused for want of memory alone, where no load failed
honest-refusal : Laws → (words : List (List ℕ)) (old new : FilesStanding) (r : Reading)
    (c : Said) (status : Status) → Holds words old r c →
    IsCalm (old.load_faults (name_at words r.place)) (new.load_faults (name_at words r.place)) →
    IsRefusal words old new status r → status ≡ Memory
honest-refusal laws words old new r c status h k (inl f) = absurd (calm-not-rose _ _ k f.1)
honest-refusal laws words old new r c status h k (inr (same, inl f)) =
    absurd (no-flaw-of laws r.manner h.text c f.0 h.has
    (text-told old (name_at words r.place) (λ text. IsAccepted r.manner text c)
    (λ text. IsFlawOf r.manner text f.0) h f.2))
honest-refusal laws words old new r c status h k (inr (same, inr m)) = m

honest-refused : Laws → (words : List (List ℕ)) (old new : FilesStanding) (rs : List Reading)
    (cs : List Said) (status : Status) → AllHold words old rs cs → AreCalm words old new rs →
    Reaches words old rs (λ r. IsRefusal words old new status r) → status ≡ Memory
honest-refused laws words old new [] cs status h k f = absurd f
honest-refused laws words old new (r ∷ rs) [] status h k f = absurd h
honest-refused laws words old new (r ∷ rs) (c ∷ cs) status h k (inl f) =
    honest-refusal laws words old new r c status h.0 k.0 f
honest-refused laws words old new (r ∷ rs) (c ∷ cs) status h k (inr f) =
    honest-refused laws words old new rs cs status h.1 k.1 f.2

-- and say what they are read to say
same-one : Laws → (words : List (List ℕ)) (files : FilesStanding) (r : Reading) (c d : Said) →
    Holds words files r c → Opens words files r d → d ≡ c
same-one laws words files r c d h o =
    says-one laws r.manner h.text d c
    (text-told files (name_at words r.place) (λ text. IsAccepted r.manner text c)
    (λ text. IsAccepted r.manner text d) h o) h.has

both-same : (c d : Said) (cs ds : List Said) → c ≡ d → cs ≡ ds → c ∷ cs ≡ d ∷ ds
both-same c d cs ds e f = ap (λ x. x ∷ cs) e ∙ ap (λ xs. d ∷ xs) f

same-said : Laws → (words : List (List ℕ)) (files : FilesStanding) (rs : List Reading)
    (cs ds : List Said) → AllHold words files rs cs → AllOpen words files rs ds → ds ≡ cs
same-said laws words files [] [] [] h o = refl
same-said laws words files [] [] (d ∷ ds) h o = absurd o
same-said laws words files [] (c ∷ cs) ds h o = absurd h
same-said laws words files (r ∷ rs) [] ds h o = absurd h
same-said laws words files (r ∷ rs) (c ∷ cs) [] h o = absurd o
same-said laws words files (r ∷ rs) (c ∷ cs) (d ∷ ds) h o =
    both-same d c ds cs (same-one laws words files r c d h.0 o.0)
    (same-said laws words files rs cs ds h.1 o.1)

-- what was taken of an input that is told
whole-taken : (old new : Option (List ℕ)) (input taken : List ℕ) → old ≡ Some input →
    Takes old new taken → IsEnd new → taken ≡ input
whole-taken old None input taken e t n = absurd (let x : Some input ≡ None = sym e ∙ t in cc)
whole-taken old (Some rest) input taken e t n =
    let x : Some input ≡ Some (taken ++ rest) = sym e ∙ t in
    let y : input ≡ taken ++ rest = cc in
    sym (append-nil taken) ∙ ap (λ r. taken ++ r) (sym n) ∙ sym y

too-much : (old new : Option (List ℕ)) (input taken more : List ℕ) → old ≡ Some input →
    Takes old new (taken ++ more) → length taken + length more ≤ length input
too-much old None input taken more e t = absurd (let x : Some input ≡ None = sym e ∙ t in cc)
too-much old (Some rest) input taken more e t =
    let x : Some input ≡ Some ((taken ++ more) ++ rest) = sym e ∙ t in
    let y : input ≡ (taken ++ more) ++ rest = cc in
    omega (arith, ap length y, length-append (taken ++ more) rest, length-append taken more)

take-past : (n : ℕ) (front more rest whole : List ℕ) → whole ≡ (front ++ more) ++ rest →
    length front ≡ n → take n whole ≡ front
take-past n front more rest whole e l =
    ap (λ (k : ℕ). take k whole) (sym l)
    ∙ ap (take (length front)) (e ∙ append_assoc front more rest)
    ∙ take-front front (more ++ rest)

taken-whole : (n : ℕ) (input : List ℕ) → length input ≤ n → take n input ≡ input
taken-whole n input h = take_all n input h

taken-cut : (n : ℕ) (old new : Option (List ℕ)) (input taken more : List ℕ) → old ≡ Some input →
    Takes old new (taken ++ more) → length taken ≡ n → take n input ≡ taken
taken-cut n old None input taken more e t l = absurd (let x : Some input ≡ None = sym e ∙ t in cc)
taken-cut n old (Some rest) input taken more e t l =
    let x : Some input ≡ Some ((taken ++ more) ++ rest) = sym e ∙ t in
    let y : input ≡ (taken ++ more) ++ rest = cc in
    take-past n taken more rest input y l

cut-short : (input : List ℕ) → length input ≤ INPUT_MAX → cut_input input ≡ input
unfolding cut_input
cut-short input h = taken-whole INPUT_MAX input h

cut-long : (old new : Option (List ℕ)) (input taken more : List ℕ) → old ≡ Some input →
    Takes old new (taken ++ more) → length taken ≡ INPUT_MAX → cut_input input ≡ taken
unfolding cut_input
cut-long old new input taken more e t l = taken-cut INPUT_MAX old new input taken more e t l

ends-short : (input : List ℕ) → length input ≤ INPUT_MAX → ending_of input ≡ Clean
unfolding ending_of
ends-short input h = rw (le-ltb INPUT_MAX (length input) h) refl

ends-long : (input : List ℕ) → INPUT_MAX < length input → ending_of input ≡ TooMuch
unfolding ending_of
ends-long input h = rw (lt-ltb INPUT_MAX (length input) h) refl

-- the input is all that was left up to the limit, and ended so
intake : (old new : Standing) (input taken : List ℕ) (ending : Intake) → old.bytes ≡ Some input →
    IsCalm old.faults new.faults → IsTaken old new taken ending → (ending ≡ Open → ⊥) →
    (taken ≡ cut_input input) × (ending ≡ ending_of input)
intake old new input taken Open e c i n = absurd (n refl)
intake old new input taken Clean e c i n =
    let whole : taken ≡ input = whole-taken old.bytes new.bytes input taken e i.0 i.1 in
    let short : length input ≤ INPUT_MAX = subst (λ (x : List ℕ). length x ≤ INPUT_MAX) whole i.3 in
    (whole ∙ sym (cut-short input short), sym (ends-short input short))
intake old new input taken Failed e c i n = absurd (calm-not-rose _ _ c i.1)
intake old new input taken TooMuch e c i n =
    let much : length taken + length i.0 ≤ length input =
    too-much old.bytes new.bytes input taken i.0 e i.1 in
    let some : 0 < length i.0 = i.2 in
    let full : length taken ≡ INPUT_MAX = i.4 in (
      sym (cut-long old.bytes new.bytes input taken i.0 e i.1 full),
      sym (ends-long input (omega arith)),
    )

some-left : (new : Option (List ℕ)) (input taken : List ℕ) →
    Some input ≡ option_map (λ rest. taken ++ rest) new → (rest : List ℕ) × (input ≡ taken ++ rest)
some-left None input taken e = absurd (let x : Some input ≡ None = e in cc)
some-left (Some rest) input taken e = (rest, (let x : Some input ≡ Some (taken ++ rest) = e in cc))

take-more : (n : ℕ) (front rest : List ℕ) → length front ≤ n → take n (front ++ rest) ≡ front
    ++ take (n - length front) rest
take-more n front rest h = ap (λ (k : ℕ). take k (front ++ rest)) (omega arith)
    ∙ take-append-add front rest (n - length front)

cut-more : (old new : Standing) (input taken : List ℕ) → old.bytes ≡ Some input →
    IsTaken old new taken Open → (more : List ℕ) × (cut_input input ≡ taken ++ more)
unfolding cut_input
cut-more old new input taken e t =
    let r = some-left new.bytes input taken (sym e ∙ t.0) in (
      take (INPUT_MAX - length taken) r.0,
      ap (take INPUT_MAX) r.1
          ∙ take-more INPUT_MAX taken r.0 t.2,
    )

-- what a row gives for what was taken, whatever may still come in, it gives for the whole input
given-ended : (row : List ℕ → TextEnding → RowTold) (old new k l : Standing) (input taken : List ℕ)
    (i : Intake) (o : RowOutcome) → old.bytes ≡ Some input → IsCalm old.faults new.faults →
    IsTaken old new taken i → (i ≡ Open → ⊥) → (w : WentThrough row taken i k l o)
    → row (cut_input input) (text_ending (ending_of input))
    ≡ record { text = w.text; fault = outcome_fault o }
given-ended row old new k l input taken i o e c t n w =
    let q = intake old new input taken i e c t n in
    ap (λ x. row x (text_ending (ending_of input))) (sym q.0 ∙ sym (append-nil taken))
    ∙ ap (λ (x : Intake). row (taken ++ []) (text_ending x)) (sym q.1)
    ∙ w.told [] (text_ending i) (no-more i)

given-whole : (row : List ℕ → TextEnding → RowTold) (old new k l : Standing) (input taken : List ℕ)
    (i : Intake) (o : RowOutcome) → old.bytes ≡ Some input → IsCalm old.faults new.faults →
    IsTaken old new taken i → (w : WentThrough row taken i k l o)
    → row (cut_input input) (text_ending (ending_of input))
    ≡ record { text = w.text; fault = outcome_fault o }
given-whole row old new k l input taken Open o e c t w =
    let more = cut-more old new input taken e t in
    ap (λ x. row x (text_ending (ending_of input))) more.1
    ∙ w.told more.0 (text_ending (ending_of input)) tt
given-whole row old new k l input taken Clean o e c t w =
    given-ended row old new k l input taken Clean o e c t (λ x. cc) w
given-whole row old new k l input taken Failed o e c t w =
    given-ended row old new k l input taken Failed o e c t (λ x. cc) w
given-whole row old new k l input taken TooMuch o e c t w =
    given-ended row old new k l input taken TooMuch o e c t (λ x. cc) w

-- an honest run gives an outcome of the meaning, or memory ran out
abbrev IsWell : List (List ℕ) → Gives → List ℕ → Outside → Outside → Status → Type 0
IsWell words g input before after status =
    (status ≡ Memory) ⊎ ((o : Outcome) × IsOutcome g (cut_input input) (ending_of input) o
    × Leaves words o before after status)

through-well : (words : List (List ℕ)) (stages : List Stage) (ms : List Meaning)
    (input taken : List ℕ) (i : Intake) (o : RowOutcome) (before after : Outside) (status : Status)
    → before.source.bytes ≡ Some input → IsCalm before.source.faults after.source.faults →
    after.files ≡ before.files → AreMeanings stages ms
    → IsTaken before.source after.source taken i → status ≡ status_of_outcome o →
    o ≡ outcome_of (ending_of input) (outcome_fault o) →
    WentThrough (meaning 1 ms) taken i before.sink after.sink o →
    IsWell words (Streams stages) input before after status
through-well words stages ms input taken i o before after status e c same mean t s own w =
    let told : meaning 1 ms (cut_input input) (text_ending (ending_of input))
    ≡ record { text = w.text; fault = outcome_fault o } =
    given-whole (meaning 1 ms) before.source after.source before.sink after.sink input taken
    i o e c t w in
    inr (
      row_outcome (meaning 1 ms (cut_input input) (text_ending (ending_of input)))
          (ending_of input),
      (ms, mean, refl),
      record {
        status_is = s ∙ ap status_of_outcome own
            ∙ ap (λ (r : RowTold). row_status r (ending_of input)) (sym told);
        put = subst (λ (r : RowTold). Puts before.sink.bytes after.sink.bytes r.text)
            (sym told) w.put;
        stored = ap (λ (x : FilesStanding). x.contents) same;
      },
    )

-- the outcome of an input that ended so
own-done : (old new : Standing) (input taken : List ℕ) (i ending : Intake) (o : RowOutcome) →
    old.bytes ≡ Some input → IsCalm old.faults new.faults → IsTaken old new taken i → i ≡ ending →
    (ending ≡ Open → ⊥) → o ≡ outcome_of ending None → o ≡ outcome_of (ending_of input) None
own-done old new input taken i ending o e c t is n q =
    let r = intake old new input taken ending e c (subst (λ x. IsTaken old new taken x) is t) n in
    q ∙ ap (λ (x : Intake). outcome_of x None) r.1

came-well : (words : List (List ℕ)) (stages : List Stage) (ms : List Meaning) (input taken : List ℕ)
    (i : Intake) (o : RowOutcome) (before after : Outside) (status : Status) →
    before.source.bytes ≡ Some input → IsCalm before.source.faults after.source.faults →
    IsCalm before.sink.faults after.sink.faults → after.files ≡ before.files → AreMeanings stages ms
    → IsTaken before.source after.source taken i → status ≡ status_of_outcome o →
    Came (meaning 1 ms) taken i before.sink after.sink o →
    IsWell words (Streams stages) input before after status
came-well words stages ms input taken i outcome.Done before after status e c p same mean t s w =
    through-well words stages ms input taken i outcome.Done before after status e c same mean t s
    (own-done before.source after.source input taken i Clean outcome.Done e c t w.1
    (λ x. cc) refl) w.0
came-well words stages ms input taken i outcome.ReadFault before after status e c p
    same mean t s w =
    through-well words stages ms input taken i outcome.ReadFault before after status e c same mean t
    s (own-done before.source after.source input taken i Failed outcome.ReadFault e c t w.1
    (λ x. cc) refl) w.0
came-well words stages ms input taken i outcome.InputTooLong before after status e c p
    same mean t s w =
    through-well words stages ms input taken i outcome.InputTooLong before after status e c same
    mean t s (own-done before.source after.source input taken i TooMuch outcome.InputTooLong e c
    t w.1 (λ x. cc) refl) w.0
came-well words stages ms input taken i outcome.WriteFault before after status e c p same mean t s
    w = absurd (calm-not-rose _ _ p w.1)
came-well words stages ms input taken i (outcome.Fault n fault.Memory) before after status e c p
    same mean t s w = inl s
came-well words stages ms input taken i (outcome.Fault n (fault.Malformed kind place)) before after
    status e c p same mean t s w =
    through-well words stages ms input taken i (outcome.Fault n (fault.Malformed kind place)) before
    after status e c same mean t s refl (w.1 (λ x. cc))
came-well words stages ms input taken i (outcome.Fault n (fault.Limit kind place)) before after
    status e c p same mean t s w =
    through-well words stages ms input taken i (outcome.Fault n (fault.Limit kind place)) before
    after status e c same mean t s refl (w.1 (λ x. cc))

list-well : (words : List (List ℕ)) (text input : List ℕ) (before after : Outside) (status : Status)
    → IsCalm before.sink.faults after.sink.faults → after.files ≡ before.files →
    IsListed before.sink after.sink text status →
    IsWell words (Lists text) input before after status
list-well words text input before after status c same (inl w) =
    inr (
      _,
      refl,
      record {
        status_is = w.1;
        put = w.0.put;
        stored =
            ap (λ (x : FilesStanding). x.contents) same;
      },
    )
list-well words text input before after status c same (inr (inl w)) =
    absurd (calm-not-rose _ _ c w.0.rose)
list-well words text input before after status c same (inr (inr w)) = inl w.memory

store-well : (words : List (List ℕ)) (out : ℕ) (making : Making) (input : List ℕ)
    (before after : Outside) (status : Status) → IsCalm before.sink.faults after.sink.faults →
    IsCalm before.files.store_faults after.files.store_faults
    → StoresOrStops making out (name_at words out) before.files after.files before.sink after.sink
    status → IsWell words (Stores out making) input before after status
store-well words out making input before after status c k (inl s) = elim s.summed [
  | inl w ↦ inr (
    _,
    (s.made, s.stored.is_made, s.stored.spelled, refl),
    record { status_is = w.1; put = w.0.put; stored = s.stored.stored },
  )
  | inr w ↦ absurd (calm-not-rose _ _ c w.0.rose)
]
store-well words out making input before after status c k (inr (inl s)) =
    absurd (calm-not-rose _ _ k s.rose)
store-well words out making input before after status c k (inr (inr m)) = inl m.memory

stream-well : (words : List (List ℕ)) (stages : List Stage) (input : List ℕ)
    (before after : Outside) (status : Status) → before.source.bytes ≡ Some input →
    IsCalm before.source.faults after.source.faults → IsCalm before.sink.faults after.sink.faults →
    after.files ≡ before.files
    → FlowsOrStops stages before.source after.source before.sink after.sink status →
    IsWell words (Streams stages) input before after status
stream-well words stages input before after status e c p same (inl f) =
    came-well words stages f.meanings input f.went.input f.went.intake f.outcome before after
    status e c p same f.mean f.went.taken f.status_is f.went.came
stream-well words stages input before after status e c p same (inr u) = inl u.memory

-- the workload: what was reported of its translation
module _ (words : List (List ℕ)) (sentences : ℕ) (input : List ℕ) (before after : Outside)
    (status : Status) (calm : IsCalm before.sink.faults after.sink.faults)
    (same : after.files ≡ before.files) (few : sentences ≤ work_max) where
  abbrev Is : List ℕ → Status → Type 0
  Is text ended = IsReported sentences before.sink after.sink text ended status

  abbrev WorksWell : Type 0
  WorksWell = IsWell words (Works sentences) input before after status

  failed-well : (s : Status) → IsWorkOutcome sentences (failed_outcome s) →
      after.sink ≡ before.sink → status ≡ s → WorksWell
  failed-well s o e f =
      inr (
        failed_outcome s,
        o,
        record {
          status_is = f;
          put = (nothing-put before.sink after.sink e).put;
          stored = ap (λ (x : FilesStanding). x.contents) same;
        },
      )

  listed-well : (text : List ℕ) → IsWorkOutcome sentences (worked_outcome sentences text Done) →
      IsListed before.sink after.sink (work_lines sentences text) status → WorksWell
  listed-well text o (inl w) =
      inr (
        _,
        o,
        record {
          status_is = w.1;
          put = w.0.put;
          stored = ap (λ (x : FilesStanding). x.contents) same;
        },
      )
  listed-well text o (inr (inl w)) = absurd (calm-not-rose _ _ calm w.0.rose)
  listed-well text o (inr (inr w)) = inl w.memory

  reported-well : (ended : Status) (text : List ℕ) →
      IsWorkOutcome sentences (worked_outcome sentences text ended) → Is text ended → WorksWell
  reported-well Done text o h = listed-well text o h
  reported-well ended text o h = failed-well (of_built_in ended) o h.0 h.1

  starved-well : (text : List ℕ) (ended : Status) → ended ≡ Memory → Is text ended → WorksWell
  starved-well text ended e h = inl (subst (λ x. Is text x) e h).1

  broken-well : (text : List ℕ) (ended : Status) → ended ≡ WriteFault → Is text ended → WorksWell
  broken-well text ended e h = inl (subst (λ x. Is text x) e h).1

  flaw-reported : (text : List ℕ) (file : ℕ) (flaw : Flaw) → Is text (status_of_flaw file flaw) →
      (after.sink ≡ before.sink) × (status ≡ of_built_in (status_of_flaw file flaw))
  flaw-reported text file TooLong h = h
  flaw-reported text file (OfDictionary number line) h = h
  flaw-reported text file (OfCompiled number line) h = h
  flaw-reported text file (OfRules number line) h = h

  refused-well : (inside : Outside) (ended : Status) (text : List ℕ) → inside.files ≡ built_in →
      Refused run_words built_in inside.files (files_of work_run) ended → Is text ended → WorksWell
  refused-well inside ended text l (Unloaded file e h) r =
      absurd (never-unloaded (files_of work_run) inside.files file l h)
  refused-well inside ended text l (Flawed file flaw e h) r =
      let f = flaw-reported text file flaw (subst (λ x. Is text x) e r) in
      failed-well (of_built_in (status_of_flaw file flaw)) (inr (file, flaw, h, refl)) f.0 f.1
  refused-well inside ended text l (Starved e) r = starved-well text ended e r

  whole-row : (stages : List Stage) (o : Outcome) →
      IsRowOutcome stages (cut_input (made_text sentences)) (ending_of (made_text sentences)) o →
      IsRowOutcome stages (made_text sentences) Clean o
  whole-row stages o h =
      let short : length (made_text sentences) ≤ INPUT_MAX =
      omega (arith, made-short 0 sentences (omega (arith, few)), few) in
      subst (λ (x : Intake). IsRowOutcome stages (made_text sentences) x o)
      (ends-short (made_text sentences) short)
      (subst (λ x. IsRowOutcome stages x (ending_of (made_text sentences)) o)
      (cut-short (made_text sentences) short) h)

  given-well : (stages : List Stage) (inside : Outside) (ended : Status) → IsBuiltInRow stages →
      IsWell run_words (Streams stages) (made_text sentences) (before_work sentences) inside ended →
      Is (bytes_of inside.sink.bytes) ended → WorksWell
  given-well stages inside ended row (inl m) h =
      starved-well (bytes_of inside.sink.bytes) ended m h
  given-well stages inside ended row (inr w) h =
      reported-well w.0.status w.0.text (inl (stages, row, w.0, whole-row stages w.0 w.1, refl))
      (subst (λ x. Is w.0.text x) w.2.status_is
      (subst (λ x. Is x ended) (ap bytes_of w.2.put) h))

is-write : (s : Status) → (s ≡ WriteFault) ⊎ (s ≡ WriteFault → ⊥)
is-write WriteFault = inl refl
is-write s = inr (λ e. cc)

work-well : (words : List (List ℕ)) (sentences : ℕ) (input : List ℕ) (before after : Outside)
    (status : Status) → IsCalm before.sink.faults after.sink.faults → after.files ≡ before.files →
    IsWorked sentences before.sink after.sink status →
    IsWell words (Works sentences) input before after status
work-well words sentences input before after status calm same w =
    by w.ran (is-write w.ended)
  where
    by : IsStreamAnswer run_words (before_work sentences) w.after w.ended work_run →
        (w.ended ≡ WriteFault) ⊎ (w.ended ≡ WriteFault → ⊥) →
        IsWell words (Works sentences) input before after status
    by (inl r) d =
        refused-well words sentences input before after status calm same w.few w.after w.ended _ w.loads
        (refused-so run_words built_in w.after.files (files_of work_run) w.ended r.refused)
        w.reported
    by (inr (inl p)) (inl e) =
        broken-well words sentences input before after status calm same w.few _ w.ended e w.reported
    by (inr (inl p)) (inr n) =
        given-well words sentences input before after status calm same w.few p.flows.0 w.after w.ended
        (record { said = p.said; opened = p.opened; gives = p.flows.1 })
        (stream-well run_words p.flows.0 (made_text sentences) (before_work sentences) w.after
        w.ended refl (w.takes, omega arith) (
          stream-calm run_words work_run (before_work sentences) w.after p.said p.opened p.flows.0
              w.ended n p.flows.2,
          omega arith,
        ) p.same p.flows.2)
        w.reported
    by (inr (inr i)) d =
        starved-well words sentences input before after status calm same w.few _ w.ended i.memory
        w.reported

run-well : (words : List (List ℕ)) (g : Gives) (input : List ℕ) (before after : Outside)
    (status : Status) → IsServed g input before after → IsCalm before.sink.faults after.sink.faults
    → IsRun words g before after status → IsWell words g input before after status
run-well words (Streams stages) input before after status s c r =
    stream-well words stages input before after status s.0 s.1 c r.0 r.1
run-well words (Lists text) input before after status s c r =
    list-well words text input before after status c r.0 r.2
run-well words (Stores out making) input before after status s c r =
    store-well words out making input before after status c s r.1
run-well words (Works sentences) input before after status s c r =
    work-well words sentences input before after status c r.0 r.2
run-well words Nothing input before after status s c r = absurd r

honest-well : Laws → (words : List (List ℕ)) (command : Command) (said : List Said)
    (input : List ℕ) (before after : Outside) (status : Status) →
    IsHonest words command said input before after →
    IsCommandAnswer words before after status command →
    IsWell words (gives_of command said) input before after status
honest-well laws words command said input before after status h (inl r) =
    inl (honest-refused laws words before.files after.files (files_of command) said status h.files
    h.loads r.refused)
honest-well laws words command said input before after status h (inr (inl p)) =
    run-well words (gives_of command said) input before after status h.served h.puts
    (subst (λ x. IsRun words (gives_of command x) before after status)
    (same-said laws words before.files (files_of command) said p.said h.files p.opened) p.ran)
honest-well laws words command said input before after status h (inr (inr i)) = inl i.memory

pub exact-from : Laws → (words : List (List ℕ)) (before after : Outside) (status : Status) →
    IsAnswer words before after status → IsExact words before after status
exact-from laws words before after status a =
    λ command said input h. honest-well laws words command said input before after status h
    (by-command words before after status command a h.by_words)

-- a row of stages has one meaning
abbrev OneMeaning : Type 0
OneMeaning = (stages : List Stage) (a b : List Meaning) → AreMeanings stages a →
    AreMeanings stages b → a ≡ b

-- the first flaw
abbrev IsAnswered : List (List ℕ) → FilesStanding → FilesStanding → List Reading → Status → ℕ →
    Flaw → Type 0
IsAnswered words old new rs status file flaw = (status ≡ status_of_flaw file flaw)
    ⊎ ((status ≡ Memory) ⊎ Reaches words old rs (λ r. (status ≡ FileFault r.place)
    × IsUnloaded words old new r))

abbrev HasFlawAt : List (List ℕ) → FilesStanding → ℕ → Flaw → Reading → Type 0
HasFlawAt words old file flaw r =
    (r.place ≡ file) × HoldsText old (name_at words r.place) (λ text. IsFlawOf r.manner text flaw)

not-opened : Laws → (words : List (List ℕ)) (old : FilesStanding) (file : ℕ) (flaw : Flaw)
    (r : Reading) (c : Said) → HasFlawAt words old file flaw r → Opens words old r c → ⊥
not-opened laws words old file flaw r c h o =
    no-flaw-of laws r.manner h.1.text c flaw
    (text-told old (name_at words r.place) (λ text. IsFlawOf r.manner text flaw)
    (λ text. IsAccepted r.manner text c) h.1 o) h.1.has

flaw-here : Laws → (words : List (List ℕ)) (old new : FilesStanding) (file : ℕ) (flaw : Flaw)
    (r : Reading) (rs : List Reading) (status : Status) → HasFlawAt words old file flaw r →
    IsRefusal words old new status r → IsAnswered words old new (r ∷ rs) status file flaw
flaw-here laws words old new file flaw r rs status h (inl f) = inr (inr (inl f))
flaw-here laws words old new file flaw r rs status h (inr (same, inl f)) =
    inl (f.1 ∙ ap (λ (e : Flaw). status_of_flaw r.place e)
    (one-flaw-of laws r.manner h.1.text f.0 flaw
    (text-told old (name_at words r.place) (λ text. IsFlawOf r.manner text flaw)
    (λ text. IsFlawOf r.manner text f.0) h.1 f.2) h.1.has)
    ∙ ap (λ (n : ℕ). status_of_flaw n flaw) h.0)
flaw-here laws words old new file flaw r rs status h (inr (same, inr m)) = inr (inl m)

held-here : Laws → (words : List (List ℕ)) (old new : FilesStanding) (file : ℕ) (flaw : Flaw)
    (r : Reading) (rs : List Reading) (c : Said) (status : Status) → Holds words old r c →
    IsRefusal words old new status r → IsAnswered words old new (r ∷ rs) status file flaw
held-here laws words old new file flaw r rs c status h (inl f) = inr (inr (inl f))
held-here laws words old new file flaw r rs c status h (inr (same, inl f)) =
    absurd (no-flaw-of laws r.manner h.text c f.0 h.has
    (text-told old (name_at words r.place) (λ text. IsAccepted r.manner text c)
    (λ text. IsFlawOf r.manner text f.0) h f.2))
held-here laws words old new file flaw r rs c status h (inr (same, inr m)) = inr (inl m)

answered-later : (words : List (List ℕ)) (old new : FilesStanding) (r : Reading) (rs : List Reading)
    (status : Status) (file : ℕ) (flaw : Flaw) (c : Said) → Opens words old r c →
    IsAnswered words old new rs status file flaw →
    IsAnswered words old new (r ∷ rs) status file flaw
answered-later words old new r rs status file flaw c o (inl e) = inl e
answered-later words old new r rs status file flaw c o (inr (inl m)) = inr (inl m)
answered-later words old new r rs status file flaw c o (inr (inr h)) = inr (inr (inr (c, o, h)))

flawed-refused : Laws → (words : List (List ℕ)) (old new : FilesStanding) (file : ℕ) (flaw : Flaw)
    (rs : List Reading) (status : Status) → Meets words old rs (HasFlawAt words old file flaw) →
    Reaches words old rs (λ r. IsRefusal words old new status r) →
    IsAnswered words old new rs status file flaw
flawed-refused laws words old new file flaw [] status h f = absurd h
flawed-refused laws words old new file flaw (r ∷ rs) status (inl h) (inl f) =
    flaw-here laws words old new file flaw r rs status h f
flawed-refused laws words old new file flaw (r ∷ rs) status (inl h) (inr f) =
    absurd (not-opened laws words old file flaw r f.0 h f.1)
flawed-refused laws words old new file flaw (r ∷ rs) status (inr h) (inl f) =
    held-here laws words old new file flaw r rs h.0 status h.1 f
flawed-refused laws words old new file flaw (r ∷ rs) status (inr h) (inr f) =
    answered-later words old new r rs status file flaw f.0 f.1
    (flawed-refused laws words old new file flaw rs status h.2 f.2)

flawed-opened : Laws → (words : List (List ℕ)) (old : FilesStanding) (file : ℕ) (flaw : Flaw)
    (rs : List Reading) (cs : List Said) → Meets words old rs (HasFlawAt words old file flaw) →
    AllOpen words old rs cs → ⊥
flawed-opened laws words old file flaw [] cs h o = h
flawed-opened laws words old file flaw (r ∷ rs) [] h o = o
flawed-opened laws words old file flaw (r ∷ rs) (c ∷ cs) (inl h) o =
    not-opened laws words old file flaw r c h o.0
flawed-opened laws words old file flaw (r ∷ rs) (c ∷ cs) (inr h) o =
    flawed-opened laws words old file flaw rs cs h.2 o.1

-- where one outcome is Done, each is
row-done : OneMeaning → (stages : List Stage) (input : List ℕ) (ending : Intake) (a b : Outcome) →
    IsRowOutcome stages input ending a → IsRowOutcome stages input ending b → b.status ≡ Done →
    a.status ≡ Done
row-done one stages input ending a b p q e =
    ap (λ (o : Outcome). o.status) p.2
    ∙ ap (λ ms. row_status (meaning 1 ms input (text_ending ending)) ending)
    (one stages p.0 q.0 p.1 q.1) ∙ sym (ap (λ (o : Outcome). o.status) q.2) ∙ e

-- the built-in files tell their contents
built-in-held : (name : List ℕ) (P : List ℕ → Type 0) → HasText built_in name P →
    HoldsText built_in name P
built-in-held name P h =
    record { at = _; told = refl; text = h.0; there = h.1; has = h.2 }

all-held : (rs : List Reading) (cs : List Said) → AllOpen run_words built_in rs cs →
    AllHold run_words built_in rs cs
all-held [] [] h = h
all-held [] (c ∷ cs) h = h
all-held (r ∷ rs) [] h = h
all-held (r ∷ rs) (c ∷ cs) h = (
  built-in-held (name_at run_words r.place) (λ text. IsAccepted r.manner text c) h.0,
  all-held rs cs h.1,
)

flaw-held : (rs : List Reading) (file : ℕ) (flaw : Flaw) →
    Reaches run_words built_in rs (λ r. (r.place ≡ file)
    × HasText built_in (name_at run_words r.place) (λ text. IsFlawOf r.manner text flaw)) →
    Meets run_words built_in rs (HasFlawAt run_words built_in file flaw)
flaw-held [] file flaw h = h
flaw-held (r ∷ rs) file flaw (inl h) = inl (
  h.0,
  built-in-held (name_at run_words r.place) (λ text. IsFlawOf r.manner text flaw) h.1,
)
flaw-held (r ∷ rs) file flaw (inr h) = inr (
  h.0,
  built-in-held (name_at run_words r.place) (λ text. IsAccepted r.manner text h.0) h.1,
  flaw-held rs file flaw h.2,
)

flaw-undone : (file : ℕ) (flaw : Flaw) → of_built_in (status_of_flaw file flaw) ≡ Done → ⊥
flaw-undone file TooLong e = cc
flaw-undone file (OfDictionary number line) e = cc
flaw-undone file (OfCompiled number line) e = cc
flaw-undone file (OfRules number line) e = cc

worked-done : (sentences : ℕ) (text : List ℕ) (s : Status) →
    (worked_outcome sentences text s).status ≡ Done → s ≡ Done
worked-done sentences text Done e = refl
worked-done sentences text s e = absurd (undone-stays s (λ x. cc) e)

-- the row for what the built-in files say is one
one-built-in : Laws → (stages other : List Stage) → IsBuiltInRow stages → IsBuiltInRow other →
    other ≡ stages
one-built-in laws stages other p q =
    let said : q.said ≡ p.said = same-said laws run_words built_in (files_of work_run) p.said q.said
    (all-held (files_of work_run) p.said p.opened) q.opened in
    let both : Streams other ≡ Streams stages =
    sym q.gives ∙ ap (gives_of work_run) said ∙ p.gives in
    cc

work-done : Laws → OneMeaning → (sentences : ℕ) (a b : Outcome) → IsWorkOutcome sentences a →
    IsWorkOutcome sentences b → b.status ≡ Done → a.status ≡ Done
work-done laws one sentences a b (inl p) (inl q) e =
    let done : q.2.status ≡ Done = worked-done sentences q.2.text q.2.status
    (sym (ap (λ (o : Outcome). o.status) q.4) ∙ e) in
    let first : p.2.status ≡ Done =
    row-done one p.0 (made_text sentences) Clean p.2 q.2 p.3
    (subst (λ x. IsRowOutcome x (made_text sentences) Clean q.2)
    (one-built-in laws p.0 q.0 p.1 q.1) q.3) done in
    ap (λ (o : Outcome). o.status) p.4
    ∙ ap (λ s. (worked_outcome sentences p.2.text s).status) first
work-done laws one sentences a b (inr p) (inl q) e =
    absurd (flawed-opened laws run_words built_in p.0 p.1 (files_of work_run) q.1.said
    (flaw-held (files_of work_run) p.0 p.1 p.2) q.1.opened)
work-done laws one sentences a b p (inr q) e =
    absurd (flaw-undone q.0 q.1 (sym (ap (λ (o : Outcome). o.status) q.3) ∙ e))

done-same : Laws → OneMeaning → (g : Gives) (input : List ℕ) (ending : Intake) (a b : Outcome) →
    IsOutcome g input ending a → IsOutcome g input ending b → b.status ≡ Done → a.status ≡ Done
done-same laws one (Streams stages) input ending a b p q e =
    row-done one stages input ending a b p q e
done-same laws one (Lists text) input ending a b p q e = ap (λ (o : Outcome). o.status) p
done-same laws one (Stores out making) input ending a b p q e = ap (λ (o : Outcome). o.status) p.3
done-same laws one (Works sentences) input ending a b p q e =
    work-done laws one sentences a b p q e
done-same laws one Nothing input ending a b p q e = absurd p

pub complete-from : Laws → OneMeaning → (words : List (List ℕ)) (before after : Outside)
    (status : Status) → IsAnswer words before after status → IsComplete words before after status
complete-from laws one words before after status a = λ command said input o h short p d.
    elim (exact-from laws words before after status a command said input h) [
      | inl m ↦ inr m
      | inr w ↦ inl (w.2.status_is
          ∙ done-same laws one (gives_of command said) input Clean w.0 o
          (subst (λ (x : Intake). IsOutcome (gives_of command said) input x w.0)
          (ends-short input short)
          (subst (λ x. IsOutcome (gives_of command said) x (ending_of input) w.0)
          (cut-short input short) w.1)) p d)
    ]

flawed-answer : Laws → (words : List (List ℕ)) (command : Command) (file : ℕ) (flaw : Flaw)
    (before after : Outside) (status : Status) →
    Meets words before.files (files_of command) (HasFlawAt words before.files file flaw) →
    IsCommandAnswer words before after status command
    → ((status ≡ status_of_flaw file flaw) ⊎ GivesUp words command before after status)
    × IsUntouched before after
flawed-answer laws words command file flaw before after status h (inl r) = (
  flawed-refused laws words before.files after.files file flaw (files_of command) status h
      r.refused,
  r.untouched,
)
flawed-answer laws words command file flaw before after status h (inr (inl p)) =
    absurd (flawed-opened laws words before.files file flaw (files_of command) p.said h p.opened)
flawed-answer laws words command file flaw before after status h (inr (inr i)) = (
  inr (inl i.memory),
  record {
    source = ap (λ (x : Outside). x.source) i.same;
    sink =
        ap (λ (x : Outside). x.sink) i.same;
    contents =
        ap (λ (x : Outside). x.files.contents) i.same;
  },
)

pub flawed-from : Laws → (words : List (List ℕ)) (before after : Outside) (status : Status) →
    IsAnswer words before after status → RefusesFlawed words before after status
flawed-from laws words before after status a =
    λ command file flaw e h. flawed-answer laws words command file flaw before after status h
    (by-command words before after status command a e)
