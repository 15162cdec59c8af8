-- A stream goes through a row as its stages mean, and its status has a message.
use Rattle.std.proofs.Common.{◌≡◌, ℕ, suc, ◌≤◌, Bool, List, [], ◌∷◌, ◌++◌, ap, sym, ◌∙◌, subst, refl, inl, inr, Option, Some, None, Result, Ok, Err, IfOk, length, arith, map}
use Rattle.ap_symbol.specs.Alphabet.{has_letter}
use Rattle.ap_dix.specs.declared.dictionary.Dictionary.{Dictionary}
use Rattle.ap_dix.specs.declared.dictionary.Direction.{Direction}
use Rattle.ap_fst.specs.Sections.{Parts}
use Rattle.ap_fst.specs.declared.compiled.Way.{Way}
use Rattle.ap_compile.specs.Compiling.{IsCompiledFrom}
use Rattle.ap_stream.specs.ReadOn.{IsNotMalformed, NeverMalformed, Links}
use Rattle.ap_stream.specs.Reading.{reads}
use Rattle.ap_stream.specs.Told.{Ending as TextEnding, Clean as Whole, cut_told}
use Rattle.ap_stream.specs.declared.dialect.Dialect.TheVariants.{Generated}
use Rattle.ap_stream.specs.declared.fault.StreamFault.{StreamFault}
use Rattle.ap_stream.specs.declared.fault.StreamFault.TheVariants as fault
use Rattle.ap_stream.specs.declared.item.Read.{Read}
use Rattle.ap_stream.proofs.Faults.{fault_fine}
use Rattle.ap_compound.specs.Works.{compounds_text}
use Rattle.ap_format.specs.Reformatted.{bare_items, ret_text}
use Rattle.ap_live.specs.Lexicon.{Lexicon, lexicon_of, IsLexiconOf}
use Rattle.ap_live.specs.Readable.{GivesReadable}
use Rattle.ap_live.specs.Relations.{relation_of}
use Rattle.ap_analysis.specs.Whole.{analysis}
use Rattle.ap_analysis.specs.Laws.{AnalysisKeeps, AnalysisIsRead}
use Rattle.ap_chunk.specs.Laws.{PlainRulesDecide}
use Rattle.ap_chunk.specs.Stages.{transferred_text, interchunked_text, postchunked_text}
use Rattle.ap_lookup.specs.Laws.{BilingualKeeps, GenerationKeeps, PostGenerationKeeps, BilingualIsRead, GenerationIsRead, PostGenerationIsRead}
use Rattle.ap_lookup.specs.declared.generation_writer.Marks.TheVariants as marks
use Rattle.ap_live.proofs.Lexicons.{one_lexicon}
use Rattle.ap_pipe.specs.declared.round.Intake.{Intake}
use Rattle.ap_pipe.specs.declared.round.Intake.TheVariants.{Open, Clean, Failed, TooLong}
use Rattle.ap_pipe.specs.declared.round.Outcome.{Outcome}
use Rattle.ap_pipe.specs.declared.round.Outcome.TheVariants as outcome
use Rattle.ap_pipe.specs.declared.station.RowFault.{RowFault}
use Rattle.ap_pipe.specs.Standing.{Standing}
use Rattle.ap_pipe.specs.Any.{any_rest}
use Rattle.ap_pipe.specs.Row.{RowTold, last_fault, meaning}
use Rattle.ap_pipe.specs.declared.any_stage.AnyStage.{AnyStage}
use Rattle.ap_pipe.specs.Round.{MayCome}
use Rattle.ap_pipe.specs.Answers.{ending_of as text_ending}
use Rattle.ap_pipe.specs.Flow.{WentThrough, Flows as RowFlows, Came}
use Rattle.ap_pipe.proofs.Flowing.{one_meaning}
use Rattle.ap_command.specs.declared.content.Content.TheVariants as code
use Rattle.ap_command.specs.Said.{Said, Entries, Sections}
use Rattle.ap_command.specs.declared.reading.Manner.TheVariants.{Either}
use Rattle.ap_command.specs.declared.status.Status.{Status}
use Rattle.ap_command.specs.Messages.{IsTold}
use Rattle.ap_command.specs.Output.{IsLexicon, RelatesAlone, letters_of, relation}
use Rattle.ap_command.specs.Reading.{IsKeptAs, made_way}
use Rattle.ap_command.specs.declared.words.Mode.{Mode}
use Rattle.ap_command.specs.declared.words.Mode.TheVariants as option
use Rattle.ap_command.specs.Rows.{Stage, ByFile, FirstReadings, SplitWords, Chooses, Meaning, IsMeaning, AreMeanings, KeepsSuperblanks, EachKeepsSuperblanks, EachLinks, read_by, written_by, stage_reads, stage_writes, given_by, Transfers, Interchunks, Postchunks, Deformats, Reformats, AnalysesAlone, Explains, KeepsAs, LinksAs, ReadAsWritten}
use Rattle.ap_command.specs.Stream.{status_of_outcome, Flows, IsStage, AreStages, IsRow}
use Rattle.ap_command.specs.Words.{way_of}
use Rattle.ap_command.proofs.Named.{malformed-bounds, limit-bounds}

-- a stage gives one meaning
one-lexicon : (way : Direction) (content : Said) (sensitive : Bool) (a b : Lexicon) →
    IsLexicon way content sensitive a → IsLexicon way content sensitive b → a ≡ b
one-lexicon way content sensitive a b p q =
    one_lexicon sensitive (letters_of content) (relation way content) a b p q

one-stage : PlainRulesDecide → (stage : Stage) (a b : Meaning) → IsMeaning stage a →
    IsMeaning stage b → a ≡ b
one-stage law (ByFile mode content sensitive) a b p q =
    p.2 ∙ ap (λ (l : Lexicon). given_by mode l sensitive)
    (one-lexicon (made_way (way_of mode)) content sensitive p.0 q.0 p.1 q.1) ∙ sym q.2
one-stage law FirstReadings a b p q = p ∙ sym q
one-stage law SplitWords a b p q = p ∙ sym q
one-stage law (Chooses pairs) a b p q = p ∙ sym q
one-stage law (Transfers rules) a b p q =
    p.2 ∙ one_meaning (transferred_text p.0) (transferred_text q.0)
    (λ text ending. (law p.0 q.0 text ending (p.1 ∙ sym q.1)).0) ∙ sym q.2
one-stage law (Interchunks rules) a b p q =
    p.2 ∙ one_meaning (interchunked_text p.0) (interchunked_text q.0)
    (λ text ending. (law p.0 q.0 text ending (p.1 ∙ sym q.1)).1) ∙ sym q.2
one-stage law (Postchunks rules) a b p q =
    p.2 ∙ one_meaning (postchunked_text p.0) (postchunked_text q.0)
    (λ text ending. (law p.0 q.0 text ending (p.1 ∙ sym q.1)).2) ∙ sym q.2
one-stage law Deformats a b p q = p ∙ sym q
one-stage law Reformats a b p q = p ∙ sym q
one-stage law (AnalysesAlone content sensitive) a b p q =
    p.2 ∙ ap (λ (l : Lexicon). analysis l sensitive)
    (one_lexicon sensitive (letters_of content)
    (RelatesAlone (relation (made_way (way_of option.A)) content)) p.0 q.0 p.1 q.1) ∙ sym q.2
one-stage law (Explains content sensitive) a b p q =
    p.2 ∙ ap (λ (l : Lexicon). compounds_text l sensitive)
    (one-lexicon (made_way (way_of option.A)) content sensitive p.0 q.0 p.1 q.1) ∙ sym q.2

both-same : (m n : Meaning) (ms ns : List Meaning) → m ≡ n → ms ≡ ns → m ∷ ms ≡ n ∷ ns
both-same m n ms ns e f = ap (λ x. x ∷ ms) e ∙ ap (λ xs. n ∷ xs) f

pub one-row : PlainRulesDecide → (stages : List Stage) (a b : List Meaning) →
    AreMeanings stages a → AreMeanings stages b → a ≡ b
one-row law [] [] [] p q = refl
one-row law [] [] (n ∷ ns) p q = absurd q
one-row law [] (m ∷ ms) b p q = absurd p
one-row law (s ∷ ss) [] b p q = absurd p
one-row law (s ∷ ss) (m ∷ ms) [] p q = absurd q
one-row law (s ∷ ss) (m ∷ ms) (n ∷ ns) p q =
    both-same m n ms ns (one-stage law s m n p.0 q.0) (one-row law ss ms ns p.1 q.1)

abbrev pub DictionaryHasIts : Type 0
DictionaryHasIts = (d : Dictionary) (way : Direction) (p : Parts) (sensitive : Bool) →
    IsCompiledFrom d way p →
    IsLexiconOf (lexicon_of p sensitive) sensitive (has_letter p.alphabet) (relation_of p) →
    IsLexicon way (Entries d) sensitive (lexicon_of p sensitive)

-- the lexicon of what is kept is that of what the file says
pub is-lexicon : DictionaryHasIts → (way : Way) (said : Said) (p : Parts) (sensitive : Bool) →
    IsKeptAs (Either way) said (code.Sections p) →
    IsLexiconOf (lexicon_of p sensitive) sensitive (has_letter p.alphabet) (relation_of p) →
    IsLexicon (made_way way) said sensitive (lexicon_of p sensitive)
is-lexicon law way (Entries d) p sensitive k i = law d (made_way way) p sensitive k i
is-lexicon law way (Sections q) p sensitive k i =
    subst (λ (x : Parts). IsLexiconOf (lexicon_of p sensitive) sensitive (has_letter x.alphabet)
    (relation_of x)) (sym k) i
is-lexicon law way said p sensitive k i = absurd k

abbrev pub ModesKeep : Type 0
ModesKeep = (mode : Mode) (lexicon : Lexicon) (sensitive : Bool) → GivesReadable lexicon →
    KeepsSuperblanks (read_by mode) (written_by mode) (given_by mode lexicon sensitive)

abbrev pub ModesAreRead : Type 0
ModesAreRead = (mode : Mode) (lexicon : Lexicon) (sensitive : Bool) → GivesReadable lexicon →
    Links (read_by mode) (written_by mode) (given_by mode lexicon sensitive)

-- a stage that gives what it means, and that keeps superblanks and is read on
pub stage-by : (stage : Stage) (made : AnyStage) (m : Meaning) →
    ((x : List ℕ) (e : TextEnding) → any_rest made x e ≡ m x e) →
    ((n : Meaning) → n ≡ m → IsMeaning stage n) →
    KeepsAs (stage_reads stage) (stage_writes stage) m →
    LinksAs (stage_reads stage) (stage_writes stage) m → IsStage stage made
stage-by stage made m rest mean keeps links =
    let same : any_rest made ≡ m = one_meaning (any_rest made) m rest in
    record {
      mean = mean (any_rest made) same;
      keeps = subst (KeepsAs (stage_reads stage) (stage_writes stage)) (sym same) keeps;
      links = subst (LinksAs (stage_reads stage) (stage_writes stage)) (sym same) links;
    }

-- a generated text that is read on is never malformed where it is made a plain text
bare-never : (items : List Read) → IsNotMalformed (bare_items items).fault
bare-never [] = λ kind place h. cc
bare-never (read ∷ items) = bare-never items

pub plain-never : NeverMalformed Generated ret_text
plain-never text h =
    fault_fine (bare_items (reads Generated 0 text).items).fault (reads Generated 0 text).stop
    (bare-never (reads Generated 0 text).items) h

-- what `lt-proc` does by what is kept is what it does by what the file says
pub file-made : {E : Type 0} → DictionaryHasIts → ModesKeep → ModesAreRead → (mode : Mode)
    (p : Parts) (sensitive : Bool)
    → IsLexiconOf (lexicon_of p sensitive) sensitive (has_letter p.alphabet) (relation_of p) →
    GivesReadable (lexicon_of p sensitive) → (r : Result AnyStage E)
    → IfOk r (λ made. (x : List ℕ) (e : TextEnding) →
    any_rest made x e ≡ given_by mode (lexicon_of p sensitive) sensitive x e) →
    (said : Said) → IsKeptAs (Either (way_of mode)) said (code.Sections p) →
    IfOk r (λ made. IsStage (ByFile mode said sensitive) made)
file-made law keep link mode p sensitive has readable (Err e) h said kept = h
file-made law keep link mode p sensitive has readable (Ok made) h said kept =
    stage-by (ByFile mode said sensitive) made (given_by mode (lexicon_of p sensitive) sensitive) h
    (λ n e. (lexicon_of p sensitive, is-lexicon law (way_of mode) said p sensitive kept has, e))
    (keep mode (lexicon_of p sensitive) sensitive readable)
    (link mode (lexicon_of p sensitive) sensitive readable)

-- what holds of a value that came
pub if-ok : {U E : Type 0} (r : Result U E) (u : U) (P : U → Type 0) → r ≡ Ok u → IfOk r P → P u
if-ok (Ok v) u P e h = let same : v ≡ u = cc in subst P same h
if-ok (Err f) u P e h = absurd (cc)

-- a row of one stage
pub one-some : {E : Type 0} (r : Result (List AnyStage) E) (a : AnyStage) →
    IfOk r (λ row. row ≡ a ∷ []) → IfOk r (λ row. 1 ≤ length row)
one-some (Ok row) a e = subst (λ (xs : List AnyStage). 1 ≤ length xs) (sym e) (omega arith)
one-some (Err f) a e = e

pub one-row-of : {E : Type 0} (stage : Stage) (r : Result (List AnyStage) E) (a : AnyStage) →
    IsStage stage a → IfOk r (λ row. row ≡ a ∷ []) → IfOk r (λ row. IsRow (stage ∷ []) row)
one-row-of stage (Ok row) a i e =
    subst (IsRow (stage ∷ [])) (sym e) (record { joined = tt; each = (i, tt) })
one-row-of stage (Err f) a i e = e

-- and of two
pub two-row-of : (s t : Stage) (row next : List AnyStage) (a b : AnyStage) → row ≡ a ∷ [] →
    next ≡ row ++ b ∷ [] → ReadAsWritten (stage_writes s) (stage_reads t) → IsStage s a →
    IsStage t b → IsRow (s ∷ t ∷ []) next
two-row-of s t row next a b e f j p q =
    subst (IsRow (s ∷ t ∷ [])) (sym (f ∙ ap (λ r. r ++ b ∷ []) e))
    (record { joined = (j, tt); each = (p, (q, tt)) })

-- what `lt-proc` gives keeps superblanks
pub given-keeps : AnalysisKeeps → BilingualKeeps → GenerationKeeps → PostGenerationKeeps →
    (mode : Mode) (lexicon : Lexicon) (sensitive : Bool) → GivesReadable lexicon →
    KeepsSuperblanks (read_by mode) (written_by mode) (given_by mode lexicon sensitive)
given-keeps a b g p option.A lexicon sensitive readable text none =
    a lexicon sensitive text readable none
given-keeps a b g p option.B lexicon sensitive readable text none =
    b lexicon sensitive text readable none
given-keeps a b g p option.G lexicon sensitive readable text none =
    g lexicon marks.Marked sensitive text readable none
given-keeps a b g p option.N lexicon sensitive readable text none =
    g lexicon marks.Clean sensitive text readable none
given-keeps a b g p option.D lexicon sensitive readable text none =
    g lexicon marks.Tagged sensitive text readable none
given-keeps a b g p option.P lexicon sensitive readable text none =
    p lexicon sensitive text readable none

-- and is read on
pub given-read : AnalysisIsRead → BilingualIsRead → GenerationIsRead → PostGenerationIsRead →
    (mode : Mode) (lexicon : Lexicon) (sensitive : Bool) → GivesReadable lexicon →
    Links (read_by mode) (written_by mode) (given_by mode lexicon sensitive)
given-read a b g p option.A lexicon sensitive readable = a lexicon sensitive readable
given-read a b g p option.B lexicon sensitive readable = b lexicon sensitive readable
given-read a b g p option.G lexicon sensitive readable = g lexicon marks.Marked sensitive readable
given-read a b g p option.N lexicon sensitive readable = g lexicon marks.Clean sensitive readable
given-read a b g p option.D lexicon sensitive readable = g lexicon marks.Tagged sensitive readable
given-read a b g p option.P lexicon sensitive readable = p lexicon sensitive readable

stages-mean : (stages : List Stage) (row : List AnyStage) → AreStages stages row →
    AreMeanings stages (map any_rest row)
stages-mean [] [] h = h
stages-mean [] (m ∷ ms) h = absurd h
stages-mean (s ∷ ss) [] h = h
stages-mean (s ∷ ss) (m ∷ ms) h = (h.0.mean, stages-mean ss ms h.1)

stages-keep : (stages : List Stage) (row : List AnyStage) → AreStages stages row →
    EachKeepsSuperblanks stages (map any_rest row)
stages-keep [] [] h = h
stages-keep [] (m ∷ ms) h = absurd h
stages-keep (s ∷ ss) [] h = h
stages-keep (s ∷ ss) (m ∷ ms) h = (h.0.keeps, stages-keep ss ms h.1)

stages-link : (stages : List Stage) (row : List AnyStage) → AreStages stages row →
    EachLinks stages (map any_rest row)
stages-link [] [] h = h
stages-link [] (m ∷ ms) h = absurd h
stages-link (s ∷ ss) [] h = h
stages-link (s ∷ ss) (m ∷ ms) h = (h.0.links, stages-link ss ms h.1)

-- a stream went through a row of stages
pub flows-by : (stages : List Stage) (row : List AnyStage) (s t k l : Standing) (o : Outcome)
    (status : Status) → IsRow stages row → RowFlows (meaning 1 (map any_rest row)) s t k l o →
    status ≡ status_of_outcome o → Flows stages s t k l status
flows-by stages row s t k l o status i went e = record {
  meanings = map any_rest row;
  mean = stages-mean stages row i.each;
  joined = i.joined;
  keeps = stages-keep stages row i.each;
  links = stages-link stages row i.each;
  outcome = o;
  went = went;
  status_is = e;
}

-- nothing more may come in, with this ending
pub no-more : (intake : Intake) → MayCome intake [] (text_ending intake)
no-more Open = tt
no-more Clean = (refl, refl)
no-more Failed = (refl, refl)
no-more TooLong = (refl, refl)

-- the number of the stage of a fault
last-from : (behind : Option RowFault) (n : ℕ) (own : Option StreamFault) (f : RowFault) →
    last_fault behind n own ≡ Some f → ((g : RowFault) → behind ≡ Some g → n ≤ g.stage)
    → n ≤ f.stage
last-from (Some g) n own f e h = let same : g ≡ f = cc in
    subst (λ (x : RowFault). n ≤ x.stage) same (h g refl)
last-from None n None f e h = absurd (let x : None ≡ Some f = e in cc)
last-from None n (Some own) f e h = let same : record { stage = n; fault = own } ≡ f = cc in
    subst (λ (x : RowFault). n ≤ x.stage) same (omega arith)

stage-from : (n : ℕ) (ms : List Meaning) (x : List ℕ) (e : TextEnding) (f : RowFault) →
    (meaning n ms x e).fault ≡ Some f → n ≤ f.stage
stage-from n [] x e f h = absurd (let y : None ≡ Some f = h in cc)
stage-from n (m ∷ ms) x e f h =
    last-from (meaning (suc n) ms (cut_told e (m x e)).text Whole).fault n
    (cut_told e (m x e)).fault f h
    (λ g k. (let b = stage-from (suc n) ms (cut_told e (m x e)).text Whole g k in
    omega (arith, b)))

-- a fault is that of a stage, counted from 1
pub went-stage : (ms : List Meaning) (input : List ℕ) (intake : Intake) (k l : Standing) (n : ℕ)
    (f : StreamFault) → WentThrough (meaning 1 ms) input intake k l (outcome.Fault n f) → 1 ≤ n
went-stage ms input intake k l n f w =
    stage-from 1 ms (input ++ []) (text_ending intake) (record { stage = n; fault = f })
    (ap (λ (t : RowTold). t.fault) (w.told [] (text_ending intake) (no-more intake)))

came-told : (ms : List Meaning) (input : List ℕ) (intake : Intake) (k l : Standing) (o : Outcome)
    (words : ℕ) → Came (meaning 1 ms) input intake k l o → IsTold (status_of_outcome o) words
came-told ms input intake k l outcome.Done words c = tt
came-told ms input intake k l outcome.ReadFault words c = tt
came-told ms input intake k l outcome.WriteFault words c = tt
came-told ms input intake k l outcome.InputTooLong words c = inr (inl (refl, refl))
came-told ms input intake k l (outcome.Fault n (fault.Malformed kind place)) words c =
    malformed-bounds kind
came-told ms input intake k l (outcome.Fault n (fault.Limit kind place)) words c =
    let some : 1 ≤ n = went-stage ms input intake k l n (fault.Limit kind place) (c.1 (λ e. cc)) in
    let b = limit-bounds kind in
    inr (inr (omega arith, b.0, b.1))
came-told ms input intake k l (outcome.Fault n fault.Memory) words c = tt

-- the status of a stream has a message
pub flows-told : (ms : List Meaning) (s t k l : Standing) (o : Outcome) (status : Status)
    (words : ℕ) → RowFlows (meaning 1 ms) s t k l o → status ≡ status_of_outcome o →
    IsTold status words
flows-told ms s t k l o status words f e =
    subst (λ x. IsTold x words) (sym e) (came-told ms f.input f.intake k l o words f.came)
