-- A row of stages keeps superblanks, and so does a command whose stream went through to its end.
use Rattle.std.proofs.Common.{◌≡◌, ℕ, suc, List, [], ◌∷◌, ap, sym, ◌∙◌, subst, refl, inl, inr, Option, Some, None, Ok, append-nil}
use Rattle.ap_stream.specs.declared.fault.StreamFault.{StreamFault}
use Rattle.ap_stream.specs.declared.fault.StreamFault.TheVariants as fault
use Rattle.ap_stream.specs.Pieces.{HaveSameSuperblanks}
use Rattle.ap_stream.specs.Told.{Clean as Whole}
use Rattle.ap_stream.proofs.Fronts.{kept_twice}
use Rattle.ap_pipe.specs.declared.round.Intake.{Intake}
use Rattle.ap_pipe.specs.declared.round.Intake.TheVariants.{Clean}
use Rattle.ap_pipe.specs.declared.round.Outcome.{Outcome}
use Rattle.ap_pipe.specs.declared.round.Outcome.TheVariants as outcome
use Rattle.ap_pipe.specs.declared.station.RowFault.{RowFault}
use Rattle.ap_pipe.specs.Row.{RowTold, last_fault, meaning}
use Rattle.ap_pipe.specs.Flow.{WentThrough, Came, IsTaken}
use Rattle.ap_command.specs.declared.status.Status.{Status}
use Rattle.ap_command.specs.declared.status.Status.TheVariants.{Done, ReadFault, WriteFault, FileFault, BadDictionary, BadRules, BadCompiled, Limit, Memory}
use Rattle.ap_command.specs.declared.words.Command.{Command}
use Rattle.ap_command.specs.Words.{command_of, files_of}
use Rattle.ap_command.specs.Outside.{Outside}
use Rattle.ap_command.specs.Rows.{Stage, Meaning, TextKind, PlainText, StreamText, AreJoined, ReadAsWritten, HaveSame, KeepsAs, KeptTo, KeptInside, AreMeanings, stage_reads, stage_writes, row_reads, row_writes, EachKeepsSuperblanks}
use Rattle.ap_command.specs.Gives.{Gives, Streams, Lists, Stores, Works, Nothing, gives_of}
use Rattle.ap_command.specs.Reading.{Flaw, TooLong, OfDictionary, OfCompiled, OfRules, status_of_flaw}
use Rattle.ap_command.specs.Stream.{status_at, status_of_outcome, FlowsOrStops}
use Rattle.ap_command.specs.Working.{run_words, work_run, before_work}
use Rattle.ap_command.specs.Answer.{IsRun, IsStreamAnswer, IsReported, bytes_of, IsCommandAnswer, IsAnswer}
use Rattle.ap_pipe.specs.Standing.{Standing}
use Rattle.ap_command.specs.Account.{StreamsSuperblanks, GivesSuperblanks, OnAccepted, IsBuiltInRow}
use Rattle.ap_command.proofs.Flowing.{no-more}
use Rattle.ap_command.proofs.Sending.{Refused, Unloaded, Flawed, Starved, refused-so}
use Rattle.ap_command.proofs.Reasons.{by-command}
use Rattle.ap_command.proofs.Worked.{undone-stays}

-- a row without a fault has none in its stages
none-behind : (behind : Option RowFault) (n : ℕ) (own : Option StreamFault) →
    last_fault behind n own ≡ None → behind ≡ None
none-behind (Some f) n own e = absurd (let x : Some f ≡ None = e in cc)
none-behind None n own e = refl

none-own : (behind : Option RowFault) (n : ℕ) (own : Option StreamFault) →
    last_fault behind n own ≡ None → own ≡ None
none-own (Some f) n own e = absurd (let x : Some f ≡ None = e in cc)
none-own None n (Some f) e =
    absurd (let x : Some (record { stage = n; fault = f }) ≡ None = e in cc)
none-own None n None e = refl

-- what a stage gives has the superblanks of what it reads, where neither is a plain text
keeps-at : (from to : TextKind) (m : Meaning) (x : List ℕ) → KeepsAs from to m →
    (m x Whole).fault ≡ None → HaveSame from to x (m x Whole).text
keeps-at (StreamText a) (StreamText b) m x k e = k x e
keeps-at (StreamText a) PlainText m x k e = tt
keeps-at PlainText to m x k e = tt

-- and so has what the next one gives of it
kept-as : (from written read to : TextKind) (x y z : List ℕ) → ReadAsWritten written read →
    HaveSame from written x y → HaveSame read to y z → HaveSame from to x z
kept-as (StreamText a) (StreamText b) (StreamText c) (StreamText d) x y z j h k =
    kept_twice a c d x y z (subst (λ w. HaveSameSuperblanks a w x y) (sym j) h) k
kept-as (StreamText a) (StreamText b) (StreamText c) PlainText x y z j h k = tt
kept-as (StreamText a) (StreamText b) PlainText to x y z j h k = absurd j
kept-as (StreamText a) PlainText read to x y z j h k = absurd j
kept-as PlainText written read to x y z j h k = tt

-- a row of stages keeps superblanks
row-keeps : (n : ℕ) (stages : List Stage) (ms : List Meaning) (x : List ℕ) → AreJoined stages →
    EachKeepsSuperblanks stages ms → (meaning n ms x Whole).fault ≡ None →
    HaveSame (row_reads stages) (row_writes stages) x (meaning n ms x Whole).text
row-keeps n [] ms x j k e = absurd j
row-keeps n (s ∷ ss) [] x j k e = absurd k
row-keeps n (s ∷ []) (m ∷ []) x j k e =
    keeps-at (stage_reads s) (stage_writes s) m x k.0 (none-own None n (m x Whole).fault e)
row-keeps n (s ∷ []) (m ∷ l ∷ ms) x j k e = absurd k.1
row-keeps n (s ∷ t ∷ ss) (m ∷ ms) x j k e =
    let own = none-own (meaning (suc n) ms (m x Whole).text Whole).fault n (m x Whole).fault e in
    let behind = none-behind (meaning (suc n) ms (m x Whole).text Whole).fault n
    (m x Whole).fault e in
    kept-as (stage_reads s) (stage_writes s) (stage_reads t) (row_writes (t ∷ ss)) x
    (m x Whole).text (meaning n (m ∷ ms) x Whole).text j.0
    (keeps-at (stage_reads s) (stage_writes s) m x k.0 own)
    (row-keeps (suc n) (t ∷ ss) ms (m x Whole).text j.1 k.1 behind)

-- what is written in a dialect is read in it
as-read : (from written read : TextKind) (x y : List ℕ) → ReadAsWritten written read →
    HaveSame from written x y → HaveSame from read x y
as-read (StreamText a) (StreamText b) (StreamText c) x y j h =
    subst (λ w. HaveSameSuperblanks a w x y) (sym j) h
as-read (StreamText a) (StreamText b) PlainText x y j h = absurd j
as-read (StreamText a) PlainText read x y j h = absurd j
as-read PlainText written read x y j h = tt

-- what the last stage reads has the superblanks of what goes into the first
kept-to : (n : ℕ) (from written : TextKind) (first x : List ℕ) (s : Stage) (ss : List Stage)
    (ms : List Meaning) → ReadAsWritten written (stage_reads s) → HaveSame from written first x →
    AreJoined (s ∷ ss) → EachKeepsSuperblanks (s ∷ ss) ms → (meaning n ms x Whole).fault ≡ None →
    KeptTo from first (s ∷ ss) ms x
kept-to n from written first x s ss [] r h j k e = absurd k
kept-to n from written first x s [] (m ∷ ms) r h j k e =
    as-read from written (stage_reads s) first x r h
kept-to n from written first x s (t ∷ ss) (m ∷ ms) r h j k e =
    let own = none-own (meaning (suc n) ms (m x Whole).text Whole).fault n (m x Whole).fault e in
    let behind = none-behind (meaning (suc n) ms (m x Whole).text Whole).fault n
    (m x Whole).fault e in
    kept-to (suc n) from (stage_writes s) first (m x Whole).text t ss ms j.0
    (kept-as from written (stage_reads s) (stage_writes s) first x (m x Whole).text r h
    (keeps-at (stage_reads s) (stage_writes s) m x k.0 own)) j.1 k.1 behind

-- what is read in a dialect was written in it
as-written : (written read to : TextKind) (x y : List ℕ) → ReadAsWritten written read →
    HaveSame read to x y → HaveSame written to x y
as-written (StreamText a) (StreamText b) (StreamText c) x y j h =
    subst (λ w. HaveSameSuperblanks w c x y) j h
as-written (StreamText a) (StreamText b) PlainText x y j h = tt
as-written (StreamText a) PlainText to x y j h = absurd j
as-written PlainText read to x y j h = tt

kept-inside : (n : ℕ) (stages : List Stage) (ms : List Meaning) (x : List ℕ) → AreJoined stages →
    EachKeepsSuperblanks stages ms → (meaning n ms x Whole).fault ≡ None → KeptInside stages ms x
kept-inside n [] ms x j k e = tt
kept-inside n (s ∷ []) ms x j k e = tt
kept-inside n (s ∷ t ∷ []) ms x j k e = tt
kept-inside n (s ∷ t ∷ u ∷ ss) [] x j k e = tt
kept-inside n (s ∷ t ∷ u ∷ ss) (m ∷ []) x j k e = tt
kept-inside n (s ∷ t ∷ u ∷ ss) (m ∷ l ∷ ms) x j k e =
    let d = (m x Whole).text in
    let y = (l d Whole).text in
    let behind = none-behind (meaning (suc n) (l ∷ ms) d Whole).fault n (m x Whole).fault e in
    let own = none-own (meaning (suc (suc n)) ms y Whole).fault (suc n) (l d Whole).fault behind in
    let last = none-behind (meaning (suc (suc n)) ms y Whole).fault (suc n) (l d Whole).fault
    behind in
    kept-to (suc (suc n)) (stage_writes s) (stage_writes t) d y u ss ms j.1.0
    (as-written (stage_writes s) (stage_reads t) (stage_writes t) d y j.0
    (keeps-at (stage_reads t) (stage_writes t) l d k.1.0 own)) j.1.1 k.1.1 last

not-fault : {A : Type 0} (status : Status) (file : ℕ) → status ≡ Done → status ≡ FileFault file → A
not-fault status file e f = let x : Done ≡ FileFault file = sym e ∙ f in cc

not-memory : {A : Type 0} (status : Status) → status ≡ Done → status ≡ Memory → A
not-memory status e f = let x : Done ≡ Memory = sym e ∙ f in cc

not-flaw : {A : Type 0} (status : Status) (file : ℕ) (flaw : Flaw) → status ≡ Done →
    status ≡ status_of_flaw file flaw → A
not-flaw status file TooLong e f = let x : Done ≡ Limit 0 6 file = sym e ∙ f in cc
not-flaw status file (OfDictionary number line) e f =
    let x : Done ≡ BadDictionary file number line = sym e ∙ f in cc
not-flaw status file (OfCompiled number line) e f = let x : Done ≡ BadCompiled file number line =
    sym e ∙ f in cc
not-flaw status file (OfRules number line) e f = let x : Done ≡ BadRules file number line =
    sym e ∙ f in cc

not-done : {A : Type 0} (n : ℕ) (f : StreamFault) → Done ≡ status_at n f → A
not-done n (fault.Malformed kind place) e = cc
not-done n (fault.Limit kind place) e = cc
not-done n fault.Memory e = cc

module _ (words : List (List ℕ)) (command : Command) (before after : Outside) where
  -- all was put of what the row gives
  went-kept : (stages : List Stage) (ms : List Meaning) (input : List ℕ) →
      AreMeanings stages ms → AreJoined stages → EachKeepsSuperblanks stages ms →
      IsTaken before.source after.source input Clean →
      WentThrough (meaning 1 ms) input Clean before.sink after.sink outcome.Done →
      StreamsSuperblanks stages before after
  went-kept stages ms input mean j k taken w =
      let all : meaning 1 ms input Whole ≡ record { text = w.text; fault = None } =
      ap (λ x. meaning 1 ms x Whole) (sym (append-nil input))
      ∙ w.told [] Whole (no-more Clean) in
      record {
        input = input;
        taken = taken;
        text = w.text;
        put = record { put = w.put; calm = w.calm };
        kept = subst (λ (t : RowTold). HaveSame (row_reads stages) (row_writes stages)
            input t.text) all (row-keeps 1 stages ms input j k (ap (λ (t : RowTold). t.fault) all));
        meanings = ms;
        mean = mean;
        inside = kept-inside 1 stages ms input j k (ap (λ (t : RowTold). t.fault) all);
      }

  came-kept : (stages : List Stage) (ms : List Meaning) (input : List ℕ) (intake : Intake)
      (o : Outcome) → Done ≡ status_of_outcome o → AreMeanings stages ms → AreJoined stages →
      EachKeepsSuperblanks stages ms
      → IsTaken before.source after.source input intake →
      Came (meaning 1 ms) input intake before.sink after.sink o →
      StreamsSuperblanks stages before after
  came-kept stages ms input intake outcome.Done e mean j k taken c =
      went-kept stages ms input mean j k
      (subst (λ i. IsTaken before.source after.source input i) c.1 taken)
      (subst (λ i. WentThrough (meaning 1 ms) input i before.sink after.sink
      outcome.Done) c.1 c.0)
  came-kept stages ms input intake outcome.ReadFault e mean j k taken c =
      absurd (let x : Done ≡ ReadFault = e in cc)
  came-kept stages ms input intake outcome.WriteFault e mean j k taken c =
      absurd (let x : Done ≡ WriteFault = e in cc)
  came-kept stages ms input intake outcome.InputTooLong e mean j k taken c = absurd (cc)
  came-kept stages ms input intake (outcome.Fault n f) e mean j k taken c = not-done n f e

  stream-kept : (stages : List Stage) (status : Status) → status ≡ Done →
      FlowsOrStops stages before.source after.source before.sink after.sink status →
      StreamsSuperblanks stages before after
  stream-kept stages status e (inl f) =
      came-kept stages f.meanings f.went.input f.went.intake f.outcome (sym e ∙ f.status_is)
      f.mean f.joined f.keeps f.went.taken f.went.came
  stream-kept stages status e (inr u) = not-memory status e u.memory

  unrefused : {A : Type 0} (status : Status) → status ≡ Done →
      Refused words before.files after.files (files_of command) status → A
  unrefused status e (Unloaded file f h) = not-fault status file e f
  unrefused status e (Flawed file flaw f h) = not-flaw status file flaw e f
  unrefused status e (Starved f) = not-memory status e f

-- the translation of the workload
pub work-kept : (sentences : ℕ) (inside : Outside) →
    IsStreamAnswer run_words (before_work sentences) inside Done work_run →
    (stages : List Stage) × IsBuiltInRow stages
    × StreamsSuperblanks stages (before_work sentences) inside
work-kept sentences inside (inl r) =
    unrefused run_words work_run (before_work sentences) inside Done refl
    (refused-so run_words (before_work sentences).files inside.files (files_of work_run) Done
    r.refused)
work-kept sentences inside (inr (inl p)) = (
  p.flows.0,
  record { said = p.said; opened = p.opened; gives = p.flows.1 },
  stream-kept run_words work_run (before_work sentences) inside p.flows.0 Done refl p.flows.2,
)
work-kept sentences inside (inr (inr i)) = not-memory Done refl i.memory

module _ (words : List (List ℕ)) (command : Command) (before after : Outside) where
  ended-kept : (sentences : ℕ) (old new : Standing) (status ended : Status) (inside : Outside)
      (text : List ℕ) → IsStreamAnswer run_words (before_work sentences) inside ended work_run →
      IsReported sentences old new text ended status → status ≡ Done →
      GivesSuperblanks (Works sentences) before after
  ended-kept sentences old new status Done inside text a h e =
      let k = work-kept sentences inside a in (k.0, k.1, inside, k.2)
  ended-kept sentences old new status ended inside text a h e =
      absurd (undone-stays ended (λ x. cc) (sym h.1 ∙ e))

  run-kept : (g : Gives) (status : Status) → status ≡ Done → IsRun words g before after status →
      GivesSuperblanks g before after
  run-kept (Streams stages) status e r = stream-kept words command before after stages status e r.1
  run-kept (Lists text) status e r = tt
  run-kept (Stores out making) status e r = tt
  run-kept (Works sentences) status e r =
      ended-kept sentences before.sink after.sink status r.2.ended r.2.after
      (bytes_of r.2.after.sink.bytes) r.2.ran r.2.reported e
  run-kept Nothing status e r = tt

  answer-kept : (status : Status) → status ≡ Done →
      IsCommandAnswer words before after status command →
      OnAccepted words command before (λ given. GivesSuperblanks given before after)
  answer-kept status e (inl r) =
      unrefused words command before after status e (refused-so words before.files after.files (files_of command)
      status r.refused)
  answer-kept status e (inr (inl p)) =
      record {
        said = p.said;
        opened = p.opened;
        given =
            run-kept (gives_of command p.said) status e p.ran;
      }
  answer-kept status e (inr (inr i)) = not-memory status e i.memory

pub superblanks-from : (words : List (List ℕ)) (before after : Outside) (status : Status) →
    IsAnswer words before after status → (command : Command) → command_of words ≡ Ok command →
    status ≡ Done → OnAccepted words command before (λ given. GivesSuperblanks given before after)
superblanks-from words before after status a command c e =
    answer-kept words command before after status e
    (by-command words before after status command a c)
