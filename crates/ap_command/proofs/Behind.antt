-- In a row whose stages read on what is written for them, a text is malformed for the first stage
-- alone.
use Rattle.std.proofs.Common.{◌≡◌, ℕ, zero, suc, ◌<◌, ◌≤◌, List, [], ◌∷◌, map, arith, ap, sym, ◌∙◌, subst, refl, inl, inr, Some, Result, Ok, Err}
use Rattle.ap_stream.specs.ReadOn.{WritesFor, NeverMalformed}
use Rattle.ap_stream.specs.Told.{Ending as TextEnding}
use Rattle.ap_stream.specs.declared.dialect.Dialect.{Dialect}
use Rattle.ap_stream.specs.declared.dialect.Dialect.TheVariants.{Raw}
use Rattle.ap_stream.specs.declared.fault.MalformedKind.{MalformedKind}
use Rattle.ap_stream.specs.declared.fault.StreamFault.TheVariants as fault
use Rattle.ap_pipe.specs.declared.round.Intake.{Intake}
use Rattle.ap_pipe.specs.declared.round.Outcome.{Outcome}
use Rattle.ap_pipe.specs.declared.round.Outcome.TheVariants as outcome
use Rattle.ap_pipe.specs.Answers.{ending_of as text_ending}
use Rattle.ap_pipe.specs.Behind.{AreLinked, BehindTheFirst}
use Rattle.ap_pipe.specs.Flow.{WentThrough, Came}
use Rattle.ap_pipe.specs.Row.{RowTold, meaning}
use Rattle.ap_pipe.specs.Standing.{Standing}
use Rattle.ap_command.specs.declared.status.Status.{Status}
use Rattle.ap_command.specs.declared.status.Status.TheVariants.{Done, Usage, FileFault, ReadFault, WriteFault, BadDictionary, BadRules, BadCompiled, Malformed, Limit, Memory}
use Rattle.ap_command.specs.declared.words.Command.{Command}
use Rattle.ap_command.specs.declared.words.UsageFault.{UsageFault}
use Rattle.ap_command.specs.Words.{command_of, files_of}
use Rattle.ap_command.specs.Messages.{name_at}
use Rattle.ap_command.specs.Outside.{Outside}
use Rattle.ap_command.specs.Rows.{Stage, Meaning, TextKind, PlainText, StreamText, AreJoined, ReadAsWritten, EachLinks, LinksAs, stage_reads, stage_writes}
use Rattle.ap_command.specs.Gives.{Gives, Streams, Lists, Stores, Works, Nothing, gives_of, Making}
use Rattle.ap_command.specs.Listing.{IsListed}
use Rattle.ap_command.specs.Reading.{Flaw, TooLong, OfDictionary, OfCompiled, OfRules, status_of_flaw}
use Rattle.ap_command.specs.Stream.{malformed_number, status_of_outcome, FlowsOrStops}
use Rattle.ap_command.specs.Compiling.{StoresOrStops}
use Rattle.ap_command.specs.Working.{run_words, work_run, before_work, work_lines, of_built_in}
use Rattle.ap_command.specs.Answer.{IsRun, IsStreamAnswer, IsReported, IsWorked, bytes_of, IsCommandAnswer, IsAnswerTo, IsAnswer}
use Rattle.ap_command.proofs.Flowing.{no-more, went-stage}
use Rattle.ap_command.proofs.Sending.{Refused, Unloaded, Flawed, Starved, refused-so}

-- the dialect that a stage behind another reads
abbrev dialect-of : TextKind → Dialect
dialect-of (StreamText dialect) = dialect
dialect-of PlainText = Raw

writes-for : (from written read : TextKind) (m : Meaning) → ReadAsWritten written read →
    LinksAs from written m → WritesFor (dialect-of read) m
writes-for (StreamText a) (StreamText b) (StreamText c) m j l =
    subst (λ (d : Dialect). WritesFor d m) (sym j) l.written
writes-for PlainText (StreamText b) (StreamText c) m j l =
    subst (λ (d : Dialect). WritesFor d m) (sym j) l
writes-for from (StreamText b) PlainText m j l = absurd j
writes-for from PlainText read m j l = absurd j

never-at : (written read to : TextKind) (m : Meaning) → ReadAsWritten written read →
    LinksAs read to m → NeverMalformed (dialect-of read) m
never-at (StreamText a) (StreamText b) (StreamText c) m j l = l.taken
never-at (StreamText a) (StreamText b) PlainText m j l = l
never-at (StreamText a) PlainText to m j l = absurd j
never-at PlainText read to m j l = absurd j

abbrev read-by : Stage → Dialect
read-by s = dialect-of (stage_reads s)

-- each stage reads on what the one before it writes
linked : (ss : List Stage) (s : Stage) (m : Meaning) (ms : List Meaning) → AreJoined (s ∷ ss) →
    EachLinks (s ∷ ss) (m ∷ ms) → AreLinked m (map read-by ss) ms
linked [] s m [] j l = tt
linked [] s m (n ∷ ns) j l = absurd l.1
linked (t ∷ ss) s m [] j l = tt
linked (t ∷ ss) s m (n ∷ ns) j l = (
  writes-for (stage_reads s) (stage_writes s) (stage_reads t) m j.0 l.0,
  never-at (stage_writes s) (stage_reads t) (stage_writes t) n j.0 l.1.0,
  linked ss t n ns j.1 l.1,
)

-- so no text is malformed for one behind the first
first-alone : BehindTheFirst → (stages : List Stage) (ms : List Meaning) → AreJoined stages →
    EachLinks stages ms → (text : List ℕ) (ending : TextEnding) (n : ℕ) (kind : MalformedKind)
    (place : ℕ)
    → (meaning 1 ms text ending).fault
    ≡ Some (record { stage = n; fault = fault.Malformed kind place }) → 1 < n → ⊥
first-alone law [] ms j l text ending n kind place e more = absurd j
first-alone law (s ∷ ss) [] j l text ending n kind place e more = absurd l
first-alone law (s ∷ ss) (m ∷ ms) j l text ending n kind place e more =
    law m ms (map read-by ss) (linked ss s m ms j l) 1 text ending
    (record { stage = n; fault = fault.Malformed kind place }) e more kind place refl

the-first : (n : ℕ) → 1 ≤ n → (1 < n → ⊥) → n ≡ 1
the-first zero some only = absurd (omega arith)
the-first (suc zero) some only = refl
the-first (suc (suc n)) some only = absurd (only (omega arith))

went-first : BehindTheFirst → (stages : List Stage) (ms : List Meaning) → AreJoined stages →
    EachLinks stages ms → (input : List ℕ) (intake : Intake) (k l : Standing) (n : ℕ)
    (kind : MalformedKind) (place : ℕ)
    → WentThrough (meaning 1 ms) input intake k l (outcome.Fault n (fault.Malformed kind place)) →
    n ≡ 1
went-first law stages ms j h input intake k l n kind place w =
    the-first n (went-stage ms input intake k l n (fault.Malformed kind place) w)
    (first-alone law stages ms j h _ (text_ending intake) n kind place
    (ap (λ (t : RowTold). t.fault) (w.told [] (text_ending intake) (no-more intake))))

module _ (law : BehindTheFirst) (status : Status) (stage kind place : ℕ)
    (malformed : status ≡ Malformed stage kind place) where
  not-done : status ≡ Done → stage ≡ 1
  not-done e = let x : Done ≡ Malformed stage kind place = sym e ∙ malformed in cc

  not-write : status ≡ WriteFault → stage ≡ 1
  not-write e = let x : WriteFault ≡ Malformed stage kind place = sym e ∙ malformed in cc

  not-memory : status ≡ Memory → stage ≡ 1
  not-memory e = let x : Memory ≡ Malformed stage kind place = sym e ∙ malformed in cc

  not-file : (file : ℕ) → status ≡ FileFault file → stage ≡ 1
  not-file file e = let x : FileFault file ≡ Malformed stage kind place = sym e ∙ malformed in cc

  not-limit : (n k p : ℕ) → status ≡ Limit n k p → stage ≡ 1
  not-limit n k p e = let x : Limit n k p ≡ Malformed stage kind place = sym e ∙ malformed in cc

  not-flaw : (file : ℕ) (flaw : Flaw) → status ≡ status_of_flaw file flaw → stage ≡ 1
  not-flaw file TooLong e = not-limit 0 6 file e
  not-flaw file (OfDictionary number line) e =
      let x : BadDictionary file number line ≡ Malformed stage kind place = sym e ∙ malformed in cc
  not-flaw file (OfCompiled number line) e =
      let x : BadCompiled file number line ≡ Malformed stage kind place = sym e ∙ malformed in cc
  not-flaw file (OfRules number line) e =
      let x : BadRules file number line ≡ Malformed stage kind place = sym e ∙ malformed in cc

  came-first : (stages : List Stage) (ms : List Meaning) → AreJoined stages → EachLinks stages ms →
      (input : List ℕ) (intake : Intake) (k l : Standing) (o : Outcome) →
      status ≡ status_of_outcome o → Came (meaning 1 ms) input intake k l o → stage ≡ 1
  came-first stages ms j h input intake k l outcome.Done e c = not-done e
  came-first stages ms j h input intake k l outcome.ReadFault e c =
      let x : ReadFault ≡ Malformed stage kind place = sym e ∙ malformed in cc
  came-first stages ms j h input intake k l outcome.WriteFault e c = not-write e
  came-first stages ms j h input intake k l outcome.InputTooLong e c = not-limit _ _ _ e
  came-first stages ms j h input intake k l (outcome.Fault n (fault.Malformed m p)) e c =
      let x : Malformed n (malformed_number m) p ≡ Malformed stage kind place =
      sym e ∙ malformed in
      let same : n ≡ stage = cc in
      sym same ∙ went-first law stages ms j h input intake k l n m p (c.1 (λ y. cc))
  came-first stages ms j h input intake k l (outcome.Fault n (fault.Limit m p)) e c =
      not-limit _ _ _ e
  came-first stages ms j h input intake k l (outcome.Fault n fault.Memory) e c = not-memory e

  flows-first : (stages : List Stage) (s t k l : Standing) → FlowsOrStops stages s t k l status →
      stage ≡ 1
  flows-first stages s t k l (inl f) =
      came-first stages f.meanings f.joined f.links f.went.input f.went.intake k l f.outcome
      f.status_is f.went.came
  flows-first stages s t k l (inr u) = not-memory u.memory

  list-first : (k l : Standing) (text : List ℕ) → IsListed k l text status → stage ≡ 1
  list-first k l text (inl w) = not-done w.1
  list-first k l text (inr (inl w)) = not-write w.1
  list-first k l text (inr (inr w)) = not-memory w.memory

  module _ (words : List (List ℕ)) (before after : Outside) where
    store-first : (out : ℕ) (making : Making) →
        StoresOrStops making out (name_at words out) before.files after.files before.sink after.sink
        status → stage ≡ 1
    store-first out making (inl c) = elim c.summed [
      | inl w ↦ not-done w.1
      | inr w ↦ not-write w.1
    ]
    store-first out making (inr (inl s)) = not-file out s.status_is
    store-first out making (inr (inr m)) = not-memory m.memory

    module _ (command : Command) where
      unrefused : Refused words before.files after.files (files_of command) status → stage ≡ 1
      unrefused (Unloaded file f h) = not-file file f
      unrefused (Flawed file flaw f h) = not-flaw file flaw f
      unrefused (Starved f) = not-memory f

      sent-first : IsStreamAnswer words before after status command → stage ≡ 1
      sent-first (inl r) =
          unrefused (refused-so words before.files after.files (files_of command) status r.refused)
      sent-first (inr (inl p)) =
          flows-first p.flows.0 before.source after.source before.sink after.sink p.flows.2
      sent-first (inr (inr i)) = not-memory i.memory

-- in the workload too
module _ (law : BehindTheFirst) (sentences : ℕ) (old new : Standing) (status : Status)
    (stage kind place : ℕ) (malformed : status ≡ Malformed stage kind place) where
  ended-first : (ended : Status) (inside : Outside) (text : List ℕ) →
      IsStreamAnswer run_words (before_work sentences) inside ended work_run →
      IsReported sentences old new text ended status → stage ≡ 1
  ended-first Done inside text r h =
      list-first law status stage kind place malformed old new (work_lines sentences text) h
  ended-first (Malformed n k p) inside text r h =
      sent-first law (Malformed n k p) stage kind place (sym h.1 ∙ malformed) run_words
      (before_work sentences) inside work_run r
  ended-first (Limit zero k p) inside text r h =
      let x : of_built_in (Limit 0 k p) ≡ Malformed stage kind place = sym h.1 ∙ malformed in cc
  ended-first (Limit (suc n) k p) inside text r h =
      let x : of_built_in (Limit (suc n) k p) ≡ Malformed stage kind place = sym h.1 ∙ malformed in
      cc
  ended-first ended inside text r h =
      let x : of_built_in ended ≡ Malformed stage kind place = sym h.1 ∙ malformed in cc

  work-first : IsWorked sentences old new status → stage ≡ 1
  work-first w = ended-first w.ended w.after (bytes_of w.after.sink.bytes) w.ran w.reported

module _ (law : BehindTheFirst) (status : Status) (stage kind place : ℕ)
    (malformed : status ≡ Malformed stage kind place) (words : List (List ℕ))
    (before after : Outside) where
  run-first : (g : Gives) → IsRun words g before after status → stage ≡ 1
  run-first (Streams stages) r =
      flows-first law status stage kind place malformed stages before.source after.source
      before.sink after.sink r.1
  run-first (Lists text) r =
      list-first law status stage kind place malformed before.sink after.sink text r.2
  run-first (Stores out making) r =
      store-first law status stage kind place malformed words before after out making r.1
  run-first (Works sentences) r =
      work-first law sentences before.sink after.sink status stage kind place malformed r.2
  run-first Nothing r = absurd r

  answer-first : (command : Command) → IsCommandAnswer words before after status command →
      stage ≡ 1
  answer-first command (inl r) =
      unrefused law status stage kind place malformed words before after command
      (refused-so words before.files after.files (files_of command) status r.refused)
  answer-first command (inr (inl p)) = run-first (gives_of command p.said) p.ran
  answer-first command (inr (inr i)) =
      not-memory law status stage kind place malformed i.memory

  words-first : (r : Result Command UsageFault) → IsAnswerTo words before after status r →
      stage ≡ 1
  words-first (Err f) a =
      let x : Usage ≡ Malformed stage kind place = sym a.0 ∙ malformed in cc
  words-first (Ok command) a = answer-first command a

pub behind-from : BehindTheFirst → (words : List (List ℕ)) (before after : Outside)
    (status : Status) → IsAnswer words before after status → (stage kind place : ℕ) →
    status ≡ Malformed stage kind place → stage ≡ 1
behind-from law words before after status a stage kind place e =
    words-first law status stage kind place e words before after (command_of words) a.by_words
