-- Why a run answers as it does: by the cases of an answer, for every command at once.
use Rattle.std.proofs.Common.{◌≡◌, ◌≢◌, ℕ, zero, suc, ◌≤◌, true, false, List, [], ◌∷◌, arith, subst, sym, ap, ◌∙◌, refl, inl, inr, Option, Some, None, Result, Ok, Err, append-nil}
use Rattle.std.specs.Prelude.{◌↔◌}
use Rattle.ap_outside.specs.Told.{StoresSome}
use Rattle.ap_stream.specs.Told.{Ending as TextEnding}
use Rattle.ap_stream.specs.declared.fault.StreamFault.{StreamFault}
use Rattle.ap_stream.specs.declared.fault.StreamFault.TheVariants as fault
use Rattle.ap_command.specs.Said.{Said}
use Rattle.ap_command.specs.declared.reading.Reading.{Reading}
use Rattle.ap_command.specs.declared.status.Status.{Status}
use Rattle.ap_command.specs.declared.status.Status.TheVariants.{Done, Usage, FileFault, ReadFault, WriteFault, Memory}
use Rattle.ap_pipe.specs.declared.round.Intake.{Intake}
use Rattle.ap_pipe.specs.declared.round.Intake.TheVariants.{Clean, Failed, TooLong as TooMuch}
use Rattle.ap_command.specs.declared.words.Command.{Command}
use Rattle.ap_command.specs.declared.words.UsageFault.{UsageFault}
use Rattle.ap_command.specs.Words.{command_of, files_of, out_of, has_stream, usage}
use Rattle.ap_command.specs.Messages.{name_at}
use Rattle.ap_pipe.specs.Standing.{Standing}
use Rattle.ap_command.specs.Standing.{PutsAll}
use Rattle.ap_command.specs.Outside.{FilesStanding, Outside}
use Rattle.ap_pipe.specs.declared.round.Outcome.{Outcome}
use Rattle.ap_pipe.specs.declared.round.Outcome.TheVariants as outcome
use Rattle.ap_pipe.specs.Row.{RowTold, meaning}
use Rattle.ap_pipe.specs.Answers.{ending_of as text_ending, outcome_fault}
use Rattle.ap_pipe.specs.Flow.{IsTaken, WentThrough, Came}
use Rattle.ap_command.specs.Rows.{Stage, Meaning, AreMeanings}
use Rattle.ap_command.specs.Gives.{Gives, Streams, Lists, Stores, Works, Nothing, gives_of, Making}
use Rattle.ap_command.specs.Listing.{IsListed}
use Rattle.ap_command.specs.Reading.{HasText, Flaw, TooLong, OfDictionary, OfCompiled, OfRules, status_of_flaw, IsFlawOf}
use Rattle.ap_command.specs.Stream.{status_at, status_of_outcome, FlowsOrStops}
use Rattle.ap_command.specs.Compiling.{StoresOrStops}
use Rattle.ap_command.specs.Answer.{AllOpen, Reaches, IsUnloaded, IsRefusal, IsUntouched, IsRun, IsCommandAnswer, IsAnswerTo, IsAnswer, Opens}
use Rattle.ap_command.specs.Account.{IsFlawed, StreamsAll, StreamsToFault, GivesAll, GivesFault, OnAccepted, Reason, IsKeptBut, IsSpared}
use Rattle.ap_command.proofs.Fitting.{streams-out, streams-stream, lists-out, stores-out}
use Rattle.ap_command.proofs.Flowing.{no-more, went-stage}
use Rattle.ap_command.proofs.Sending.{refused-so, because, refused-reason, stream-reason, list-reason, store-reason}
use Rattle.ap_command.proofs.Worked.{work-reason, worked-calm}

module _ (words : List (List ℕ)) (command : Command) (before after : Outside) where
  module _ (said : List Said) (opened : AllOpen words before.files (files_of command) said) where
    run-reason : (g : Gives) (status : Status) → g ≡ gives_of command said →
        IsRun words g before after status → Reason words command before after status
    run-reason (Streams stages) status g r =
        stream-reason words command before after said opened stages status g r.0 r.1
    run-reason (Lists text) status g r =
        list-reason words command before after said opened text status g r.0 r.2
    run-reason (Stores out making) status g r =
        store-reason words command before after said opened out making status g r.0 r.1
    run-reason (Works sentences) status g r =
        work-reason words command before after said opened sentences status g r.0 r.2
    run-reason Nothing status g r = absurd r

    -- no put failed, but where WriteFault is answered
    list-calm : (text : List ℕ) (status : Status) → (status ≡ WriteFault → ⊥) →
        IsListed before.sink after.sink text status → after.sink.faults ≡ before.sink.faults
    list-calm text status n (inl w) = w.0.calm
    list-calm text status n (inr (inl w)) = absurd (n w.1)
    list-calm text status n (inr (inr w)) = w.calm

    store-calm : (out : ℕ) (making : Making) (status : Status) → (status ≡ WriteFault → ⊥) →
        StoresOrStops making out (name_at words out) before.files after.files before.sink after.sink
        status → after.sink.faults ≡ before.sink.faults
    store-calm out making status n (inl c) = elim c.summed [
      | inl w ↦ w.0.calm
      | inr w ↦ absurd (n w.1)
    ]
    store-calm out making status n (inr (inl s)) = ap (λ (x : Standing). x.faults) s.unwritten
    store-calm out making status n (inr (inr m)) = ap (λ (x : Standing). x.faults) m.unwritten

    came-calm : (row : List ℕ → TextEnding → RowTold) (input : List ℕ) (intake : Intake)
        (o : Outcome) (status : Status) → (status ≡ WriteFault → ⊥) → status ≡ status_of_outcome o →
        Came row input intake before.sink after.sink o → after.sink.faults ≡ before.sink.faults
    came-calm row input intake outcome.Done status n e c = c.0.calm
    came-calm row input intake outcome.ReadFault status n e c = c.0.calm
    came-calm row input intake outcome.InputTooLong status n e c = c.0.calm
    came-calm row input intake outcome.WriteFault status n e c = absurd (n e)
    came-calm row input intake (outcome.Fault k fault.Memory) status n e c = (c.0 refl).1
    came-calm row input intake (outcome.Fault k (fault.Malformed kind place)) status n e c =
        (c.1 (λ x. cc)).calm
    came-calm row input intake (outcome.Fault k (fault.Limit kind place)) status n e c =
        (c.1 (λ x. cc)).calm

    pub stream-calm : (stages : List Stage) (status : Status) → (status ≡ WriteFault → ⊥) →
        FlowsOrStops stages before.source after.source before.sink after.sink status →
        after.sink.faults ≡ before.sink.faults
    stream-calm stages status n (inl f) =
        came-calm (meaning 1 f.meanings) f.went.input f.went.intake f.outcome status n f.status_is
        f.went.came
    stream-calm stages status n (inr u) = ap (λ (x : Standing). x.faults) u.unwritten

    run-calm : (g : Gives) (status : Status) → (status ≡ WriteFault → ⊥) →
        IsRun words g before after status → after.sink.faults ≡ before.sink.faults
    run-calm (Streams stages) status n r = stream-calm stages status n r.1
    run-calm (Lists text) status n r = list-calm text status n r.2
    run-calm (Stores out making) status n r = store-calm out making status n r.1
    run-calm (Works sentences) status n r = worked-calm sentences before.sink after.sink status n r.2
    run-calm Nothing status n r = absurd r

    -- what stays
    kept-none : (o : Option ℕ) → after.files ≡ before.files →
        IsKeptBut words o before.files after.files
    kept-none None e = ap (λ (x : FilesStanding). x.contents) e
    kept-none (Some out) e = inl (ap (λ (x : FilesStanding). x.contents) e)

    kept-some : (o : Option ℕ) (out : ℕ) → o ≡ Some out →
        StoresSome before.files.contents after.files.contents (name_at words out) →
        IsKeptBut words o before.files after.files
    kept-some None out e h = absurd (let x : None ≡ Some out = e in cc)
    kept-some (Some k) out e h =
        inr (subst (λ n. StoresSome before.files.contents after.files.contents (name_at words n))
        (let x : out ≡ k = cc in x) h)

    store-kept : (out : ℕ) (making : Making) (status : Status) →
        Stores out making ≡ gives_of command said →
        StoresOrStops making out (name_at words out) before.files after.files before.sink after.sink
        status → IsKeptBut words (out_of command) before.files after.files
    store-kept out making status g (inl c) =
        kept-some (out_of command) out (stores-out command said out making g)
        (Some _, c.stored.stored)
    store-kept out making status g (inr (inl s)) =
        kept-some (out_of command) out (stores-out command said out making g) s.held
    store-kept out making status g (inr (inr m)) = kept-none (out_of command) m.unstored

    run-spared : (g : Gives) (status : Status) → g ≡ gives_of command said →
        IsRun words g before after status →
        IsKeptBut words (out_of command) before.files after.files
        × (has_stream command ≡ false → after.source ≡ before.source)
    run-spared (Streams stages) status g r = (
      kept-none (out_of command) r.0,
      λ n. absurd (let x : true ≡ false = sym (streams-stream command said stages g) ∙ n in cc),
    )
    run-spared (Lists text) status g r = (kept-none (out_of command) r.0, λ n. r.1)
    run-spared (Stores out making) status g r = (store-kept out making status g r.1, λ n. r.0)
    run-spared (Works sentences) status g r = (kept-none (out_of command) r.0, λ n. r.1)
    run-spared Nothing status g r = absurd r

  pub answer-reason : (status : Status) → IsCommandAnswer words before after status command →
      Reason words command before after status
  answer-reason status (inl r) =
      refused-reason words command before after status r.untouched
      (refused-so words before.files after.files (files_of command) status r.refused)
  answer-reason status (inr (inl p)) =
      run-reason p.said p.opened (gives_of command p.said) status refl p.ran
  answer-reason status (inr (inr i)) =
      because words command before after status Memory i.memory (
        ap (λ (x : Outside). x.files.contents) i.same,
        λ out e. ap (λ (x : Outside). x.sink) i.same,
      )

  answer-calm : (status : Status) → (status ≡ WriteFault → ⊥) →
      IsCommandAnswer words before after status command → after.sink.faults ≡ before.sink.faults
  answer-calm status n (inl r) = ap (λ (x : Standing). x.faults) r.untouched.sink
  answer-calm status n (inr (inl p)) =
      run-calm p.said p.opened (gives_of command p.said) status n p.ran
  answer-calm status n (inr (inr i)) = ap (λ (x : Outside). x.sink.faults) i.same

  untouched-kept : (o : Option ℕ) → after.files.contents ≡ before.files.contents →
      IsKeptBut words o before.files after.files
  untouched-kept None e = e
  untouched-kept (Some out) e = inl e

  answer-spared : (status : Status) → IsCommandAnswer words before after status command →
      IsKeptBut words (out_of command) before.files after.files
      × (has_stream command ≡ false → after.source ≡ before.source)
  answer-spared status (inl r) =
      (untouched-kept (out_of command) r.untouched.contents, λ n. r.untouched.source)
  answer-spared status (inr (inl p)) =
      run-spared p.said p.opened (gives_of command p.said) status refl p.ran
  answer-spared status (inr (inr i)) = (
    untouched-kept (out_of command) (ap (λ (x : Outside). x.files.contents) i.same),
    λ n. ap (λ (x : Outside). x.source) i.same,
  )

pub by-command : (words : List (List ℕ)) (old new : Outside) (status : Status) (command : Command) →
    IsAnswer words old new status → command_of words ≡ Ok command →
    IsCommandAnswer words old new status command
by-command words old new status command a e =
    subst (λ r. IsAnswerTo words old new status r) e a.by_words

pub reason-from : (words : List (List ℕ)) (old new : Outside) (status : Status) →
    IsAnswer words old new status → (command : Command) → command_of words ≡ Ok command →
    Reason words command old new status
reason-from words old new status a command e =
    answer-reason words command old new status (by-command words old new status command a e)

usage-by : (words : List (List ℕ)) (old new : Outside) (status : Status)
    (r : Result Command UsageFault) → IsAnswerTo words old new status r →
    (status ≡ Usage) ↔ (r ≡ usage)
usage-by words old new status (Err fault) a = ((λ e. refl), (λ e. a.0))
usage-by words old new status (Ok command) a = (
  (λ e. absurd (subst (λ s. Reason words command old new s) e
      (answer-reason words command old new status a))),
  (λ e. cc),
)

pub usage-from : (words : List (List ℕ)) (old new : Outside) (status : Status) →
    IsAnswer words old new status → (status ≡ Usage) ↔ (command_of words ≡ usage)
usage-from words old new status a = usage-by words old new status (command_of words) a.by_words

calm-by : (words : List (List ℕ)) (old new : Outside) (status : Status)
    (r : Result Command UsageFault) → (status ≡ WriteFault → ⊥) → IsAnswerTo words old new status r
    → new.sink.faults ≡ old.sink.faults
calm-by words old new status (Err fault) n a = ap (λ (x : Outside). x.sink.faults) a.1
calm-by words old new status (Ok command) n a = answer-calm words command old new status n a

pub calm-from : (words : List (List ℕ)) (old new : Outside) (status : Status) →
    IsAnswer words old new status → (status ≡ WriteFault → ⊥) → new.sink.faults ≡ old.sink.faults
calm-from words old new status a n = calm-by words old new status (command_of words) n a.by_words

spared-by : (words : List (List ℕ)) (old new : Outside) (status : Status)
    (r : Result Command UsageFault) → IsAnswerTo words old new status r → IsSpared words old new r
spared-by words old new status (Err fault) a = a.1
spared-by words old new status (Ok command) a = answer-spared words command old new status a

pub spared-from : (words : List (List ℕ)) (old new : Outside) (status : Status) →
    IsAnswer words old new status → IsSpared words old new (command_of words)
spared-from words old new status a = spared-by words old new status (command_of words) a.by_words
