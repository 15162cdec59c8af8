-- What a run leaves as it was: for every command at once.
use Rattle.std.proofs.Common.{◌≡◌, ℕ, zero, suc, ◌≤◌, ◌==◌, ◌⊎◌, Bool, true, false, List, [], ◌∷◌, arith, sym, ap, ◌∙◌, refl, inl, inr, Ok, Err, Result}
use Rattle.ap_stream.specs.declared.fault.StreamFault.{StreamFault}
use Rattle.ap_stream.specs.declared.fault.StreamFault.TheVariants as fault
use Rattle.ap_pipe.specs.declared.round.Intake.{Intake}
use Rattle.ap_pipe.specs.declared.round.Outcome.{Outcome}
use Rattle.ap_pipe.specs.declared.round.Outcome.TheVariants as outcome
use Rattle.ap_pipe.specs.Row.{meaning}
use Rattle.ap_pipe.specs.Flow.{Came}
use Rattle.ap_pipe.specs.Standing.{Standing}
use Rattle.ap_command.specs.declared.reading.Reading.{Reading}
use Rattle.ap_command.specs.declared.status.Status.{Status}
use Rattle.ap_command.specs.declared.status.Status.TheVariants.{Done, FileFault, WriteFault, BadDictionary, BadRules, BadCompiled, Limit, Memory}
use Rattle.ap_command.specs.declared.words.Command.{Command}
use Rattle.ap_command.specs.declared.words.UsageFault.{UsageFault}
use Rattle.ap_command.specs.Words.{command_of, files_of}
use Rattle.ap_command.specs.Messages.{name_at}
use Rattle.ap_command.specs.Outside.{FilesStanding, Outside}
use Rattle.ap_command.specs.Rows.{Stage, Meaning}
use Rattle.ap_command.specs.Gives.{Gives, Streams, Lists, Stores, Works, Nothing, gives_of, Making}
use Rattle.ap_command.specs.Listing.{IsListed}
use Rattle.ap_command.specs.Reading.{Flaw, TooLong, OfDictionary, OfCompiled, OfRules, status_of_flaw}
use Rattle.ap_command.specs.Stream.{status_at, status_of_outcome, FlowsOrStops}
use Rattle.ap_command.specs.Compiling.{StoresOrStops}
use Rattle.ap_command.specs.Answer.{Reaches, IsRefusal, IsRun, IsCommandAnswer, IsAnswerTo, IsAnswer}
use Rattle.ap_command.specs.Account.{HasSameFaults}
use Rattle.ap_command.proofs.Flowing.{went-stage}
use Rattle.ap_command.proofs.Worked.{went}

-- what stands the same in its parts stands the same
pub same-outside : (old new : Outside) → new.files ≡ old.files → new.source ≡ old.source →
    new.sink ≡ old.sink → new ≡ old
same-outside old new e f g =
    let by_files : FilesStanding → Outside =
    λ x. record { files = x; source = new.source; sink = new.sink } in
    let by_source : Standing → Outside =
    λ x. record { files = old.files; source = x; sink = new.sink } in
    let by_sink : Standing → Outside =
    λ x. record { files = old.files; source = old.source; sink = x } in
    ap by_files e ∙ ap by_source f ∙ ap by_sink g

-- a refusal leaves the files and their counts, but where a load failed
pub unloaded-or-same : (words : List (List ℕ)) (old new : FilesStanding) (rs : List Reading)
    (status : Status) → Reaches words old rs (λ r. IsRefusal words old new status r) →
    (new ≡ old) ⊎ ((file : ℕ) × (status ≡ FileFault file))
unloaded-or-same words old new [] status h = absurd h
unloaded-or-same words old new (r ∷ rs) status (inl (inl f)) = inr (r.place, f.0)
unloaded-or-same words old new (r ∷ rs) status (inl (inr h)) = inl h.0
unloaded-or-same words old new (r ∷ rs) status (inr h) =
    unloaded-or-same words old new rs status h.2

-- ---- the answers that name a flaw

abbrev is-flaw : Status → Bool
is-flaw (BadDictionary file number line) = true
is-flaw (BadRules file number line) = true
is-flaw (BadCompiled file number line) = true
is-flaw (Limit zero kind place) = kind == 6
is-flaw status = false

flaw-is : (file : ℕ) (flaw : Flaw) → is-flaw (status_of_flaw file flaw) ≡ true
flaw-is file TooLong = refl
flaw-is file (OfDictionary number line) = refl
flaw-is file (OfCompiled number line) = refl
flaw-is file (OfRules number line) = refl

never : {A : Type 0} (s t : Status) → is-flaw s ≡ true → s ≡ t → is-flaw t ≡ false → A
never s t f e n = let x : true ≡ false = sym f ∙ ap is-flaw e ∙ n in cc

stage-never : (n : ℕ) (f : StreamFault) → 1 ≤ n → is-flaw (status_at n f) ≡ false
stage-never n (fault.Malformed kind place) some = refl
stage-never zero (fault.Limit kind place) some = absurd (omega arith)
stage-never (suc n) (fault.Limit kind place) some = refl
stage-never n fault.Memory some = refl

came-never : (ms : List Meaning) (input : List ℕ) (intake : Intake) (k l : Standing) (o : Outcome) →
    Came (meaning 1 ms) input intake k l o → is-flaw (status_of_outcome o) ≡ false
came-never ms input intake k l outcome.Done c = refl
came-never ms input intake k l outcome.ReadFault c = refl
came-never ms input intake k l outcome.WriteFault c = refl
came-never ms input intake k l outcome.InputTooLong c = refl
came-never ms input intake k l (outcome.Fault n fault.Memory) c = refl
came-never ms input intake k l (outcome.Fault n (fault.Malformed kind place)) c = refl
came-never ms input intake k l (outcome.Fault n (fault.Limit kind place)) c =
    stage-never n (fault.Limit kind place)
    (went-stage ms input intake k l n (fault.Limit kind place) (c.1 (λ x. cc)))

module _ (words : List (List ℕ)) (command : Command) (before after : Outside) (status : Status) where
  listed-never : {A : Type 0} (k l : Standing) (text : List ℕ) → is-flaw status ≡ true →
      IsListed k l text status → A
  listed-never k l text f (inl w) = never status Done f w.1 refl
  listed-never k l text f (inr (inl w)) = never status WriteFault f w.1 refl
  listed-never k l text f (inr (inr w)) = never status Memory f w.memory refl

  stored-never : {A : Type 0} (out : ℕ) (making : Making) → is-flaw status ≡ true →
      StoresOrStops making out (name_at words out) before.files after.files before.sink after.sink
      status → A
  stored-never out making f (inl s) = elim s.summed [
    | inl w ↦ never status Done f w.1 refl
    | inr w ↦ never status WriteFault f w.1 refl
  ]
  stored-never out making f (inr (inl s)) = never status (FileFault out) f s.status_is refl
  stored-never out making f (inr (inr m)) = never status Memory f m.memory refl

  streamed-never : {A : Type 0} (stages : List Stage) → is-flaw status ≡ true →
      FlowsOrStops stages before.source after.source before.sink after.sink status → A
  streamed-never stages f (inl w) =
      never status (status_of_outcome w.outcome) f w.status_is
      (came-never w.meanings w.went.input w.went.intake before.sink after.sink w.outcome
      w.went.came)
  streamed-never stages f (inr u) = never status Memory f u.memory refl

  run-untouched : (g : Gives) → is-flaw status ≡ true → IsRun words g before after status →
      after ≡ before
  run-untouched (Streams stages) f r = streamed-never stages f r.1
  run-untouched (Lists text) f r = listed-never before.sink after.sink text f r.2
  run-untouched (Stores out making) f r = stored-never out making f r.1
  run-untouched (Works sentences) f r =
      elim (went sentences before.sink after.sink status r.2) [
        | inl o ↦ listed-never before.sink after.sink _ f o.listed
        | inr s ↦ same-outside before after r.0 r.1 s.same
      ]
  run-untouched Nothing f r = absurd r

  answer-untouched : is-flaw status ≡ true → IsCommandAnswer words before after status command →
      after ≡ before
  answer-untouched f (inl r) =
      elim (unloaded-or-same words before.files after.files (files_of command) status r.refused) [
        | inl same ↦ same-outside before after same r.untouched.source r.untouched.sink
        | inr h ↦ never status (FileFault h.0) f h.1 refl
      ]
  answer-untouched f (inr (inl p)) = run-untouched (gives_of command p.said) f p.ran
  answer-untouched f (inr (inr i)) = i.same

  -- no load and no store failed, but where FileFault is answered
  same-faults : after.files ≡ before.files → HasSameFaults before.files after.files
  same-faults e = record {
    loads = ap (λ (x : FilesStanding). x.load_faults) e;
    stores = ap (λ (x : FilesStanding). x.store_faults) e;
  }

  abbrev NoFileFault : Type 0
  NoFileFault = (file : ℕ) → status ≡ FileFault file → ⊥

  store-loaded : (out : ℕ) (making : Making) → NoFileFault →
      StoresOrStops making out (name_at words out) before.files after.files before.sink after.sink
      status → HasSameFaults before.files after.files
  store-loaded out making n (inl s) = record { loads = s.loads; stores = s.stores }
  store-loaded out making n (inr (inl s)) = absurd (n out s.status_is)
  store-loaded out making n (inr (inr m)) = same-faults m.unstored

  run-loaded : (g : Gives) → NoFileFault → IsRun words g before after status →
      HasSameFaults before.files after.files
  run-loaded (Streams stages) n r = same-faults r.0
  run-loaded (Lists text) n r = same-faults r.0
  run-loaded (Stores out making) n r = store-loaded out making n r.1
  run-loaded (Works sentences) n r = same-faults r.0
  run-loaded Nothing n r = absurd r

  answer-loaded : NoFileFault → IsCommandAnswer words before after status command →
      HasSameFaults before.files after.files
  answer-loaded n (inl r) =
      elim (unloaded-or-same words before.files after.files (files_of command) status r.refused) [
        | inl same ↦ same-faults same
        | inr h ↦ absurd (n h.0 h.1)
      ]
  answer-loaded n (inr (inl p)) = run-loaded (gives_of command p.said) n p.ran
  answer-loaded n (inr (inr i)) = same-faults (ap (λ (x : Outside). x.files) i.same)

untouched-by : (words : List (List ℕ)) (before after : Outside) (status : Status)
    (r : Result Command UsageFault) → is-flaw status ≡ true →
    IsAnswerTo words before after status r → after ≡ before
untouched-by words before after status (Err fault) f a = a.1
untouched-by words before after status (Ok command) f a =
    answer-untouched words command before after status f a

pub untouched-from : (words : List (List ℕ)) (before after : Outside) (status : Status) →
    IsAnswer words before after status → (file : ℕ) (flaw : Flaw) →
    status ≡ status_of_flaw file flaw → after ≡ before
untouched-from words before after status a file flaw e =
    untouched-by words before after status (command_of words)
    (ap is-flaw e ∙ flaw-is file flaw) a.by_words

loaded-by : (words : List (List ℕ)) (before after : Outside) (status : Status)
    (r : Result Command UsageFault) → ((file : ℕ) → status ≡ FileFault file → ⊥) →
    IsAnswerTo words before after status r → HasSameFaults before.files after.files
loaded-by words before after status (Err fault) n a = record {
  loads = ap (λ (x : Outside). x.files.load_faults) a.1;
  stores = ap (λ (x : Outside). x.files.store_faults) a.1;
}
loaded-by words before after status (Ok command) n a =
    answer-loaded words command before after status n a

pub loaded-from : (words : List (List ℕ)) (before after : Outside) (status : Status) →
    IsAnswer words before after status → ((file : ℕ) → status ≡ FileFault file → ⊥) →
    HasSameFaults before.files after.files
loaded-from words before after status a n =
    loaded-by words before after status (command_of words) n a.by_words
