-- What was written where a put failed or memory ran out: for every command at once.
use Rattle.std.proofs.Common.{◌≡◌, ℕ, List, ◌++◌, subst, sym, ap, ◌∙◌, inl, inr, ◌⊎◌, Option, Ok, length, arith, take, refl}
use Rattle.std.proofs.lemmas.List.{take_all}
use Rattle.ap_outside.specs.Told.{Puts, PutsFront}
use Rattle.ap_stream.specs.Told.{Ending as TextEnding, Begins}
use Rattle.ap_stream.specs.declared.fault.StreamFault.TheVariants as fault
use Rattle.ap_pipe.specs.declared.round.Intake.{Intake}
use Rattle.ap_pipe.specs.declared.round.Outcome.{Outcome}
use Rattle.ap_pipe.specs.declared.round.Outcome.TheVariants as outcome
use Rattle.ap_pipe.specs.Row.{RowTold, meaning}
use Rattle.ap_pipe.specs.Flow.{WentThrough, BrokeOff, Came}
use Rattle.ap_command.specs.declared.status.Status.{Status}
use Rattle.ap_command.specs.declared.status.Status.TheVariants.{FileFault, WriteFault, Memory, BadDictionary, BadRules, BadCompiled, Limit}
use Rattle.ap_command.specs.declared.words.Command.{Command}
use Rattle.ap_command.specs.Words.{command_of, files_of}
use Rattle.ap_command.specs.Messages.{name_at}
use Rattle.ap_command.specs.Outside.{FilesStanding, Outside}
use Rattle.ap_command.specs.Rows.{Stage}
use Rattle.ap_command.specs.Gives.{Gives, Streams, Lists, Stores, Works, Nothing, gives_of, Making}
use Rattle.ap_command.specs.Listing.{IsListed}
use Rattle.ap_command.specs.Reading.{Flaw, TooLong, OfDictionary, OfCompiled, OfRules, status_of_flaw}
use Rattle.ap_command.specs.Stream.{Always, Flows, FlowsOrStops}
use Rattle.ap_command.specs.Compiling.{StoresOrStops}
use Rattle.ap_command.specs.Working.{work_lines}
use Rattle.ap_command.specs.Answer.{IsRun, IsWorked, IsCommandAnswer, IsAnswer}
use Rattle.ap_command.specs.Account.{GivesFront, StoresWhole, StreamsFront, OnAccepted}
use Rattle.ap_command.proofs.Listings.{take-front}
use Rattle.ap_command.proofs.Leaving.{same-outside, unloaded-or-same}
use Rattle.ap_command.proofs.Sending.{Refused, Unloaded, Flawed, Starved, refused-so}
use Rattle.ap_command.proofs.Reasons.{by-command}
use Rattle.ap_command.proofs.Worked.{Wrote, went, never-write}

-- a text that was put is a front of it
whole-front : (old new : Option (List ℕ)) (text : List ℕ) → Puts old new text →
    PutsFront old new text
whole-front old new text p =
    (length text, subst (λ t. Puts old new t) (sym (take_all (length text) text (omega arith))) p)

-- and so is what it begins with
front-of : (old new : Option (List ℕ)) (front whole : List ℕ) → Puts old new front →
    Begins front whole → PutsFront old new whole
front-of old new front whole p b = (
  length front,
  subst (λ t. Puts old new t)
      (sym (ap (take (length front)) b.1 ∙ take-front front b.0)) p,
)

not-fault : {A : Type 0} (status : Status) (file : ℕ) → status ≡ WriteFault →
    status ≡ FileFault file → A
not-fault status file e f = let x : WriteFault ≡ FileFault file = sym e ∙ f in cc

not-memory : {A : Type 0} (status : Status) → status ≡ WriteFault → status ≡ Memory → A
not-memory status e f = let x : WriteFault ≡ Memory = sym e ∙ f in cc

not-flaw : {A : Type 0} (status : Status) (file : ℕ) (flaw : Flaw) → status ≡ WriteFault →
    status ≡ status_of_flaw file flaw → A
not-flaw status file TooLong e f = let x : WriteFault ≡ Limit 0 6 file = sym e ∙ f in cc
not-flaw status file (OfDictionary number line) e f =
    let x : WriteFault ≡ BadDictionary file number line = sym e ∙ f in cc
not-flaw status file (OfCompiled number line) e f =
    let x : WriteFault ≡ BadCompiled file number line = sym e ∙ f in cc
not-flaw status file (OfRules number line) e f = let x : WriteFault ≡ BadRules file number line =
    sym e ∙ f in cc

module _ (words : List (List ℕ)) (command : Command) (before after : Outside) where
  -- a refusal of a file is no failed put
  unrefused : {A : Type 0} (status : Status) → status ≡ WriteFault →
      Refused words before.files after.files (files_of command) status → A
  unrefused status e (Unloaded file f h) = not-fault status file e f
  unrefused status e (Flawed file flaw f h) = not-flaw status file flaw e f
  unrefused status e (Starved f) = not-memory status e f

  went-front : (row : List ℕ → TextEnding → RowTold) (input : List ℕ) (intake : Intake)
      (o : Outcome) → WentThrough row input intake before.sink after.sink o →
      Always row input intake (λ told. PutsFront before.sink.bytes after.sink.bytes told.text)
  went-front row input intake o w =
      λ x e may. subst (λ (t : RowTold). PutsFront before.sink.bytes after.sink.bytes t.text)
      (sym (w.told x e may)) (whole-front before.sink.bytes after.sink.bytes w.text w.put)

  broke-front : (row : List ℕ → TextEnding → RowTold) (input : List ℕ) (intake : Intake) →
      BrokeOff row input intake before.sink after.sink →
      Always row input intake (λ told. PutsFront before.sink.bytes after.sink.bytes told.text)
  broke-front row input intake b =
      λ x e may. front-of before.sink.bytes after.sink.bytes b.front (row (input ++ x) e).text b.put
      (b.begins x e may)

  came-front : (row : List ℕ → TextEnding → RowTold) (input : List ℕ) (intake : Intake)
      (o : Outcome) → Came row input intake before.sink after.sink o →
      Always row input intake (λ told. PutsFront before.sink.bytes after.sink.bytes told.text)
  came-front row input intake outcome.Done c = went-front row input intake outcome.Done c.0
  came-front row input intake outcome.ReadFault c =
      went-front row input intake outcome.ReadFault c.0
  came-front row input intake outcome.InputTooLong c =
      went-front row input intake outcome.InputTooLong c.0
  came-front row input intake outcome.WriteFault c = broke-front row input intake c.0
  came-front row input intake (outcome.Fault n fault.Memory) c =
      broke-front row input intake (c.0 refl).0
  came-front row input intake (outcome.Fault n (fault.Malformed kind place)) c =
      went-front row input intake (outcome.Fault n (fault.Malformed kind place)) (c.1 (λ x. cc))
  came-front row input intake (outcome.Fault n (fault.Limit kind place)) c =
      went-front row input intake (outcome.Fault n (fault.Limit kind place)) (c.1 (λ x. cc))

  stream-front : (stages : List Stage) (status : Status) →
      Flows stages before.source after.source before.sink after.sink status →
      StreamsFront stages before after
  stream-front stages status f = record {
    meanings = f.meanings;
    mean = f.mean;
    input = f.went.input;
    intake = f.went.intake;
    taken = f.went.taken;
    front = came-front (meaning 1 f.meanings) f.went.input f.went.intake f.outcome f.went.came;
  }

  list-front : (text : List ℕ) (status : Status) → IsListed before.sink after.sink text status →
      PutsFront before.sink.bytes after.sink.bytes text
  list-front text status (inl w) = whole-front before.sink.bytes after.sink.bytes text w.0.put
  list-front text status (inr (inl w)) = w.0.put
  list-front text status (inr (inr w)) = w.put

  -- after a failed put
  store-broken : (out : ℕ) (making : Making) (status : Status) → status ≡ WriteFault →
      StoresOrStops making out (name_at words out) before.files after.files before.sink after.sink
      status → GivesFront (Stores out making) before after
      × StoresWhole words (Stores out making) before.files after.files
  store-broken out making status e (inl s) = elim s.summed [
    | inl w ↦ (
      (s.made, s.stored.is_made, whole-front before.sink.bytes after.sink.bytes _ w.0.put),
      (s.made, s.stored),
    )
    | inr w ↦ ((s.made, s.stored.is_made, w.0.put), (s.made, s.stored))
  ]
  store-broken out making status e (inr (inl s)) = not-fault status out e s.status_is
  store-broken out making status e (inr (inr m)) = not-memory status e m.memory

  stream-broken : (stages : List Stage) (status : Status) → status ≡ WriteFault →
      FlowsOrStops stages before.source after.source before.sink after.sink status →
      StreamsFront stages before after
  stream-broken stages status e (inl f) = stream-front stages status f
  stream-broken stages status e (inr u) = not-memory status e u.memory

  wrote-front : (sentences : ℕ) (status : Status) →
      Wrote sentences before.sink after.sink status → GivesFront (Works sentences) before after
  wrote-front sentences status w =
      (w.text, w.is, list-front (work_lines sentences w.text) status w.listed)

  work-broken : (sentences : ℕ) (status : Status) → status ≡ WriteFault →
      IsWorked sentences before.sink after.sink status → GivesFront (Works sentences) before after
  work-broken sentences status e w = elim (went sentences before.sink after.sink status w) [
    | inl o ↦ wrote-front sentences status o
    | inr s ↦ absurd (never-write s.ended (sym s.status_is ∙ e))
  ]

  run-broken : (g : Gives) (status : Status) → status ≡ WriteFault →
      IsRun words g before after status → GivesFront g before after
      × StoresWhole words g before.files after.files
  run-broken (Streams stages) status e r =
      (stream-broken stages status e r.1, ap (λ (x : FilesStanding). x.contents) r.0)
  run-broken (Lists text) status e r =
      (list-front text status r.2, ap (λ (x : FilesStanding). x.contents) r.0)
  run-broken (Stores out making) status e r = store-broken out making status e r.1
  run-broken (Works sentences) status e r =
      (work-broken sentences status e r.2, ap (λ (x : FilesStanding). x.contents) r.0)
  run-broken Nothing status e r = absurd r

  abbrev Breaks : Gives → Type 0
  Breaks given = GivesFront given before after × StoresWhole words given before.files after.files

  answer-broken : (status : Status) → status ≡ WriteFault →
      IsCommandAnswer words before after status command → OnAccepted words command before Breaks
  answer-broken status e (inl r) =
      unrefused status e (refused-so words before.files after.files (files_of command)
      status r.refused)
  answer-broken status e (inr (inl p)) =
      record {
        said = p.said;
        opened = p.opened;
        given =
            run-broken (gives_of command p.said) status e p.ran;
      }
  answer-broken status e (inr (inr i)) = not-memory status e i.memory

  -- where memory ran out
  store-starved : (out : ℕ) (making : Making) (status : Status) → status ≡ Memory →
      after.source ≡ before.source →
      StoresOrStops making out (name_at words out) before.files after.files before.sink after.sink
      status → (after ≡ before) ⊎ GivesFront (Stores out making) before after
  store-starved out making status e f (inl s) = elim s.summed [
    | inl w ↦ inr (
      s.made,
      s.stored.is_made,
      whole-front before.sink.bytes after.sink.bytes _ w.0.put,
    )
    | inr w ↦ inr (s.made, s.stored.is_made, w.0.put)
  ]
  store-starved out making status e f (inr (inl s)) =
      absurd (let x : Memory ≡ FileFault out = sym e ∙ s.status_is in cc)
  store-starved out making status e f (inr (inr m)) =
      inl (same-outside before after m.unstored f m.unwritten)

  stream-starved : (stages : List Stage) (status : Status) → after.files ≡ before.files →
      FlowsOrStops stages before.source after.source before.sink after.sink status →
      (after ≡ before) ⊎ StreamsFront stages before after
  stream-starved stages status e (inl f) = inr (stream-front stages status f)
  stream-starved stages status e (inr u) =
      inl (same-outside before after e u.untaken u.unwritten)

  work-starved : (sentences : ℕ) (status : Status) → after.files ≡ before.files →
      after.source ≡ before.source → IsWorked sentences before.sink after.sink status →
      (after ≡ before) ⊎ GivesFront (Works sentences) before after
  work-starved sentences status e f w = elim (went sentences before.sink after.sink status w) [
    | inl o ↦ inr (wrote-front sentences status o)
    | inr s ↦ inl (same-outside before after e f s.same)
  ]

  run-starved : (g : Gives) (status : Status) → status ≡ Memory → IsRun words g before after status
      → (after ≡ before) ⊎ GivesFront g before after
  run-starved (Streams stages) status e r = stream-starved stages status r.0 r.1
  run-starved (Lists text) status e r = inr (list-front text status r.2)
  run-starved (Stores out making) status e r = store-starved out making status e r.0 r.1
  run-starved (Works sentences) status e r = work-starved sentences status r.0 r.1 r.2
  run-starved Nothing status e r = absurd r

  abbrev Starves : Type 0
  Starves = (after ≡ before)
      ⊎ OnAccepted words command before (λ given. GivesFront given before after)

  answer-starved : (status : Status) → status ≡ Memory →
      IsCommandAnswer words before after status command → Starves
  answer-starved status e (inl r) =
      elim (unloaded-or-same words before.files after.files (files_of command) status r.refused) [
        | inl same ↦ inl (same-outside before after same r.untouched.source r.untouched.sink)
        | inr f ↦ absurd (let x : Memory ≡ FileFault f.0 = sym e ∙ f.1 in cc)
      ]
  answer-starved status e (inr (inl p)) =
      elim (run-starved (gives_of command p.said) status e p.ran) [
        | inl same ↦ inl same
        | inr front ↦ inr (record { said = p.said; opened = p.opened; given = front })
      ]
  answer-starved status e (inr (inr i)) = inl i.same

abbrev IsBroken : List (List ℕ) → Command → Outside → Outside → Type 0
IsBroken words command before after =
    OnAccepted words command before (λ given. GivesFront given before after
    × StoresWhole words given before.files after.files)

pub broken-from : (words : List (List ℕ)) (before after : Outside) (status : Status) →
    IsAnswer words before after status → (command : Command) → command_of words ≡ Ok command →
    status ≡ WriteFault → OnAccepted words command before (λ given. GivesFront given before after)
broken-from words before after status a command c e =
    let b : IsBroken words command before after =
    answer-broken words command before after status e
    (by-command words before after status command a c) in
    record { said = b.said; opened = b.opened; given = b.given.0 }

pub stored-from : (words : List (List ℕ)) (before after : Outside) (status : Status) →
    IsAnswer words before after status → (command : Command) → command_of words ≡ Ok command →
    status ≡ WriteFault → OnAccepted words command before
    (λ given. StoresWhole words given before.files after.files)
stored-from words before after status a command c e =
    let b : IsBroken words command before after =
    answer-broken words command before after status e
    (by-command words before after status command a c) in
    record { said = b.said; opened = b.opened; given = b.given.1 }

pub starved-from : (words : List (List ℕ)) (before after : Outside) (status : Status) →
    IsAnswer words before after status → (command : Command) → command_of words ≡ Ok command →
    status ≡ Memory → (after ≡ before)
    ⊎ OnAccepted words command before (λ given. GivesFront given before after)
starved-from words before after status a command c e =
    answer-starved words command before after status e
    (by-command words before after status command a c)
