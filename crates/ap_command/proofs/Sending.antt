-- Why a command answers as it does: a file is refused, or what is read goes through its row, or is
-- listed or stored.
use Rattle.std.proofs.Common.{◌≡◌, ◌≢◌, ℕ, zero, suc, ◌≤◌, List, [], ◌∷◌, arith, subst, sym, ap, ◌∙◌, refl, inl, inr, Option, Some, None, append-nil}
use Rattle.ap_stream.specs.declared.fault.StreamFault.{StreamFault}
use Rattle.ap_stream.specs.declared.fault.StreamFault.TheVariants as fault
use Rattle.ap_command.specs.Said.{Said}
use Rattle.ap_command.specs.declared.reading.Reading.{Reading}
use Rattle.ap_command.specs.declared.status.Status.{Status}
use Rattle.ap_command.specs.declared.status.Status.TheVariants.{Done, FileFault, ReadFault, WriteFault, Memory}
use Rattle.ap_pipe.specs.declared.round.Intake.{Intake}
use Rattle.ap_pipe.specs.declared.round.Intake.TheVariants.{Clean, Failed, TooLong as TooMuch}
use Rattle.ap_command.specs.declared.words.Command.{Command}
use Rattle.ap_command.specs.Words.{files_of, out_of}
use Rattle.ap_command.specs.Messages.{name_at}
use Rattle.ap_command.specs.Standing.{PutsAll}
use Rattle.ap_command.specs.Outside.{FilesStanding, Outside}
use Rattle.ap_pipe.specs.declared.round.Outcome.{Outcome}
use Rattle.ap_pipe.specs.declared.round.Outcome.TheVariants as outcome
use Rattle.ap_pipe.specs.Row.{RowTold, meaning}
use Rattle.ap_pipe.specs.Answers.{ending_of as text_ending, outcome_fault}
use Rattle.ap_pipe.specs.Flow.{IsTaken, WentThrough, Came}
use Rattle.ap_command.specs.Rows.{Stage, Meaning, AreMeanings}
use Rattle.ap_command.specs.Gives.{Gives, Streams, Lists, Stores, gives_of, Making}
use Rattle.ap_command.specs.Listing.{IsListed}
use Rattle.ap_command.specs.Reading.{HasText, Flaw, TooLong, OfDictionary, OfCompiled, OfRules, status_of_flaw, IsFlawOf}
use Rattle.ap_command.specs.Stream.{status_at, status_of_outcome, FlowsOrStops}
use Rattle.ap_command.specs.Compiling.{StoresOrStops}
use Rattle.ap_command.specs.Answer.{AllOpen, Reaches, IsUnloaded, IsRefusal, IsUntouched, IsStreamAnswer, Opens}
use Rattle.ap_command.specs.Account.{IsFlawed, StreamsAll, StreamsToFault, GivesAll, GivesFault, FailsToStore, OnAccepted, Reason}
use Rattle.ap_command.proofs.Fitting.{streams-out, lists-out}
use Rattle.ap_command.proofs.Flowing.{no-more, went-stage}

pub none-out : {A : Type 0} (o : Option ℕ) (out : ℕ) → o ≡ None → o ≡ Some out → A
none-out o out e f = let x : None ≡ Some out = sym e ∙ f in cc

-- why one of the files was refused
pub data Refused (words : List (List ℕ)) (old new : FilesStanding) (rs : List Reading)
    (status : Status) : Type 0 where
  Unloaded : (file : ℕ) → status ≡ FileFault file →
      Reaches words old rs (λ r. (r.place ≡ file) × IsUnloaded words old new r) →
      Refused words old new rs status
  Flawed : (file : ℕ) (flaw : Flaw) → status ≡ status_of_flaw file flaw →
      Reaches words old rs (λ r. (r.place ≡ file)
      × HasText old (name_at words r.place) (λ text. IsFlawOf r.manner text flaw)) →
      Refused words old new rs status
  Starved : status ≡ Memory → Refused words old new rs status

later : (words : List (List ℕ)) (old new : FilesStanding) (r : Reading) (rs : List Reading)
    (status : Status) (c : Said) → Opens words old r c → Refused words old new rs status →
    Refused words old new (r ∷ rs) status
later words old new r rs status c o (Unloaded file e h) = Unloaded file e (inr (c, o, h))
later words old new r rs status c o (Flawed file flaw e h) = Flawed file flaw e (inr (c, o, h))
later words old new r rs status c o (Starved e) = Starved e

pub refused-so : (words : List (List ℕ)) (old new : FilesStanding) (rs : List Reading)
    (status : Status) → Reaches words old rs (λ r. IsRefusal words old new status r) →
    Refused words old new rs status
refused-so words old new [] status h = absurd h
refused-so words old new (r ∷ rs) status (inl (inl f)) = Unloaded r.place f.0 (inl (refl, f.1))
refused-so words old new (r ∷ rs) status (inl (inr (same, inl f))) =
    Flawed r.place f.0 f.1 (inl (refl, f.2))
refused-so words old new (r ∷ rs) status (inl (inr (same, inr m))) = Starved m
refused-so words old new (r ∷ rs) status (inr h) =
    later words old new r rs status h.0 h.1 (refused-so words old new rs status h.2)

module _ (words : List (List ℕ)) (command : Command) (before after : Outside) where
  pub because : (status t : Status) → status ≡ t → Reason words command before after t →
      Reason words command before after status
  because status t e r = subst (λ s. Reason words command before after s) (sym e) r

  flawed-reason : (file : ℕ) (flaw : Flaw) → IsFlawed words command before file flaw →
      Reason words command before after (status_of_flaw file flaw)
  flawed-reason file TooLong h = inl (refl, inl h)
  flawed-reason file (OfDictionary number line) h = inl h
  flawed-reason file (OfCompiled number line) h = inl h
  flawed-reason file (OfRules number line) h = inl h

  pub refused-reason : (status : Status) → IsUntouched before after →
      Refused words before.files after.files (files_of command) status →
      Reason words command before after status
  refused-reason status u (Unloaded file e h) =
      because status (FileFault file) e (
        inl (record { reached = h; contents = u.contents }),
        u.source,
        u.sink,
      )
  refused-reason status u (Flawed file flaw e h) =
      because status (status_of_flaw file flaw) e (flawed-reason file flaw h)
  refused-reason status u (Starved e) = because status Memory e (u.contents, λ out o. u.sink)

  module _ (said : List Said) (opened : AllOpen words before.files (files_of command) said) where
    pub accepted : (P : Gives → Type 0) (g : Gives) → g ≡ gives_of command said → P g →
        OnAccepted words command before P
    accepted P g e p = record { said = said; opened = opened; given = subst P e p }

    -- all that the row gives was put
    all-put : (ms : List Meaning) (input : List ℕ) (intake : Intake) (o : Outcome) →
        (w : WentThrough (meaning 1 ms) input intake before.sink after.sink o) →
        meaning 1 ms input (text_ending intake) ≡ record { text = w.text; fault = outcome_fault o }
    all-put ms input intake o w =
        ap (λ x. meaning 1 ms x (text_ending intake)) (sym (append-nil input))
        ∙ w.told [] (text_ending intake) (no-more intake)

    streams-all : (stages : List Stage) (ms : List Meaning) (input : List ℕ) (intake : Intake)
        (o : Outcome) → AreMeanings stages ms → IsTaken before.source after.source input intake →
        outcome_fault o ≡ None → WentThrough (meaning 1 ms) input intake before.sink after.sink o →
        StreamsAll stages before after intake
    streams-all stages ms input intake o mean taken none w =
        let all : meaning 1 ms input (text_ending intake)
        ≡ record { text = w.text; fault = outcome_fault o } = all-put ms input intake o w in
        record {
          meanings = ms;
          mean = mean;
          input = input;
          taken = taken;
          faultless = ap (λ (t : RowTold). t.fault) all ∙ none;
          put = subst (λ (t : RowTold). PutsAll before.sink after.sink t.text) (sym all)
              (record { put = w.put; calm = w.calm });
        }

    to-fault : (stages : List Stage) (ms : List Meaning) (input : List ℕ) (intake : Intake) (n : ℕ)
        (f : StreamFault) → AreMeanings stages ms → IsTaken before.source after.source input intake
        → WentThrough (meaning 1 ms) input intake before.sink after.sink (outcome.Fault n f) →
        StreamsToFault stages before after (status_at n f)
    to-fault stages ms input intake n f mean taken w = record {
      meanings = ms;
      mean = mean;
      input = input;
      intake = intake;
      taken = taken;
      told = record { text = w.text; fault = Some (record { stage = n; fault = f }) };
      is_told = w.told;
      fault = record { stage = n; fault = f };
      faulty = refl;
      status_is = refl;
      put = record { put = w.put; calm = w.calm };
    }

    fault-by : (stages : List Stage) (n : ℕ) (f : StreamFault) (status : Status) →
        Streams stages ≡ gives_of command said → 1 ≤ n → f ≢ fault.Memory → status ≡ status_at n f →
        StreamsToFault stages before after (status_at n f) →
        Reason words command before after status
    fault-by stages n (fault.Malformed kind place) status g some fair e h =
        because status _ e (accepted
        (λ given. GivesFault given before after (status_at n (fault.Malformed kind place)))
        (Streams stages) g h)
    fault-by stages zero (fault.Limit kind place) status g some fair e h = absurd (omega arith)
    fault-by stages (suc n) (fault.Limit kind place) status g some fair e h =
        because status _ e (accepted
        (λ given. GivesFault given before after (status_at (suc n) (fault.Limit kind place)))
        (Streams stages) g h)
    fault-by stages n fault.Memory status g some fair e h = absurd (fair refl)

    -- a fault of a stage, which is not want of memory
    fault-reason : (stages : List Stage) (ms : List Meaning) (input : List ℕ) (intake : Intake)
        (n : ℕ) (f : StreamFault) (status : Status) → Streams stages ≡ gives_of command said →
        AreMeanings stages ms → IsTaken before.source after.source input intake
        → f ≢ fault.Memory → WentThrough (meaning 1 ms) input intake before.sink after.sink
        (outcome.Fault n f) → status ≡ status_at n f → Reason words command before after status
    fault-reason stages ms input intake n f status g mean taken fair w e =
        fault-by stages n f status g (went-stage ms input intake before.sink after.sink n f w) fair
        e (to-fault stages ms input intake n f mean taken w)

    came-reason : (stages : List Stage) (ms : List Meaning) (input : List ℕ) (intake : Intake)
        (o : Outcome) (status : Status) → Streams stages ≡ gives_of command said →
        after.files ≡ before.files → AreMeanings stages ms →
        IsTaken before.source after.source input intake
        → status ≡ status_of_outcome o → Came (meaning 1 ms) input intake before.sink after.sink o →
        Reason words command before after status
    came-reason stages ms input intake outcome.Done status g same mean taken e c =
        because status Done e (accepted (λ given. GivesAll words given before after Clean)
        (Streams stages) g (subst (λ i. StreamsAll stages before after i) c.1
        (streams-all stages ms input intake outcome.Done mean taken refl c.0)))
    came-reason stages ms input intake outcome.ReadFault status g same mean taken e c =
        because status ReadFault e
        (accepted (λ given. GivesAll words given before after Failed) (Streams stages) g
        (subst (λ i. StreamsAll stages before after i) c.1
        (streams-all stages ms input intake outcome.ReadFault mean taken refl c.0)))
    came-reason stages ms input intake outcome.InputTooLong status g same mean taken e c =
        because status _ e (inr (
          refl,
          refl,
          accepted (λ given. GivesAll words given before after TooMuch) (Streams stages) g
              (subst (λ i. StreamsAll stages before after i) c.1
              (streams-all stages ms input intake outcome.InputTooLong mean taken refl c.0)),
        ))
    came-reason stages ms input intake outcome.WriteFault status g same mean taken e c =
        because status WriteFault e c.1
    came-reason stages ms input intake (outcome.Fault n fault.Memory) status g same mean taken e c =
        because status Memory e (
          ap (λ (x : FilesStanding). x.contents) same,
          λ out k. none-out (out_of command) out (streams-out command said stages g) k,
        )
    came-reason stages ms input intake (outcome.Fault n (fault.Malformed kind place)) status g same
        mean taken e c =
        fault-reason stages ms input intake n (fault.Malformed kind place) status g mean taken
        (λ x. cc) (c.1 (λ x. cc)) e
    came-reason stages ms input intake (outcome.Fault n (fault.Limit kind place)) status g same
        mean taken e c =
        fault-reason stages ms input intake n (fault.Limit kind place) status g mean taken (λ x. cc)
        (c.1 (λ x. cc)) e

    pub stream-reason : (stages : List Stage) (status : Status) → Streams stages ≡ gives_of command said
        → after.files ≡ before.files →
        FlowsOrStops stages before.source after.source before.sink after.sink status →
        Reason words command before after status
    stream-reason stages status g same (inl f) =
        came-reason stages f.meanings f.went.input f.went.intake f.outcome status g same f.mean
        f.went.taken f.status_is f.went.came
    stream-reason stages status g same (inr u) =
        because status Memory u.memory (
          ap (λ (x : FilesStanding). x.contents) same,
          λ out o. u.unwritten,
        )

    pub list-reason : (text : List ℕ) (status : Status) → Lists text ≡ gives_of command said →
        after.files ≡ before.files → IsListed before.sink after.sink text status →
        Reason words command before after status
    list-reason text status g same (inl w) =
        because status Done w.1 (accepted (λ given. GivesAll words given before after Clean)
        (Lists text) g (refl, w.0))
    list-reason text status g same (inr (inl w)) = because status WriteFault w.1 w.0.rose
    list-reason text status g same (inr (inr w)) =
        because status Memory w.memory (
          ap (λ (x : FilesStanding). x.contents) same,
          λ out o. none-out (out_of command) out (lists-out command said text g) o,
        )

    pub store-reason : (out : ℕ) (making : Making) (status : Status) →
        Stores out making ≡ gives_of command said → after.source ≡ before.source →
        StoresOrStops making out (name_at words out) before.files after.files before.sink after.sink
        status → Reason words command before after status
    store-reason out making status g same (inl c) = elim c.summed [
      | inl w ↦ because status Done w.1
          (accepted (λ given. GivesAll words given before after Clean) (Stores out making) g
          (refl, (c.made, c.stored, w.0)))
      | inr w ↦ because status WriteFault w.1 w.0.rose
    ]
    store-reason out making status g same (inr (inl s)) =
        because status (FileFault out) s.status_is (
          inr (accepted (λ given. FailsToStore words given out before.files after.files)
              (Stores out making) g (refl, s.rose, s.held)),
          same,
          s.unwritten,
        )
    store-reason out making status g same (inr (inr m)) =
        because status Memory m.memory (
          ap (λ (x : FilesStanding). x.contents) m.unstored,
          λ o e. m.unwritten,
        )

  -- what a command with a stream answers
  pub sent-reason : (status : Status) → IsStreamAnswer words before after status command →
      Reason words command before after status
  sent-reason status (inl r) =
      refused-reason status r.untouched
      (refused-so words before.files after.files (files_of command) status r.refused)
  sent-reason status (inr (inl p)) =
      stream-reason p.said p.opened p.flows.0 status (sym p.flows.1) p.same p.flows.2
  sent-reason status (inr (inr i)) =
      because status Memory i.memory (
        ap (λ (x : Outside). x.files.contents) i.same,
        λ out e. ap (λ (x : Outside). x.sink) i.same,
      )
