-- Why `work` answers as it does: by the answer of the translation that it runs.
use Rattle.std.proofs.Common.{◌≡◌, ℕ, zero, suc, List, [], ◌∷◌, arith, subst, sym, ap, ◌∙◌, refl, inl, inr, ◌⊎◌, Option, Some}
use Rattle.ap_outside.specs.Causes.{Rose}
use Rattle.ap_pipe.specs.Standing.{Standing}
use Rattle.ap_pipe.specs.declared.round.Intake.{Intake}
use Rattle.ap_pipe.specs.declared.round.Intake.TheVariants.{Clean, Failed, TooLong as TooMuch}
use Rattle.ap_command.specs.Said.{Said}
use Rattle.ap_command.specs.declared.reading.Reading.{Reading}
use Rattle.ap_command.specs.declared.status.Status.{Status}
use Rattle.ap_command.specs.declared.status.Status.TheVariants.{Done, Usage, FileFault, ReadFault, WriteFault, BadDictionary, BadRules, BadCompiled, Malformed, Limit, Memory}
use Rattle.ap_command.specs.declared.words.Command.{Command}
use Rattle.ap_command.specs.Words.{files_of, out_of, room_lem}
use Rattle.ap_command.specs.Standing.{PutsAll}
use Rattle.ap_command.specs.Outside.{FilesStanding, Outside}
use Rattle.ap_command.specs.Rows.{Stage}
use Rattle.ap_command.specs.Gives.{Gives, Streams, Works, Nothing, gives_of}
use Rattle.ap_command.specs.Listing.{IsListed}
use Rattle.ap_command.specs.Reading.{Flaw, TooLong, OfDictionary, OfCompiled, OfRules}
use Rattle.ap_command.specs.Working.{built_in, run_words, work_run, before_work, work_lines, of_built_in, limit_place}
use Rattle.ap_command.specs.Answer.{AllOpen, Reaches, IsUnloaded, bytes_of, IsReported, IsWorked}
use Rattle.ap_command.specs.Account.{IsFlawed, IsBuiltInRow, IsTranslated, lines_at, GivesAll, GivesFault, GivesFlaw, FailsToStore, FlawReason, OnAccepted, Reason}
use Rattle.ap_command.proofs.Fitting.{run-gives, works-out}
use Rattle.ap_command.proofs.Sending.{none-out, because, accepted, sent-reason}
use Rattle.ap_command.proofs.Told.{puts-none}

-- the row of stages for what the built-in files say
pub on-row : (sentences : ℕ) (P : Gives → Type 0) →
    OnAccepted run_words work_run (before_work sentences) P → (P Nothing → ⊥) →
    (stages : List Stage) × IsBuiltInRow stages × P (Streams stages)
on-row sentences P a none = elim (run-gives room_lem 1 a.said) [
  | inl r ↦ (
    r.stages,
    record { said = a.said; opened = a.opened; gives = r.is },
    subst P r.is a.given,
  )
  | inr e ↦ absurd (none (subst P e a.given))
]

-- what was written, where it is told
pub told-bytes : (o : Option (List ℕ)) (x : List ℕ) → o ≡ Some x → o ≡ Some (bytes_of o)
told-bytes o x e = e ∙ ap (λ p. Some (bytes_of p)) (sym e)

-- a translation that came to an end
pub translated : (sentences : ℕ) (ending : Intake) (inside : Outside) →
    OnAccepted run_words work_run (before_work sentences)
    (λ given. GivesAll run_words given (before_work sentences) inside ending) →
    IsTranslated sentences ending (bytes_of inside.sink.bytes)
translated sentences ending inside a =
    let r = on-row sentences
    (λ given. GivesAll run_words given (before_work sentences) inside ending) a (λ x. x) in
    record {
      stages = r.0;
      row = r.1;
      inside = inside;
      all = r.2;
      text_is = told-bytes inside.sink.bytes _ r.2.put.put;
    }

-- no load of a built-in file fails
pub never-unloaded : (rs : List Reading) (now : FilesStanding) (file : ℕ) → now ≡ built_in →
    Reaches run_words built_in rs
    (λ r. (r.place ≡ file) × IsUnloaded run_words built_in now r) → ⊥
never-unloaded [] now file e h = h
never-unloaded (r ∷ rs) now file e (inl h) =
    let x : Rose 0 0 = subst (λ f. IsUnloaded run_words built_in f r) e h.1 in omega (arith, x)
never-unloaded (r ∷ rs) now file e (inr h) = never-unloaded rs now file e h.2

-- the flaw is that of a file
flaw-in : (sentences file : ℕ) (flaw : Flaw) (inside : Outside) →
    FlawReason run_words work_run (before_work sentences) inside file flaw →
    IsFlawed run_words work_run (before_work sentences) file flaw
flaw-in sentences file flaw inside (inl h) = h
flaw-in sentences file flaw inside (inr a) =
    absurd ((on-row sentences
    (λ given. GivesFlaw given (before_work sentences) inside file flaw) a (λ x. x)).2)

pub nothing-put : (k l : Standing) → l ≡ k → PutsAll k l []
nothing-put k l e = record {
  put = ap (λ (s : Standing). s.bytes) e ∙ puts-none k.bytes;
  calm = ap (λ (s : Standing). s.faults) e;
}

limit-six : (kind place : ℕ) → kind ≡ 6 → limit_place kind place ≡ 0
limit-six kind place e = ap (λ k. limit_place k place) e

limit-seven : (kind place : ℕ) → kind ≡ 7 → limit_place kind place ≡ place
limit-seven kind place e = ap (λ k. limit_place k place) e

-- how `work` went: the translation came to its end and its lines were put; or it answered otherwise,
-- for its reason, and nothing was put
pub record Wrote (sentences : ℕ) (old new : Standing) (status : Status) : Type 0 where
  pub text : List ℕ
  pub is : IsTranslated sentences Clean text
  pub listed : IsListed old new (work_lines sentences text) status

pub record Stopped (sentences : ℕ) (old new : Standing) (status : Status) : Type 0 where
  pub ended : Status
  pub undone : ended ≡ Done → ⊥
  pub inside : Outside
  pub reason : Reason run_words work_run (before_work sentences) inside ended
  pub loads : inside.files ≡ built_in
  pub same : new ≡ old
  pub status_is : status ≡ of_built_in ended

went-by : (sentences : ℕ) (old new : Standing) (status ended : Status) (inside : Outside) →
    Reason run_words work_run (before_work sentences) inside ended → inside.files ≡ built_in →
    IsReported sentences old new (bytes_of inside.sink.bytes) ended status →
    Wrote sentences old new status ⊎ Stopped sentences old new status
went-by sentences old new status Done inside r e h = inl (record {
  text = bytes_of inside.sink.bytes;
  is = translated sentences Clean inside r;
  listed = h;
})
went-by sentences old new status ended inside r e h = inr (record {
  ended = ended;
  undone = λ x. cc;
  inside = inside;
  reason = r;
  loads = e;
  same = h.0;
  status_is = h.1;
})

pub went : (sentences : ℕ) (old new : Standing) (status : Status) →
    IsWorked sentences old new status →
    Wrote sentences old new status ⊎ Stopped sentences old new status
went sentences old new status w = went-by sentences old new status w.ended w.after
    (sent-reason run_words work_run (before_work sentences) w.after w.ended w.ran) w.loads
    w.reported

-- the statuses that a translation can't give to `work`
pub never-write : (s : Status) → of_built_in s ≡ WriteFault → ⊥
never-write (Limit zero kind place) e = cc
never-write (Limit (suc stage) kind place) e = cc
never-write s e = cc

pub undone-stays : (s : Status) → (s ≡ Done → ⊥) → of_built_in s ≡ Done → ⊥
undone-stays Done n e = n refl
undone-stays (Limit zero kind place) n e = cc
undone-stays (Limit (suc stage) kind place) n e = cc
undone-stays s n e = cc

-- no put failed, but where WriteFault is answered
listed-calm : (old new : Standing) (text : List ℕ) (status : Status) → (status ≡ WriteFault → ⊥) →
    IsListed old new text status → new.faults ≡ old.faults
listed-calm old new text status n (inl w) = w.0.calm
listed-calm old new text status n (inr (inl w)) = absurd (n w.1)
listed-calm old new text status n (inr (inr w)) = w.calm

pub worked-calm : (sentences : ℕ) (old new : Standing) (status : Status) →
    (status ≡ WriteFault → ⊥) → IsWorked sentences old new status → new.faults ≡ old.faults
worked-calm sentences old new status n w = elim (went sentences old new status w) [
  | inl o ↦ listed-calm old new (work_lines sentences o.text) status n o.listed
  | inr s ↦ ap (λ (x : Standing). x.faults) s.same
]

module _ (words : List (List ℕ)) (command : Command) (before after : Outside) (said : List Said)
    (opened : AllOpen words before.files (files_of command) said) (sentences : ℕ) (status : Status)
    (g : Works sentences ≡ gives_of command said) (same : after.files ≡ before.files) where
  abbrev Given : (Gives → Type 0) → Type 0
  Given P = OnAccepted words command before P

  work-accepted : (P : Gives → Type 0) → P (Works sentences) → Given P
  work-accepted P h = accepted words command before after said opened P (Works sentences) g h

  work-starved : status ≡ Memory → Reason words command before after status
  work-starved e =
      because words command before after status Memory e (
        ap (λ (x : FilesStanding). x.contents) same,
        λ out o. none-out (out_of command) out (works-out command said sentences g) o,
      )

  wrote-reason : (text : List ℕ) → IsTranslated sentences Clean text →
      IsListed before.sink after.sink (work_lines sentences text) status →
      Reason words command before after status
  wrote-reason text t (inl w) =
      because words command before after status Done w.1
      (work-accepted (λ given. GivesAll words given before after Clean) (text, t, w.0))
  wrote-reason text t (inr (inl w)) =
      because words command before after status WriteFault w.1 w.0.rose
  wrote-reason text t (inr (inr w)) = work-starved w.memory

  module _ (inside : Outside) (unput : after.sink ≡ before.sink) where
    all-given : (ending : Intake) → lines_at ending sentences (bytes_of inside.sink.bytes) ≡ [] →
        OnAccepted run_words work_run (before_work sentences)
        (λ given. GivesAll run_words given (before_work sentences) inside ending) →
        Given (λ given. GivesAll words given before after ending)
    all-given ending none a =
        work-accepted (λ given. GivesAll words given before after ending) (
          bytes_of inside.sink.bytes,
          translated sentences ending inside a,
          subst (λ x. PutsAll before.sink after.sink x) (sym none)
              (nothing-put before.sink after.sink unput),
        )

    fault-given : (fault : Status) → OnAccepted run_words work_run (before_work sentences)
        (λ given. GivesFault given (before_work sentences) inside fault) →
        Given (λ given. GivesFault given before after fault)
    fault-given fault a =
        let r = on-row sentences
        (λ given. GivesFault given (before_work sentences) inside fault) a (λ x. x) in
        work-accepted (λ given. GivesFault given before after fault)
        (r.0, r.1, inside, r.2, unput)

    flaw-given : (place file : ℕ) (flaw : Flaw) → file ≡ 0 →
        FlawReason run_words work_run (before_work sentences) inside place flaw →
        FlawReason words command before after file flaw
    flaw-given place file flaw e h =
        inr (work-accepted (λ given. GivesFlaw given before after file flaw)
        (e, (place, flaw-in sentences place flaw inside h), unput))

    stopped-reason : (ended : Status) → (ended ≡ Done → ⊥) →
        Reason run_words work_run (before_work sentences) inside ended → inside.files ≡ built_in →
        status ≡ of_built_in ended → Reason words command before after status
    stopped-reason Done n r e s = absurd (n refl)
    stopped-reason Usage n r e s = absurd r
    stopped-reason (FileFault file) n r e s = elim r.0 [
      | inl f ↦ absurd (never-unloaded (files_of work_run) inside.files file e f.reached)
      | inr f ↦ absurd ((on-row sentences
          (λ given. FailsToStore run_words given file built_in inside.files) f (λ x. x)).2)
    ]
    stopped-reason ReadFault n r e s =
        because words command before after status ReadFault s (all-given Failed refl r)
    stopped-reason WriteFault n r e s = work-starved s
    stopped-reason (BadDictionary file number line) n r e s =
        because words command before after status (BadDictionary 0 number line) s
        (flaw-given file 0 (OfDictionary number line) refl r)
    stopped-reason (BadRules file number line) n r e s =
        because words command before after status (BadRules 0 number line) s
        (flaw-given file 0 (OfRules number line) refl r)
    stopped-reason (BadCompiled file number line) n r e s =
        because words command before after status (BadCompiled 0 number line) s
        (flaw-given file 0 (OfCompiled number line) refl r)
    stopped-reason (Malformed stage kind place) n r e s =
        because words command before after status (Malformed stage kind place) s
        (fault-given (Malformed stage kind place) r)
    stopped-reason (Limit zero kind place) n (inl r) e s =
        because words command before after status (Limit 0 kind (limit_place kind place)) s
        (inl (r.0, flaw-given place (limit_place kind place) TooLong (limit-six kind place r.0) r.1))
    stopped-reason (Limit zero kind place) n (inr r) e s =
        because words command before after status (Limit 0 kind (limit_place kind place)) s
        (inr (r.0, limit-seven kind place r.0 ∙ r.1, all-given TooMuch refl r.2))
    stopped-reason (Limit (suc stage) kind place) n r e s =
        because words command before after status (Limit (suc stage) kind place) s
        (fault-given (Limit (suc stage) kind place) r)
    stopped-reason Memory n r e s = work-starved s

  pub work-reason : IsWorked sentences before.sink after.sink status →
      Reason words command before after status
  work-reason w = elim (went sentences before.sink after.sink status w) [
    | inl o ↦ wrote-reason o.text o.is o.listed
    | inr s ↦ stopped-reason s.inside s.same s.ended s.undone s.reason s.loads s.status_is
  ]
