-- What a run may answer, and how it leaves what it was handed.
use Rattle.std.specs.Prelude.{◌≡◌, ℕ, ◌≤◌, ◌⊎◌, List, [], ◌∷◌, Option, Some, None, Result, Ok, Err}
use Rattle.ap_outside.specs.Causes.{Rose}
use Rattle.ap_command.specs.declared.content.Content.{Content}
use Rattle.ap_command.specs.Said.{Said}
use Rattle.ap_command.specs.declared.reading.Reading.{Reading}
use Rattle.ap_command.specs.declared.status.Status.{Status}
use Rattle.ap_command.specs.declared.status.Status.TheVariants.{Done, Usage, FileFault, Memory}
use Rattle.ap_command.specs.declared.words.Command.{Command}
use Rattle.ap_command.specs.declared.words.UsageFault.{UsageFault}
use Rattle.ap_command.specs.Words.{command_of, files_of, work_max}
use Rattle.ap_command.specs.Messages.{name_at}
use Rattle.ap_pipe.specs.Standing.{Standing}
use Rattle.ap_command.specs.Standing.{PutsAll, PutsSome}
use Rattle.ap_command.specs.Outside.{FilesStanding, Outside}
use Rattle.ap_command.specs.Reading.{HasText, IsAccepted, Flaw, status_of_flaw, IsFlawOf, IsKeptAs}
use Rattle.ap_command.specs.Gives.{Gives, Streams, Lists, Stores, Works, Nothing, gives_of}
use Rattle.ap_command.specs.Stream.{FlowsOrStops}
use Rattle.ap_command.specs.Listing.{IsListed}
use Rattle.ap_command.specs.Compiling.{StoresOrStops}
use Rattle.ap_command.specs.Rows.{Stage}
use Rattle.ap_command.specs.Working.{built_in, run_words, work_run, before_work, work_lines, of_built_in}

-- The file is accepted and says this, where its contents are told.
abbrev pub Opens : List (List ℕ) → FilesStanding → Reading → Said → Type 0
Opens words files r said =
    HasText files (name_at words r.place) (λ text. IsAccepted r.manner text said)

-- all of these files do, in their order
abbrev pub AllOpen : List (List ℕ) → FilesStanding → List Reading → List Said → Type 0
AllOpen words files [] [] = Unit {0}
AllOpen words files [] (c ∷ cs) = ⊥
AllOpen words files (r ∷ rs) [] = ⊥
AllOpen words files (r ∷ rs) (c ∷ cs) = Opens words files r c × AllOpen words files rs cs

-- This holds of one of these files, and those before it are accepted.
abbrev pub Reaches : List (List ℕ) → FilesStanding → List Reading → (Reading → Type 0) → Type 0
Reaches words files [] P = ⊥
Reaches words files (r ∷ rs) P =
    P r ⊎ ((said : Said) × Opens words files r said × Reaches words files rs P)

-- a load of this file failed
abbrev pub IsUnloaded : List (List ℕ) → FilesStanding → FilesStanding → Reading → Type 0
IsUnloaded words old new r =
    Rose (old.load_faults (name_at words r.place)) (new.load_faults (name_at words r.place))

-- Why a file is refused: it was not loaded; or no load failed, and it has this flaw, where its
-- contents are told, or memory ran out.
abbrev pub IsRefusal : List (List ℕ) → FilesStanding → FilesStanding → Status → Reading → Type 0
IsRefusal words old new status r = ((status ≡ FileFault r.place) × IsUnloaded words old new r)
    ⊎ ((new ≡ old) × (((flaw : Flaw) × (status ≡ status_of_flaw r.place flaw)
    × HasText old (name_at words r.place) (λ text. IsFlawOf r.manner text flaw))
    ⊎ (status ≡ Memory)))

-- nothing was taken, written or stored
pub record IsUntouched (old new : Outside) : Type 0 where
  pub source : new.source ≡ old.source
  pub sink : new.sink ≡ old.sink
  pub contents : new.files.contents ≡ old.files.contents

-- One of the files was refused, those before it were accepted, and nothing was taken, written or
-- stored.
pub record Refuses (words : List (List ℕ)) (files : List Reading) (old new : Outside)
    (status : Status) : Type 0 where
  pub refused : Reaches words old.files files (λ r. IsRefusal words old.files new.files status r)
  pub untouched : IsUntouched old new

-- Memory ran out before the first file was loaded.
pub record IsIdle (old new : Outside) (status : Status) : Type 0 where
  pub memory : status ≡ Memory
  pub same : new ≡ old

-- The stream went through the row of stages that a command gives for what its files say, or memory
-- ran out before.
abbrev pub FlowsAs : Command → List Said → Standing → Standing → Standing → Standing → Status →
    Type 0
FlowsAs command said source_old source_new sink_old sink_new status = (stages : List Stage)
    × (gives_of command said ≡ Streams stages)
    × FlowsOrStops stages source_old source_new sink_old sink_new status

-- All of the files were accepted, and the stream went through their row.
pub record Sends (words : List (List ℕ)) (command : Command) (old new : Outside)
    (status : Status) : Type 0 where
  pub said : List Said
  pub opened : AllOpen words old.files (files_of command) said
  pub same : new.files ≡ old.files
  pub flows : FlowsAs command said old.source new.source old.sink new.sink status

-- what a command with a stream answers
abbrev pub IsStreamAnswer : List (List ℕ) → Outside → Outside → Status → Command → Type 0
IsStreamAnswer words old new status command = Refuses words (files_of command) old new status
    ⊎ (Sends words command old new status ⊎ IsIdle old new status)

-- what was written, where it is told
abbrev pub bytes_of : Option (List ℕ) → List ℕ
bytes_of None = []
bytes_of (Some bytes) = bytes

-- Of a translation that came to its end the lines are put, and of no other; the status is then that
-- of the translation.
abbrev pub IsReported : ℕ → Standing → Standing → List ℕ → Status → Status → Type 0
IsReported sentences old new text Done status =
    IsListed old new (work_lines sentences text) status
IsReported sentences old new text ended status =
    (new ≡ old) × (status ≡ of_built_in ended)

-- `run` over the built-in files answered so for the made text, where no load and no take failed, and
-- what it wrote was counted.
pub record IsWorked (sentences : ℕ) (old new : Standing) (status : Status) : Type 0 where
  pub few : sentences ≤ work_max
  pub after : Outside
  pub ended : Status
  pub ran : IsStreamAnswer run_words (before_work sentences) after ended work_run
  pub loads : after.files ≡ built_in
  pub takes : after.source.faults ≡ 0
  pub reported : IsReported sentences old new (bytes_of after.sink.bytes) ended status

-- What a command gave, and how it went.
abbrev pub IsRun : List (List ℕ) → Gives → Outside → Outside → Status → Type 0
IsRun words (Streams stages) old new status =
    (new.files ≡ old.files) × FlowsOrStops stages old.source new.source old.sink new.sink status
IsRun words (Lists text) old new status = (new.files ≡ old.files) × (new.source ≡ old.source)
    × IsListed old.sink new.sink text status
IsRun words (Stores out making) old new status = (new.source ≡ old.source)
    × StoresOrStops making out (name_at words out) old.files new.files old.sink new.sink status
IsRun words (Works sentences) old new status = (new.files ≡ old.files)
    × (new.source ≡ old.source) × IsWorked sentences old.sink new.sink status
IsRun words Nothing old new status = ⊥

-- All of the files were accepted, and the command gave what it gives.
pub record Proceeds (words : List (List ℕ)) (command : Command) (old new : Outside)
    (status : Status) : Type 0 where
  pub said : List Said
  pub opened : AllOpen words old.files (files_of command) said
  pub ran : IsRun words (gives_of command said) old new status

abbrev pub IsCommandAnswer : List (List ℕ) → Outside → Outside → Status → Command → Type 0
IsCommandAnswer words old new status command = Refuses words (files_of command) old new status
    ⊎ (Proceeds words command old new status ⊎ IsIdle old new status)

abbrev pub IsAnswerTo : List (List ℕ) → Outside → Outside → Status →
    Result Command UsageFault → Type 0
IsAnswerTo words old new status (Err fault) = (status ≡ Usage) × (new ≡ old)
IsAnswerTo words old new status (Ok command) = IsCommandAnswer words old new status command

-- What the words, the files and the stream let a run answer, and how it leaves what it was handed.
-- Words that are no command are Usage, and nothing changes.
pub record IsAnswer (words : List (List ℕ)) (old new : Outside) (status : Status) : Type 0 where
  pub by_words : IsAnswerTo words old new status (command_of words)

-- The message was put, or where a put failed a front of it.
abbrev pub Tells : Standing → Standing → List ℕ → Type 0
Tells old new message = PutsAll old new message ⊎ PutsSome old new message

-- what is kept of files that say this, in their order
abbrev pub AreKeptAs : List Reading → List Said → List Content → Type 0
AreKeptAs [] [] [] = Unit {0}
AreKeptAs [] [] (k ∷ ks) = ⊥
AreKeptAs [] (c ∷ cs) kept = ⊥
AreKeptAs (r ∷ rs) [] kept = ⊥
AreKeptAs (r ∷ rs) (c ∷ cs) [] = ⊥
AreKeptAs (r ∷ rs) (c ∷ cs) (k ∷ ks) = IsKeptAs r.manner c k × AreKeptAs rs cs ks

-- All of the files were accepted, and this is kept of them.
pub record AreOpened (words : List (List ℕ)) (files : FilesStanding) (rs : List Reading)
    (kept : List Content) : Type 0 where
  pub said : List Said
  pub opened : AllOpen words files rs said
  pub kept_as : AreKeptAs rs said kept
