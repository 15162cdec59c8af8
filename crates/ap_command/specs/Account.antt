-- What the program promises of a run. None of this speaks of one command: what each reads and gives
-- is in `files_of` and `gives_of`.
use Rattle.std.specs.Prelude.{◌≡◌, ◌↔◌, ℕ, zero, suc, ◌-◌, ◌^◌, ◌<◌, ◌≤◌, ◌⊎◌, nat_lt, false, List, [], ◌∷◌, Option, Some, None, Result, Ok, Err, length, take, if◌then◌else◌}
use Rattle.ap_outside.specs.Causes.{Rose}
use Rattle.ap_outside.specs.Told.{Puts, PutsFront, Stores as StoresAs, StoresSome}
use Rattle.ap_fst.specs.Sections.{Parts}
use Rattle.ap_binary.specs.Grammar.{IsTextOf}
use Rattle.ap_binary.specs.Text.{compiled_text}
use Rattle.ap_command.specs.Said.{Said}
use Rattle.ap_command.specs.declared.reading.Reading.{Reading}
use Rattle.ap_command.specs.declared.status.Status.{Status}
use Rattle.ap_command.specs.declared.status.Status.TheVariants.{Done, Usage, FileFault, ReadFault, WriteFault, BadDictionary, BadRules, BadCompiled, Malformed, Limit, Memory}
use Rattle.ap_command.specs.declared.words.Command.{Command}
use Rattle.ap_command.specs.declared.words.UsageFault.{UsageFault}
use Rattle.ap_pipe.specs.declared.round.Intake.{Intake}
use Rattle.ap_pipe.specs.declared.round.Intake.TheVariants.{Clean, Failed, TooLong as TooMuch}
use Rattle.ap_pipe.specs.declared.TheConstants.{INPUT_MAX}
use Rattle.ap_pipe.specs.declared.station.RowFault.{RowFault}
use Rattle.ap_pipe.specs.Row.{RowTold, meaning}
use Rattle.ap_pipe.specs.Answers.{ending_of as text_ending}
use Rattle.ap_pipe.specs.Flow.{IsTaken}
use Rattle.ap_command.specs.Words.{command_of, files_of, out_of, has_stream, usage}
use Rattle.ap_command.specs.Messages.{name_at}
use Rattle.ap_command.specs.Standing.{PutsAll}
use Rattle.ap_command.specs.Outside.{FilesStanding, Outside}
use Rattle.ap_command.specs.Rows.{Stage, Meaning, AreMeanings, HaveSame, KeptInside, row_reads, row_writes}
use Rattle.ap_command.specs.Gives.{Gives, Streams, Lists, Stores, Works, Nothing, gives_of, IsMade, summary}
use Rattle.ap_command.specs.Reading.{HasText, HoldsText, IsAccepted, Flaw, TooLong, OfDictionary, OfCompiled, OfRules, status_of_flaw, IsFlawOf}
use Rattle.ap_command.specs.Stream.{status_at, row_status, Always}
use Rattle.ap_command.specs.Compiling.{IsStored}
use Rattle.ap_command.specs.Working.{built_in, run_words, work_run, before_work, made_text, work_lines, of_built_in}
use Rattle.ap_command.specs.Answer.{AllOpen, Reaches, IsUnloaded, IsUntouched}

-- What a command gives for an input: the status, the text that is written, and what is stored under
-- which name, by its place among the words.
pub record Stored : Type 0 where
  pub place : ℕ
  pub bytes : List ℕ

pub record Outcome : Type 0 where
  pub status : Status
  pub text : List ℕ
  pub stored : Option Stored

abbrev pub row_outcome : RowTold → Intake → Outcome
row_outcome told ending =
    record { status = row_status told ending; text = told.text; stored = None }

abbrev pub listed_outcome : List ℕ → Outcome
listed_outcome text = record { status = Done; text = text; stored = None }

abbrev pub stored_outcome : ℕ → Parts → Outcome
stored_outcome out made =
    record {
      status = Done;
      text = summary made;
      stored =
          Some (record { place = out; bytes = compiled_text made });
    }

abbrev pub failed_outcome : Status → Outcome
failed_outcome status = record { status = status; text = []; stored = None }

-- This file has the flaw, where its contents are told, and those before it are accepted.
abbrev pub IsFlawed : List (List ℕ) → Command → Outside → ℕ → Flaw → Type 0
IsFlawed words command before file flaw =
    Reaches words before.files (files_of command)
    (λ r. (r.place ≡ file) × HasText before.files (name_at words r.place)
    (λ text. IsFlawOf r.manner text flaw))

-- what a row of stages gives for an input that ends so
abbrev pub IsRowOutcome : List Stage → List ℕ → Intake → Outcome → Type 0
IsRowOutcome stages input ending o = (meanings : List Meaning) × AreMeanings stages meanings
    × (o ≡ row_outcome (meaning 1 meanings input (text_ending ending)) ending)

-- the row of stages that `run` gives for what the built-in files say
pub record IsBuiltInRow (stages : List Stage) : Type 0 where
  pub said : List Said
  pub opened : AllOpen run_words built_in (files_of work_run) said
  pub gives : gives_of work_run said ≡ Streams stages

-- what `work` gives where its translation gives this text and ends so
abbrev pub worked_outcome : ℕ → List ℕ → Status → Outcome
worked_outcome sentences text Done = listed_outcome (work_lines sentences text)
worked_outcome sentences text ended = failed_outcome (of_built_in ended)

-- What `work` gives: by what `run` gives for the made text, or by the flaw of a built-in file.
abbrev pub IsWorkOutcome : ℕ → Outcome → Type 0
IsWorkOutcome sentences o = ((stages : List Stage) × IsBuiltInRow stages × (translated : Outcome)
    × IsRowOutcome stages (made_text sentences) Clean translated
    × (o ≡ worked_outcome sentences translated.text translated.status))
    ⊎ ((file : ℕ) × (flaw : Flaw) × IsFlawed run_words work_run (before_work sentences) file flaw
    × (o ≡ failed_outcome (of_built_in (status_of_flaw file flaw))))

-- THE MEANING of a command, for an input that ends so.
abbrev pub IsOutcome : Gives → List ℕ → Intake → Outcome → Type 0
IsOutcome (Streams stages) input ending o = IsRowOutcome stages input ending o
IsOutcome (Lists text) input ending o = o ≡ listed_outcome text
IsOutcome (Stores out making) input ending o = (made : Parts) × IsMade making made
    × IsTextOf (compiled_text made) made × (o ≡ stored_outcome out made)
IsOutcome (Works sentences) input ending o = IsWorkOutcome sentences o
IsOutcome Nothing input ending o = ⊥

-- no call failed: the count stands where it stood, below its end
abbrev pub IsCalm : ℕ → ℕ → Type 0
IsCalm before now = (now ≡ before) × (before < 2 ^ 64 - 1)

-- the contents are told, and the file is accepted and says this
abbrev pub Holds : List (List ℕ) → FilesStanding → Reading → Said → Type 0
Holds words files r said =
    HoldsText files (name_at words r.place) (λ text. IsAccepted r.manner text said)

-- all of these files are
abbrev pub AllHold : List (List ℕ) → FilesStanding → List Reading → List Said → Type 0
AllHold words files [] [] = Unit {0}
AllHold words files [] (c ∷ cs) = ⊥
AllHold words files (r ∷ rs) [] = ⊥
AllHold words files (r ∷ rs) (c ∷ cs) = Holds words files r c × AllHold words files rs cs

-- no load of these files failed
abbrev pub AreCalm : List (List ℕ) → FilesStanding → FilesStanding → List Reading → Type 0
AreCalm words old new [] = Unit {0}
AreCalm words old new (r ∷ rs) =
    IsCalm (old.load_faults (name_at words r.place)) (new.load_faults (name_at words r.place))
    × AreCalm words old new rs

-- This holds of one of these files, and those before it are told and accepted.
abbrev pub Meets : List (List ℕ) → FilesStanding → List Reading → (Reading → Type 0) → Type 0
Meets words files [] P = ⊥
Meets words files (r ∷ rs) P =
    P r ⊎ ((said : Said) × Holds words files r said × Meets words files rs P)

-- A stream is told, and no take failed; where something is stored, no store failed.
abbrev pub IsServed : Gives → List ℕ → Outside → Outside → Type 0
IsServed (Streams stages) input before after = (before.source.bytes ≡ Some input)
    × IsCalm before.source.faults after.source.faults
IsServed (Lists text) input before after = Unit {0}
IsServed (Stores out making) input before after =
    IsCalm before.files.store_faults after.files.store_faults
IsServed (Works sentences) input before after = Unit {0}
IsServed Nothing input before after = Unit {0}

-- Everything that the command reads is told and accepted, and no call on an object failed.
pub record IsHonest (words : List (List ℕ)) (command : Command) (said : List Said)
    (input : List ℕ) (before after : Outside) : Type 0 where
  pub by_words : command_of words ≡ Ok command
  pub files : AllHold words before.files (files_of command) said
  pub loads : AreCalm words before.files after.files (files_of command)
  pub served : IsServed (gives_of command said) input before after
  pub puts : IsCalm before.sink.faults after.sink.faults

-- what is taken of an input: no more than the limit
unfoldable pub cut_input : List ℕ → List ℕ
cut_input input = take INPUT_MAX input

-- and how the input then ends
unfoldable pub ending_of : List ℕ → Intake
ending_of input = if nat_lt INPUT_MAX (length input) then TooMuch else Clean

-- this is stored, and nothing else; or nothing
abbrev pub HasStored : List (List ℕ) → Option Stored → FilesStanding → FilesStanding → Type 0
HasStored words None old new = new.contents ≡ old.contents
HasStored words (Some s) old new =
    StoresAs old.contents new.contents (name_at words s.place) s.bytes

-- exactly the outcome: its status, its text behind what was written, what it stores
pub record Leaves (words : List (List ℕ)) (o : Outcome) (before after : Outside)
    (status : Status) : Type 0 where
  pub status_is : status ≡ o.status
  pub put : Puts before.sink.bytes after.sink.bytes o.text
  pub stored : HasStored words o.stored before.files after.files

-- An honest run gives exactly an outcome of the meaning, unless memory ran out.
abbrev pub IsExact : List (List ℕ) → Outside → Outside → Status → Type 0
IsExact words before after status = (command : Command) (said : List Said) (input : List ℕ) →
    IsHonest words command said input before after
    → (status ≡ Memory) ⊎ ((o : Outcome)
    × IsOutcome (gives_of command said) (cut_input input) (ending_of input) o
    × Leaves words o before after status)

-- Where the input is within its limit and the meaning is Done, an honest run is, unless memory ran
-- out.
abbrev pub IsComplete : List (List ℕ) → Outside → Outside → Status → Type 0
IsComplete words before after status =
    (command : Command) (said : List Said) (input : List ℕ) (o : Outcome) →
    IsHonest words command said input before after → length input ≤ INPUT_MAX →
    IsOutcome (gives_of command said) input Clean o → o.status ≡ Done
    → (status ≡ Done) ⊎ (status ≡ Memory)

-- a file could not be loaded, and those before it are accepted; or memory ran out
abbrev pub GivesUp : List (List ℕ) → Command → Outside → Outside → Status → Type 0
GivesUp words command before after status =
    (status ≡ Memory) ⊎ Reaches words before.files (files_of command)
    (λ r. (status ≡ FileFault r.place) × IsUnloaded words before.files after.files r)

-- The first file that isn't accepted is answered by its flaw, and nothing is taken, written or
-- stored.
abbrev pub RefusesFlawed : List (List ℕ) → Outside → Outside → Status → Type 0
RefusesFlawed words before after status = (command : Command) (file : ℕ) (flaw : Flaw) →
    command_of words ≡ Ok command
    → Meets words before.files (files_of command)
    (λ r. (r.place ≡ file) × HoldsText before.files (name_at words r.place)
    (λ text. IsFlawOf r.manner text flaw))
    → ((status ≡ status_of_flaw file flaw) ⊎ GivesUp words command before after status)
    × IsUntouched before after

-- A load of this file failed, those before it are accepted, and nothing was stored.
pub record FailsToLoad (words : List (List ℕ)) (command : Command) (file : ℕ)
    (before after : Outside) : Type 0 where
  pub reached : Reaches words before.files (files_of command)
      (λ r. (r.place ≡ file) × IsUnloaded words before.files after.files r)
  pub contents : after.files.contents ≡ before.files.contents

-- The input was taken to this ending, what the row gives for it has no fault, and all of it was
-- put.
pub record StreamsAll (stages : List Stage) (before after : Outside)
    (ending : Intake) : Type 0 where
  pub meanings : List Meaning
  pub mean : AreMeanings stages meanings
  pub input : List ℕ
  pub taken : IsTaken before.source after.source input ending
  pub faultless : (meaning 1 meanings input (text_ending ending)).fault ≡ None
  pub put : PutsAll before.sink after.sink (meaning 1 meanings input (text_ending ending)).text

-- The input was taken to its end, and all was put: the superblanks of what was put are those of the
-- input, in the dialects of the row, once and in order. Of a row that reads or writes a plain text
-- this says nothing; but in one of three stages or more what the last stage reads has the
-- superblanks of what the first one writes, whatever the row reads and writes.
pub record StreamsSuperblanks (stages : List Stage) (before after : Outside) : Type 0 where
  pub input : List ℕ
  pub taken : IsTaken before.source after.source input Clean
  pub text : List ℕ
  pub put : PutsAll before.sink after.sink text
  pub kept : HaveSame (row_reads stages) (row_writes stages) input text
  pub meanings : List Meaning
  pub mean : AreMeanings stages meanings
  pub inside : KeptInside stages meanings input

abbrev pub GivesSuperblanks : Gives → Outside → Outside → Type 0
GivesSuperblanks (Streams stages) before after = StreamsSuperblanks stages before after
GivesSuperblanks (Works sentences) before after = (stages : List Stage) × IsBuiltInRow stages
    × (inside : Outside) × StreamsSuperblanks stages (before_work sentences) inside
GivesSuperblanks given before after = Unit {0}

-- What was taken gives the fault of this status, the text before it was put, and no put failed.
pub record StreamsToFault (stages : List Stage) (before after : Outside)
    (status : Status) : Type 0 where
  pub meanings : List Meaning
  pub mean : AreMeanings stages meanings
  pub input : List ℕ
  pub intake : Intake
  pub taken : IsTaken before.source after.source input intake
  pub told : RowTold
  pub is_told : Always (meaning 1 meanings) input intake (λ t. t ≡ told)
  pub fault : RowFault
  pub faulty : told.fault ≡ Some fault
  pub status_is : status ≡ status_at fault.stage fault.fault
  pub put : PutsAll before.sink after.sink told.text

-- The translation of so many made sentences by the built-in files has no fault, it came to this
-- ending, and this is all of it.
pub record IsTranslated (sentences : ℕ) (ending : Intake) (text : List ℕ) : Type 0 where
  pub stages : List Stage
  pub row : IsBuiltInRow stages
  pub inside : Outside
  pub all : StreamsAll stages (before_work sentences) inside ending
  pub text_is : inside.sink.bytes ≡ Some text

-- what `work` writes of it
abbrev pub lines_at : Intake → ℕ → List ℕ → List ℕ
lines_at Clean sentences text = work_lines sentences text
lines_at ending sentences text = []

-- All was given, and no put failed.
abbrev pub GivesAll : List (List ℕ) → Gives → Outside → Outside → Intake → Type 0
GivesAll words (Streams stages) before after ending = StreamsAll stages before after ending
GivesAll words (Lists text) before after ending =
    (ending ≡ Clean) × PutsAll before.sink after.sink text
GivesAll words (Stores out making) before after ending =
    (ending ≡ Clean) × ((made : Parts)
    × IsStored making (name_at words out) before.files after.files made
    × PutsAll before.sink after.sink (summary made))
GivesAll words (Works sentences) before after ending = (text : List ℕ)
    × IsTranslated sentences ending text
    × PutsAll before.sink after.sink (lines_at ending sentences text)
GivesAll words Nothing before after ending = ⊥

abbrev pub GivesFault : Gives → Outside → Outside → Status → Type 0
GivesFault (Streams stages) before after status = StreamsToFault stages before after status
GivesFault (Lists text) before after status = ⊥
GivesFault (Stores out making) before after status = ⊥
GivesFault (Works sentences) before after status = (stages : List Stage) × IsBuiltInRow stages
    × (inside : Outside) × StreamsToFault stages (before_work sentences) inside status
    × (after.sink ≡ before.sink)
GivesFault Nothing before after status = ⊥

-- all files were accepted, and this holds of what the command gives
pub record OnAccepted (words : List (List ℕ)) (command : Command) (before : Outside) (P : Gives →
    Type 0) : Type 0 where
  pub said : List Said
  pub opened : AllOpen words before.files (files_of command) said
  pub given : P (gives_of command said)

-- The store of what the command stores failed: that file may hold anything, and every other holds
-- what it held.
abbrev pub FailsToStore : List (List ℕ) → Gives → ℕ → FilesStanding → FilesStanding → Type 0
FailsToStore words (Stores out making) file old new = (file ≡ out)
    × Rose old.store_faults new.store_faults
    × StoresSome old.contents new.contents (name_at words out)
FailsToStore words given file old new = ⊥

-- A front was put of what the row gives for what was taken, however it goes on or as it has ended.
pub record StreamsFront (stages : List Stage) (before after : Outside) : Type 0 where
  pub meanings : List Meaning
  pub mean : AreMeanings stages meanings
  pub input : List ℕ
  pub intake : Intake
  pub taken : IsTaken before.source after.source input intake
  pub front : Always (meaning 1 meanings) input intake
      (λ told. PutsFront before.sink.bytes after.sink.bytes told.text)

-- A front of what the command writes was written.
abbrev pub GivesFront : Gives → Outside → Outside → Type 0
GivesFront (Streams stages) before after = StreamsFront stages before after
GivesFront (Lists text) before after = PutsFront before.sink.bytes after.sink.bytes text
GivesFront (Stores out making) before after = (made : Parts) × IsMade making made
    × PutsFront before.sink.bytes after.sink.bytes (summary made)
GivesFront (Works sentences) before after = (text : List ℕ) × IsTranslated sentences Clean text
    × PutsFront before.sink.bytes after.sink.bytes (work_lines sentences text)
GivesFront Nothing before after = ⊥

-- What the command stores was stored, whole; and nothing else.
abbrev pub StoresWhole : List (List ℕ) → Gives → FilesStanding → FilesStanding → Type 0
StoresWhole words (Streams stages) old new = new.contents ≡ old.contents
StoresWhole words (Lists text) old new = new.contents ≡ old.contents
StoresWhole words (Stores out making) old new =
    (made : Parts) × IsStored making (name_at words out) old new made
StoresWhole words (Works sentences) old new = new.contents ≡ old.contents
StoresWhole words Nothing old new = ⊥

-- A file that is built in has the flaw, those before it have none, and nothing is written; its place
-- is 0.
abbrev pub GivesFlaw : Gives → Outside → Outside → ℕ → Flaw → Type 0
GivesFlaw (Works sentences) before after file flaw = (file ≡ 0) × ((place : ℕ)
    × IsFlawed run_words work_run (before_work sentences) place flaw)
    × (after.sink ≡ before.sink)
GivesFlaw given before after file flaw = ⊥

-- a file of the command has the flaw, or one that is built in
abbrev pub FlawReason : List (List ℕ) → Command → Outside → Outside → ℕ → Flaw → Type 0
FlawReason words command before after file flaw = IsFlawed words command before file flaw
    ⊎ OnAccepted words command before (λ given. GivesFlaw given before after file flaw)

-- a limit that is none of a stage: a file, or the input
abbrev pub LimitReason : List (List ℕ) → Command → Outside → Outside → ℕ → ℕ → Type 0
LimitReason words command before after kind place =
    ((kind ≡ 6) × FlawReason words command before after place TooLong)
    ⊎ ((kind ≡ 7) × (place ≡ INPUT_MAX)
    × OnAccepted words command before (λ given. GivesAll words given before after TooMuch))

-- THE TABLE of answers: why a run of the command answers so.
abbrev pub Reason : List (List ℕ) → Command → Outside → Outside → Status → Type 0
Reason words command before after Done =
    OnAccepted words command before (λ given. GivesAll words given before after Clean)
Reason words command before after Usage = ⊥
Reason words command before after (FileFault file) =
    (FailsToLoad words command file before after ⊎ OnAccepted words command before
    (λ given. FailsToStore words given file before.files after.files))
    × (after.source ≡ before.source) × (after.sink ≡ before.sink)
Reason words command before after ReadFault =
    OnAccepted words command before (λ given. GivesAll words given before after Failed)
Reason words command before after WriteFault = Rose before.sink.faults after.sink.faults
Reason words command before after (BadDictionary file number line) =
    FlawReason words command before after file (OfDictionary number line)
Reason words command before after (BadRules file number line) =
    FlawReason words command before after file (OfRules number line)
Reason words command before after (BadCompiled file number line) =
    FlawReason words command before after file (OfCompiled number line)
Reason words command before after (Malformed stage kind place) =
    OnAccepted words command before
    (λ given. GivesFault given before after (Malformed stage kind place))
Reason words command before after (Limit zero kind place) =
    LimitReason words command before after kind place
Reason words command before after (Limit (suc stage) kind place) =
    OnAccepted words command before
    (λ given. GivesFault given before after (Limit (suc stage) kind place))
Reason words command before after Memory = (after.files.contents ≡ before.files.contents)
    × ((out : ℕ) → out_of command ≡ Some out → after.sink ≡ before.sink)

-- every file holds what it held, but for the one that the command stores, which may hold anything
abbrev pub IsKeptBut : List (List ℕ) → Option ℕ → FilesStanding → FilesStanding → Type 0
IsKeptBut words None old new = new.contents ≡ old.contents
IsKeptBut words (Some out) old new = (new.contents ≡ old.contents)
    ⊎ StoresSome old.contents new.contents (name_at words out)

-- no load and no store failed
pub record HasSameFaults (old new : FilesStanding) : Type 0 where
  pub loads : new.load_faults ≡ old.load_faults
  pub stores : new.store_faults ≡ old.store_faults

-- of words that are no command, nothing changes
abbrev pub IsSpared : List (List ℕ) → Outside → Outside → Result Command UsageFault → Type 0
IsSpared words before after (Err fault) = after ≡ before
IsSpared words before after (Ok command) = IsKeptBut words (out_of command) before.files after.files
    × (has_stream command ≡ false → after.source ≡ before.source)

-- What the program promises of a run on these words: how the objects stood before it, how they
-- stand after it, its status.
pub record Account (words : List (List ℕ)) (before after : Outside) (status : Status) : Type 0 where
  -- where all is told and no call failed: exactly the bytes and the status of the meaning, and what
  -- it stores
  pub exact : IsExact words before after status
  -- and Done, where the meaning is
  pub complete : IsComplete words before after status
  -- the first file that is over its limit, or has a fault, is answered, and nothing is taken,
  -- written or stored
  pub refuses : RefusesFlawed words before after status
  -- Usage exactly where the words are no command
  pub usage : (status ≡ Usage) ↔ (command_of words ≡ usage)
  -- each other answer only for its reason; so the store of what is made fails only where all files
  -- were accepted
  pub reason : (command : Command) → command_of words ≡ Ok command →
      Reason words command before after status
  -- where a stream went through to its end, each superblank of the input was put, once and in order
  pub superblanks : (command : Command) → command_of words ≡ Ok command → status ≡ Done →
      OnAccepted words command before (λ given. GivesSuperblanks given before after)
  -- behind the first stage of a row no text is malformed
  pub behind : (stage kind place : ℕ) → status ≡ Malformed stage kind place → stage ≡ 1
  -- after a failed put, a front of what the meaning writes was written
  pub broken : (command : Command) → command_of words ≡ Ok command → status ≡ WriteFault →
      OnAccepted words command before (λ given. GivesFront given before after)
  -- and what the command stores was stored whole
  pub stored : (command : Command) → command_of words ≡ Ok command → status ≡ WriteFault →
      OnAccepted words command before (λ given. StoresWhole words given before.files after.files)
  -- where memory ran out, nothing changed, or a front of what the meaning writes was written
  pub starved : (command : Command) → command_of words ≡ Ok command → status ≡ Memory →
      (after ≡ before) ⊎ OnAccepted words command before (λ given. GivesFront given before after)
  -- a file that is answered by its flaw leaves everything as it was, whether contents are told or
  -- not
  pub untouched : (file : ℕ) (flaw : Flaw) → status ≡ status_of_flaw file flaw → after ≡ before
  -- no load and no store failed, but where FileFault is answered
  pub loaded : ((file : ℕ) → status ≡ FileFault file → ⊥) →
      HasSameFaults before.files after.files
  -- no put failed, but where WriteFault is answered
  pub calm : (status ≡ WriteFault → ⊥) → after.sink.faults ≡ before.sink.faults
  -- files stay, but for the one that is stored, and a command without a stream takes nothing
  pub spared : IsSpared words before after (command_of words)
