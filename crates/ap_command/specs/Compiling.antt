-- What is made, stored and summed up.
use Rattle.std.specs.Prelude.{◌≡◌, ℕ, ◌⊎◌, List}
use Rattle.ap_outside.specs.Causes.{Rose}
use Rattle.ap_outside.specs.Told.{Stores, StoresSome}
use Rattle.ap_fst.specs.Sections.{Parts}
use Rattle.ap_binary.specs.Grammar.{IsTextOf}
use Rattle.ap_binary.specs.Text.{compiled_text}
use Rattle.ap_command.specs.declared.status.Status.{Status}
use Rattle.ap_command.specs.declared.status.Status.TheVariants.{Done, FileFault, WriteFault, Memory}
use Rattle.ap_pipe.specs.Standing.{Standing}
use Rattle.ap_command.specs.Standing.{PutsAll, PutsSome}
use Rattle.ap_command.specs.Gives.{Making, IsMade, summary}
use Rattle.ap_command.specs.Outside.{FilesStanding}

-- What was made was stored under the name, as a text that is read again as the same value.
pub record IsStored (making : Making) (name : List ℕ) (old new : FilesStanding)
    (made : Parts) : Type 0 where
  pub is_made : IsMade making made
  pub stored : Stores old.contents new.contents name (compiled_text made)
  pub spelled : IsTextOf (compiled_text made) made

-- The summary was put; or a put failed, and a front of it was put.
abbrev pub IsSummed : Standing → Standing → Parts → Status → Type 0
IsSummed old new made status = (PutsAll old new (summary made) × (status ≡ Done))
    ⊎ (PutsSome old new (summary made) × (status ≡ WriteFault))

-- It was made and stored, no load and no store failed, and its summary was put, or a put failed.
pub record StoresAll (making : Making) (name : List ℕ) (files_old files_new : FilesStanding)
    (sink_old sink_new : Standing) (status : Status) : Type 0 where
  pub made : Parts
  pub stored : IsStored making name files_old files_new made
  pub loads : files_new.load_faults ≡ files_old.load_faults
  pub stores : files_new.store_faults ≡ files_old.store_faults
  pub summed : IsSummed sink_old sink_new made status

-- The store failed. What was to be stored may hold anything, every other file holds what it held,
-- and nothing is written.
pub record IsStoreFault (out : ℕ) (name : List ℕ) (files_old files_new : FilesStanding)
    (sink_old sink_new : Standing) (status : Status) : Type 0 where
  pub status_is : status ≡ FileFault out
  pub held : StoresSome files_old.contents files_new.contents name
  pub rose : Rose files_old.store_faults files_new.store_faults
  pub unwritten : sink_new ≡ sink_old

-- memory ran out, and nothing was stored or written
pub record IsUnstored (files_old files_new : FilesStanding) (sink_old sink_new : Standing)
    (status : Status) : Type 0 where
  pub memory : status ≡ Memory
  pub unstored : files_new ≡ files_old
  pub unwritten : sink_new ≡ sink_old

-- It was stored under the name, or the store failed, or memory ran out before.
abbrev pub StoresOrStops : Making → ℕ → List ℕ → FilesStanding → FilesStanding → Standing →
    Standing → Status → Type 0
StoresOrStops making out name files_old files_new sink_old sink_new status =
    StoresAll making name files_old files_new sink_old sink_new status
    ⊎ (IsStoreFault out name files_old files_new sink_old sink_new status
    ⊎ IsUnstored files_old files_new sink_old sink_new status)
