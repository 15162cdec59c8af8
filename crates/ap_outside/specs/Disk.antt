-- Of the inside: no public contract stands on this file.
-- What of the files of a system stands on more than one call of it.
use Rattle.std.specs.Prelude.{◌≡◌, ℕ, List, Option, Result, Ok}
use Rattle.std.specs.Io.KnownBytes.{Appends}
use Rattle.std.specs.declared.io.Error.{Error}
use Rattle.std.specs.declared.io.ErrorKind.{ErrorKind}
use Rattle.std.specs.declared.io.ErrorKind.TheVariants.{OutOfMemory}
use Rattle.ap_outside.specs.declared.files.LoadRefusal.{LoadRefusal}
use Rattle.ap_outside.specs.declared.files.LoadRefusal.TheVariants.{Failed, Memory}

-- Why a file is not loaded, by the kind of error: want of memory for that kind alone.
pub record IsRefusalFor (kind : ErrorKind) (refusal : LoadRefusal) : Type 0 where
  pub memory : kind ≡ OutOfMemory → refusal ≡ Memory
  pub others : (kind ≡ OutOfMemory → ⊥) → refusal ≡ Failed

-- The file was made, and what it holds, where that is known, has grown by these bytes.
abbrev pub WritesAll : {W : Type 0} → (W → Option (List ℕ)) → Result W Error → Result W Error →
    List ℕ → Type 0
WritesAll contents (Ok old) (Ok new) bytes = Appends (contents old) (contents new) bytes
WritesAll contents old new bytes = ⊥
