-- Of the inside: no public contract stands on this file.
-- What a run of a rule begins with, one after another.
use Rattle.std.specs.Prelude.{ℕ, List, [], ◌∷◌, Bool, true, false, Option, Some, None}
use Rattle.ap_symbol.specs.declared.symbol.Symbol.{Symbol}
use Rattle.ap_exec.specs.Acting.{shown_chunk, from}
use Rattle.ap_exec.specs.Units.{Shown, Positions}

-- the chunk, where there is one
abbrev pub chunk_in : Option (List Symbol) → List Shown
chunk_in None = []
chunk_in (Some name) = shown_chunk name ∷ []

-- where there is no chunk, nothing stands at position 0
abbrev pub lead_in : Bool → Positions
lead_in true = []
lead_in false = None ∷ []

-- so many numbers
abbrev pub from_first : ℕ → Positions
from_first n = from 0 n
