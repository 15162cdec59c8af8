-- Tools that go over the items of a text from left to right, step by step; the bytes of items, and
-- their symbols.
use Rattle.std.specs.Prelude.{ℕ, zero, suc, ◌+◌, pred, List, [], ◌∷◌, Option, Some, None}
use Rattle.ap_stream.specs.Types.{Symbol, LimitKind, Limit}
use Rattle.ap_stream.specs.Items.{Item, Read}
use Rattle.ap_stream.specs.Told.{Told, silent, behind, ends_in}

-- what a step does: it uses so many items and writes this, or it stops at a limit
pub data Step : Type 0 where
  Gives : ℕ → List ℕ → Step
  Stops : LimitKind → Step

-- what a step at a place gives, and then what follows it
abbrev pub goes_on : ℕ → Step → (ℕ → Told) → Told
goes_on place (Gives n text) more = behind text (more (pred n))
goes_on place (Stops kind) more = ends_in [] (Limit kind place)

-- the steps from left to right, by the first step of some items, where so many items are used
-- already
unfoldable pub steps : (List Read → Step) → ℕ → List Read → Told
steps first skip [] = silent
steps first (suc skip) (read ∷ reads) = steps first skip reads
steps first zero (read ∷ reads) =
    goes_on read.place (first (read ∷ reads)) (λ n. steps first n reads)

-- the bytes of the items
abbrev pub bytes_of : List Read → ℕ
bytes_of [] = 0
bytes_of (read ∷ reads) = read.size + bytes_of reads

abbrev pub before : Option Symbol → List Symbol → List Symbol
before None symbols = []
before (Some x) symbols = x ∷ symbols

-- the symbols of the items, by the symbol of one, up to the first that has none
abbrev pub front : (Item → Option Symbol) → List Read → List Symbol
front symbol_of [] = []
front symbol_of (read ∷ reads) = before (symbol_of read.item) (front symbol_of reads)
