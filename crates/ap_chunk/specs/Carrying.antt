-- Tools that go over the items of a text from left to right, step by step, and carry what variables
-- hold from step to step.
use Rattle.std.specs.Prelude.{ℕ, zero, suc, pred, List, [], ◌∷◌}
use Rattle.ap_symbol.specs.declared.symbol.Symbol.{Symbol}
use Rattle.ap_stream.specs.declared.fault.LimitKind.{LimitKind}
use Rattle.ap_stream.specs.declared.fault.StreamFault.TheVariants.{Limit}
use Rattle.ap_stream.specs.declared.item.Read.{Read}
use Rattle.ap_stream.specs.Told.{Told, silent, behind, ends_in}

-- what variables hold, each by its number
abbrev pub Held : Type 0
Held = List (List Symbol)

-- what a step does: it uses so many items, writes this, and leaves this in the variables, or it
-- stops at a limit
pub data Step : Type 0 where
  Gives : ℕ → List ℕ → Held → Step
  Stops : LimitKind → Step

-- what a step at a place gives, and then what follows it
abbrev pub goes_on : ℕ → Step → (ℕ → Held → Told) → Told
goes_on place (Gives n text vars) more = behind text (more (pred n) vars)
goes_on place (Stops kind) more = ends_in [] (Limit kind place)

-- the steps from left to right, by the first step of some items, where so many items are used
-- already
unfoldable pub carried : (Held → List Read → Step) → Held → ℕ → List Read → Told
carried first vars skip [] = silent
carried first vars (suc skip) (read ∷ reads) = carried first vars skip reads
carried first vars zero (read ∷ reads) = goes_on read.place (first vars (read ∷ reads))
    (λ n held. carried first held n reads)
