-- Stages in a row, each of which reads what the one before it writes.
use Rattle.std.specs.Prelude.{◌≡◌, ℕ, ◌<◌, List, [], ◌∷◌, Some}
use Rattle.ap_stream.specs.ReadOn.{IsNotMalformed, WritesFor, NeverMalformed}
use Rattle.ap_stream.specs.Told.{Told, Ending}
use Rattle.ap_stream.specs.declared.dialect.Dialect.{Dialect}
use Rattle.ap_pipe.specs.Row.{meaning}
use Rattle.ap_pipe.specs.declared.station.RowFault.{RowFault}

-- Behind the first stage, what each stage writes is read on by the dialect of the next one, and a
-- text that is read on by its dialect is never malformed for that one.
abbrev pub AreLinked : (List ℕ → Ending → Told) → List Dialect → List (List ℕ → Ending → Told)
    → Type 0
AreLinked stage dialects [] = Unit {0}
AreLinked stage [] (next ∷ stages) = ⊥
AreLinked stage (dialect ∷ dialects) (next ∷ stages) = WritesFor dialect stage
    × NeverMalformed dialect next × AreLinked next dialects stages

-- In such a row no fault of a stage behind the first is that its text is malformed. The first stage
-- has this number.
abbrev pub BehindTheFirst : Type 0
BehindTheFirst = (stage : List ℕ → Ending → Told) (stages : List (List ℕ → Ending → Told))
    (dialects : List Dialect) → AreLinked stage dialects stages → (number : ℕ) (text : List ℕ)
    (ending : Ending) (fault : RowFault) →
    (meaning number (stage ∷ stages) text ending).fault ≡ Some fault → number < fault.stage →
    IsNotMalformed (Some fault.fault)
