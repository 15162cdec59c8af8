-- Of the inside: no public contract stands on this file.
-- Some of the outputs, found along rows.
use Rattle.std.specs.Prelude.{List}
use Rattle.ap_symbol.specs.declared.symbol.Symbol.{Symbol}
use Rattle.ap_fst.specs.Lists.{IsIn}
use Rattle.ap_fst.specs.Machines.{Machine}
use Rattle.ap_live.specs.Fitting.{Input}
use Rattle.ap_live.specs.Outlines.{IsOutline}
use Rattle.ap_live.specs.Outputs.{IsOutput}
use Rattle.ap_live.specs.Rows.{AreRows}
use Rattle.ap_live.specs.declared.outline.Outline.{Outline}
use Rattle.ap_live.specs.declared.rows.Row.{Row}

-- each of these words is an output of the inputs that the rows are of
abbrev pub AreSomeOutputs : Machine → Outline → List Row → List (List Symbol) → Type 0
AreSomeOutputs m outline rows words = IsOutline m.edges outline → (seen : List Input) →
    AreRows m.edges seen rows → (w : List Symbol) → IsIn w words → IsOutput m seen w
