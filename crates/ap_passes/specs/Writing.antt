-- Of the inside: no public contract stands on this file.
-- Words as units behind those that stand already.
use Rattle.std.specs.Prelude.{ℕ, Bool, true, false, List}
use Rattle.std.specs.List.{flat_map}
use Rattle.ap_symbol.specs.declared.symbol.Symbol.{Symbol}
use Rattle.ap_passes.specs.Passes.{spaced, spaced_one}

-- the words as units, each behind a space; the first one too, where a unit stands before
abbrev pub following : Bool → List (List Symbol) → List ℕ
following true words = flat_map spaced_one words
following false words = spaced words
