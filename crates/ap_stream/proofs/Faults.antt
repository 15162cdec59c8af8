-- The faults of tools are limits: a text that is read on is never malformed for them.
use Rattle.std.specs.Prelude.{ℕ, zero, suc, pred, Bool, true, false, List, [], ◌∷◌, Option, Some, None, if◌then◌else◌}
use Rattle.std.proofs.Common.{inl, inr}
use Rattle.ap_symbol.specs.declared.symbol.Symbol.{Symbol}
use Rattle.ap_stream.specs.Each.{each, item_text, is_over}
use Rattle.ap_stream.specs.ReadOn.{IsNoneOrTooLong, IsNotMalformed}
use Rattle.ap_stream.specs.Steps.{Step, Gives, Stops, goes_on, steps}
use Rattle.ap_stream.specs.Told.{Clean, behind, ends_in, or_else, stop_at}
use Rattle.ap_stream.specs.declared.fault.LimitKind.TheVariants.{UnitTooLong}
use Rattle.ap_stream.specs.declared.fault.StreamFault.{StreamFault}
use Rattle.ap_stream.specs.declared.fault.StreamFault.TheVariants.{Limit}
use Rattle.ap_stream.specs.declared.item.Read.{Read}

none_fine : IsNotMalformed None
none_fine kind place h = cc

stop_fine : (stop : Option StreamFault) → IsNoneOrTooLong stop → IsNotMalformed stop
stop_fine stop (inl e) kind place h = absurd (cc)
stop_fine stop (inr e) kind place h = absurd (let k = e.1 in cc)

-- a fault of its own, or what stops the reading
pub fault_fine : (own stop : Option StreamFault) → IsNotMalformed own → IsNoneOrTooLong stop →
    IsNotMalformed (or_else own (stop_at Clean stop))
fault_fine None stop h k = stop_fine stop k
fault_fine (Some fault) stop h k = h

pub each_fine : (given : List (List Symbol) → List ℕ) (items : List Read) →
    IsNotMalformed (each given items).fault
each_fine given [] = none_fine
each_fine given (read ∷ items) = by (is_over given read.item) (each_fine given items)
  where
    by : (v : Bool) → IsNotMalformed (each given items).fault →
        IsNotMalformed (if v then ends_in [] (Limit UnitTooLong read.place)
        else behind (item_text given read.item) (each given items)).fault
    by true go = λ kind place h. absurd (cc)
    by false go = go

module _ (first : List Read → Step) where
  on_fine : (read : Read) (items : List Read) (step : Step) →
      ((n : ℕ) → IsNotMalformed (steps first n items).fault) →
      IsNotMalformed (goes_on read.place step (λ n. steps first n items)).fault
  on_fine read items (Gives n text) go = go (pred n)
  on_fine read items (Stops kind) go = λ other place h. absurd (cc)

  pub steps_fine : (skip : ℕ) (items : List Read) → IsNotMalformed (steps first skip items).fault
  unfolding steps
  steps_fine zero [] = none_fine
  steps_fine (suc skip) [] = none_fine
  steps_fine (suc skip) (read ∷ items) = steps_fine skip items
  steps_fine zero (read ∷ items) =
      on_fine read items (first (read ∷ items)) (λ n. steps_fine n items)
