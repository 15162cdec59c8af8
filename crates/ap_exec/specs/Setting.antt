-- Of the inside: no public contract stands on this file.
-- What a variable holds before it is set.
use Rattle.std.specs.Prelude.{◌≡◌, Ok, slice_get}
use Rattle.ap_rules.specs.Plain.{PlainValue}
use Rattle.ap_rules.specs.declared.statement.Place.{Place}
use Rattle.ap_rules.specs.declared.statement.Place.TheVariants as place
use Rattle.ap_rules.specs.declared.value.Var.{Var}
use Rattle.ap_exec.specs.Units.{Sight, var_at}
use Rattle.ap_exec.specs.Values.{value_of}

-- the place is a variable that holds what the value gives
pub record IsHeld (sight : Sight) (p : Place) (v : PlainValue) : Type 0 where
  pub var : Var
  pub is : p ≡ place.Var var
  pub gives : value_of sight v ≡ Ok (var_at (slice_get sight.vars var.n))
