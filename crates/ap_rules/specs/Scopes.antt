-- What the reading of elements is given.
use Rattle.ap_rules.specs.Values.{Scope}
use Rattle.ap_rules.specs.declared.values.Scope.{Scope as Held}

abbrev pub scope : Held → Scope
scope s = record { form = s.form; chunks = s.chunks; names = s.names.now; reach = s.reach }
