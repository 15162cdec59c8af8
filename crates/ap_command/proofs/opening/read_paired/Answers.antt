use Rattle.std.proofs.Common.{refl, inl}
use Rattle.ap_command.specs.Reading.{OfRules}
use Rattle.ap_command.proofs.opening.read_paired.Goals as goal

pub returns-in-Err-BadPair-clause-refused : goal.returns-in-Err-BadPair-clause-refused
returns-in-Err-BadPair-clause-refused c = inl (
  OfRules 14 c.in-Err-BadPair.line,
  (refl, c.in-Err-BadPair.ensures.bad c.in-Err-BadPair.line c.in-Err-BadPair.field-0-is),
  refl,
)
