use Rattle.std.proofs.Common.{◌≡◌, drop}
use Rattle.ap_choose.specs.Choice.{first_tag}
use Rattle.ap_choose.proofs.chance.first_tag.Given as goal

abbrev pub invariant-symbols : goal.invariant-symbols
invariant-symbols l = first_tag (drop l.symbol-index l.symbols) ≡ first_tag l.symbols
