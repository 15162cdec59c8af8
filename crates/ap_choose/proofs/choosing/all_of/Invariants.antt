use Rattle.std.proofs.Common.{◌≡◌, take}
use Rattle.ap_choose.proofs.choosing.all_of.Given as goal

abbrev pub invariant-chances : goal.invariant-chances
invariant-chances l = l.kept ≡ take l.chance-index l.unit
