use Rattle.std.proofs.Common.{◌≡◌, ◌++◌, drop}
use Rattle.ap_format.specs.declared.blanks.Spot.TheVariants.{Outside}
use Rattle.ap_format.specs.Reformatted.{bare_blank}
use Rattle.ap_format.proofs.blanks.push_bare.Given as goal

abbrev pub invariant-loop-byte : goal.invariant-loop-byte
invariant-loop-byte l =
    l.initial.text.items ++ bare_blank Outside l.bytes
    ≡ l.text.items ++ bare_blank l.at (drop l.byte-index l.bytes)
