use Rattle.std.proofs.Common.{◌≡◌, drop}
use Rattle.ap_expand.specs.Uses.{with_uses, parts_uses}
use Rattle.ap_expand.proofs.uses.parts_uses.Given as goal

abbrev pub invariant-loop-part : goal.invariant-loop-part
invariant-loop-part l =
    with_uses l.made (parts_uses l.uses (drop l.part-index l.parts)) ≡ parts_uses l.uses l.parts
