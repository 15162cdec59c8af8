use Rattle.std.proofs.Common.{◌≡◌, ◌++◌, take}
use Rattle.ap_compile.specs.LastUses.{paradigms_of}
use Rattle.ap_compile.proofs.last_uses.push_paradigms.Given as goal

abbrev pub invariant-loop-part : goal.invariant-loop-part
invariant-loop-part l =
    l.used.items ≡ l.fn.used.items ++ paradigms_of (take l.part-index l.parts)
