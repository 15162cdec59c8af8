use Rattle.std.proofs.Common.{◌≡◌, take}
use Rattle.ap_compile.specs.LastUses.{paradigms_in}
use Rattle.ap_compile.proofs.last_uses.used_paradigms.Given as goal

abbrev pub invariant-loop-entry : goal.invariant-loop-entry
invariant-loop-entry l = l.used.items ≡ paradigms_in (take l.entry-index l.entries)
