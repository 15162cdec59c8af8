use Rattle.std.proofs.Common.{◌≡◌, length}
use Rattle.ap_compile.proofs.last_uses.no_uses.Given as goal

abbrev pub invariant-loop : goal.invariant-loop
invariant-loop l = length l.last.items ≡ l.counter
