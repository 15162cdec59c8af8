use Rattle.std.proofs.Common.{◌≡◌, ◌++◌}
use Rattle.ap_exec.specs.Beginning.{lead_in, from_first}
use Rattle.ap_exec.proofs.beginning.positions_of.Given as goal

abbrev pub invariant-numbers : goal.invariant-numbers
invariant-numbers l = l.positions.items ≡ lead_in l.fn.has_chunk ++ from_first l.number
