use Rattle.std.proofs.Common.{◌≡◌, ◌+◌, ◌-◌, ◌≤◌, length, None}
use Rattle.ap_binary.specs.Lines.{edges_in, with_edges}
use Rattle.ap_binary.proofs.Going.{last_of}
use Rattle.ap_binary.proofs.lines.edges.Given as goal

abbrev pub invariant-edges : goal.invariant-edges
invariant-edges l = record {
  room : l.k + length l.rest ≤ length l.bytes;
  meaning : with_edges l.found
      (edges_in (l.count - l.k) l.states (last_of l.found) (l.line + l.k) l.rest)
      ≡ edges_in l.count l.states None l.line l.bytes;
}
