use Rattle.std.proofs.Common.{◌≡◌, ◌+◌, ◌-◌, ◌≤◌, length}
use Rattle.ap_binary.specs.Lines.{finals_in, with_finals}
use Rattle.ap_binary.proofs.lines.finals.Given as goal

abbrev pub invariant-finals : goal.invariant-finals
invariant-finals l = record {
  room : l.k + length l.rest ≤ length l.bytes;
  meaning : with_finals l.found (finals_in (l.count - l.k) l.states l.least (l.line + l.k) l.rest)
      ≡ finals_in l.count l.states 0 l.line l.bytes;
}
