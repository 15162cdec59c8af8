use Rattle.std.proofs.Common.{◌≡◌, ◌≤◌, ◌+◌, drop, false}
use Rattle.ap_command.proofs.Openings.{count_from}
use Rattle.ap_command.proofs.working.count_superblanks.Given as goal

abbrev pub invariant-loop-byte : goal.invariant-loop-byte
invariant-loop-byte l = record {
  whole : l.count + count_from l.inside l.escaped (drop l.byte-index l.text)
      ≡ count_from false false l.text;
  bound : l.count ≤ l.byte-index;
}
