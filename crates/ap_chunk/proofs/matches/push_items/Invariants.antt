use Rattle.std.proofs.Common.{◌≡◌, ◌++◌, take}
use Rattle.ap_chunk.specs.Matches.{shown_items}
use Rattle.ap_chunk.proofs.matches.push_items.Given as goal

abbrev pub invariant-loop-read : goal.invariant-loop-read
invariant-loop-read l = l.into.items ≡ l.fn.into.items ++ shown_items (take l.read-index l.reads)
