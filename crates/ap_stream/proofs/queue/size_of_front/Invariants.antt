use Rattle.std.proofs.Common.{◌≡◌, take}
use Rattle.ap_stream.specs.Steps.{bytes_of}
use Rattle.ap_stream.proofs.queue.size_of_front.Given as goal

abbrev pub invariant-loop-i : goal.invariant-loop-i
invariant-loop-i l = l.size ≡ bytes_of (take l.i l.reads)
