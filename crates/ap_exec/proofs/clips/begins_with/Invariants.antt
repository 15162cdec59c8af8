use Rattle.std.proofs.Common.{◌≡◌, ◌+◌, drop, length}
use Rattle.ap_exec.specs.Parts.{begins_with}
use Rattle.ap_exec.proofs.clips.begins_with.Given as goal

abbrev pub invariant-loop-s : goal.invariant-loop-s
invariant-loop-s l = (begins_with (drop l.s-index l.item) l.word ≡ begins_with l.item l.fn.word)
    × (l.s-index + length l.word ≡ length l.fn.word)
