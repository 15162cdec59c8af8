use Rattle.std.proofs.Common.{◌≡◌, ◌≤◌, drop, length, map, None, IfSome}
use Rattle.ap_exec.specs.Parts.{longest, tags_in}
use Rattle.ap_exec.proofs.clips.longest_of.Given as goal

abbrev pub invariant-loop-item : goal.invariant-loop-item
invariant-loop-item l = (longest l.best (map tags_in (drop l.item-index l.items)) l.word
    ≡ longest None (map tags_in l.items) l.word) × IfSome l.best (λ n. n ≤ length l.word)
