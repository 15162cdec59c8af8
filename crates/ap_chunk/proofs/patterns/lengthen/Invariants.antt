use Rattle.std.proofs.Common.{◌≡◌, ℕ, ◌+◌, ◌-◌, vec_len}
use Rattle.ap_chunk.specs.Patterns.{lists, list_at}
use Rattle.ap_chunk.proofs.patterns.lengthen.Given as goal

abbrev pub invariant-room : goal.invariant-room
invariant-room l = (n : ℕ) → list_at (lists l.into.items) n ≡ list_at (lists l.fn.into.items) n

abbrev pub decreases-room : goal.decreases-room
decreases-room l = (l.number + 1) - vec_len l.into
