use Rattle.std.proofs.Common.{ℕ, ◌≡◌, ◌<◌, ◌≤◌, ◌-◌, Some, slice_get}
use Rattle.ap_live.specs.declared.outline.Entry.{Entry}
use Rattle.ap_live.proofs.outline.next_from.Given as goal

abbrev pub invariant-loop-low : goal.invariant-loop-low
invariant-loop-low l = record {
  from : l.first ≤ l.low;
  before : (j : ℕ) (x : Entry) → slice_get l.entries j ≡ Some x → l.first ≤ j → j < l.low →
      x.left < l.code;
}

abbrev pub decreases-loop-low : goal.decreases-loop-low
decreases-loop-low l = l.last - l.low
