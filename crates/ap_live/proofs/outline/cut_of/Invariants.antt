use Rattle.std.proofs.Common.{ℕ, ◌≡◌, ◌<◌, ◌≤◌, ◌-◌, Some, slice_get}
use Rattle.ap_live.specs.Outlines.{Rises}
use Rattle.ap_live.specs.declared.outline.Entry.{Entry}
use Rattle.ap_live.proofs.outline.cut_of.Given as goal

abbrev pub invariant-loop-middle : goal.invariant-loop-middle
invariant-loop-middle l = record {
  from : l.first ≤ l.low;
  within : (l.low < l.high → l.high ≤ l.last);
  before : Rises l.entries l.first l.last → (j : ℕ) (x : Entry) →
      slice_get l.entries j ≡ Some x → l.first ≤ j → j < l.low → x.left < l.code;
  behind : Rises l.entries l.first l.last → (j : ℕ) (x : Entry) →
      slice_get l.entries j ≡ Some x → l.high ≤ j → j < l.last → l.code ≤ x.left;
}

abbrev pub decreases-loop-middle : goal.decreases-loop-middle
decreases-loop-middle l = l.high - l.low
