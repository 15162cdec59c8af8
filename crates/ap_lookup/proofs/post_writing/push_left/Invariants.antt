use Rattle.std.proofs.Common.{◌≡◌, ◌-◌, ◌≤◌, ◌++◌, length, drop}
use Rattle.ap_lookup.specs.PostGenerating.{blanks, left_over}
use Rattle.ap_lookup.proofs.post_writing.push_left.Given as goal

abbrev pub invariant-loop-at : goal.invariant-loop-at
invariant-loop-at l = record {
  within : l.at ≤ length l.reads;
  so_far : l.fn.text ++ left_over (blanks (drop l.from l.reads)) ≡ l.text
      ++ left_over (blanks (drop l.at l.reads));
}

abbrev pub decreases-loop-at : goal.decreases-loop-at
decreases-loop-at l = length l.reads - l.at
