use Rattle.std.proofs.Common.{◌≡◌, ◌-◌, ◌≤◌, length, drop}
use Rattle.ap_lookup.specs.PostGenerating.{blanks}
use Rattle.ap_lookup.proofs.post_writing.push_slot.Given as goal

abbrev pub invariant-loop-at : goal.invariant-loop-at
invariant-loop-at l = record {
  within : l.at ≤ length l.reads;
  text : l.text ≡ l.fn.text;
  same : blanks (drop l.at l.reads) ≡ blanks (drop l.from l.reads);
}

abbrev pub decreases-loop-at : goal.decreases-loop-at
decreases-loop-at l = length l.reads - l.at
