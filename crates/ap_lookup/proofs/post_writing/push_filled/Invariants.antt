use Rattle.std.proofs.Common.{◌≡◌, ◌-◌, ◌≤◌, ◌++◌, length, drop}
use Rattle.ap_lookup.specs.PostGenerating.{blanks, filled}
use Rattle.ap_lookup.proofs.post_writing.push_filled.Given as goal

abbrev pub invariant-loop-at : goal.invariant-loop-at
invariant-loop-at l = record {
  at_within : l.at ≤ length l.word;
  within : l.from ≤ length l.reads;
  so_far : l.fn.text ++ filled l.word (blanks l.reads) ≡ l.text
      ++ filled (drop l.at l.word) (blanks (drop l.from l.reads));
}

abbrev pub decreases-loop-at : goal.decreases-loop-at
decreases-loop-at l = length l.word - l.at
