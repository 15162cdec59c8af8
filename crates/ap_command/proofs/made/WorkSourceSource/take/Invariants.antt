use Rattle.std.proofs.Common.{length, ◌-◌, ◌≡◌, ◌≤◌, ◌++◌, take}
use Rattle.ap_command.specs.Working.{left_of}
use Rattle.ap_command.proofs.made.WorkSourceSource.take.Given as goal

abbrev pub invariant-loop-count : goal.invariant-loop-count
invariant-loop-count l = record {
  given : left_of l.fn.self.part l.fn.self.next l.fn.self.at (l.fn.self.sentences - l.fn.self.next)
      ≡ take l.count l.into
      ++ left_of l.self.part l.self.next l.self.at (l.self.sentences - l.self.next);
  within : l.count ≤ length l.into;
}

abbrev pub decreases-loop-count : goal.decreases-loop-count
decreases-loop-count l = length l.initial.into - l.count
