use Rattle.std.proofs.Common.{◌≡◌, ◌≤◌, ◌+◌, ◌-◌, ◌*◌, length}
use Rattle.ap_command.specs.Working.{sentences_from, made_text}
use Rattle.ap_command.proofs.made.made_size.Given as goal

abbrev pub invariant-loop-number : goal.invariant-loop-number
invariant-loop-number l = record {
  whole : l.size + length (sentences_from l.number (l.sentences - l.number))
      ≡ length (made_text l.sentences);
  bound : l.size ≤ 100 * l.number;
  within : l.number ≤ l.sentences;
}
