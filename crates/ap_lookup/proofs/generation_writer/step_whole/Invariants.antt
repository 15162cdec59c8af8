use Rattle.std.proofs.Common.{◌-◌, ◌≤◌, length, take}
use Rattle.ap_live.specs.SectionLives.{AreLive}
use Rattle.ap_lookup.proofs.generation_writer.step_whole.Given as goal

abbrev pub invariant-loop-at : goal.invariant-loop-at
invariant-loop-at l = record {
  fits : l.at ≤ length l.symbols;
  lives : AreLive l.compiled l.sensitive (take l.at l.symbols) l.lives;
}

abbrev pub decreases-loop-at : goal.decreases-loop-at
decreases-loop-at l = length l.symbols - l.at
