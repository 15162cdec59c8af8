use Rattle.std.proofs.Common.{◌≡◌, ◌+◌, ◌≤◌, take}
use Rattle.ap_live.specs.Greatest.{greatest}
use Rattle.ap_live.specs.Lexicon.{lexicon_of}
use Rattle.ap_live.specs.SectionLives.{AreLive}
use Rattle.ap_lookup.specs.Matching.{is_match}
use Rattle.ap_lookup.proofs.translation.step_down.Given as goal

abbrev pub invariant-loop-at : goal.invariant-loop-at
invariant-loop-at l = record {
  lives : AreLive l.compiled l.sensitive (take l.at l.symbols) l.lives;
  below : l.at ≤ l.from;
  low : l.least ≤ l.from + 1 → l.least ≤ l.at + 1;
  is : greatest (is_match (lexicon_of l.compiled l.sensitive) l.least l.symbols) l.from
      ≡ greatest (is_match (lexicon_of l.compiled l.sensitive) l.least l.symbols) l.at;
}

abbrev pub decreases-loop-at : goal.decreases-loop-at
decreases-loop-at l = l.at
