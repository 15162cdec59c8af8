use Rattle.std.proofs.Common.{◌≡◌, ◌+◌, ◌-◌, ◌≤◌, length}
use Rattle.ap_binary.specs.Pieces.{letters_in, with_letters}
use Rattle.ap_binary.proofs.alphabet.letters.Given as goal

abbrev pub invariant-letters : goal.invariant-letters
invariant-letters l = record {
  shrinks : length l.rest ≤ length l.bytes;
  few : length l.found + length l.rest ≤ length l.bytes;
  meaning : with_letters l.found (letters_in (length l.bytes - length l.found) l.least l.rest)
      ≡ letters_in (length l.bytes) 0 l.bytes;
}

abbrev pub decreases-letters : goal.decreases-letters
decreases-letters l = length l.rest
