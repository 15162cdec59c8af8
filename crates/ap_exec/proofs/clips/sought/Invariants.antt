use Rattle.std.proofs.Common.{◌≡◌, ◌+◌, length, map}
use Rattle.ap_exec.specs.Parts.{sought, tags_in}
use Rattle.ap_exec.proofs.clips.sought.Given as goal

abbrev pub invariant-places : goal.invariant-places
invariant-places l = (sought l.at (map tags_in l.attribute) l.rest
    ≡ sought l.start (map tags_in l.attribute) l.word)
    × (l.at + length l.rest ≡ l.start + length l.word)

abbrev pub decreases-places : goal.decreases-places
decreases-places l = length l.rest
