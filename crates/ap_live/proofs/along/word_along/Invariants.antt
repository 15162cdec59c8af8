use Rattle.std.proofs.Common.{◌≡◌, ◌++◌, length}
use Rattle.std.specs.Prelude.{reverse}
use Rattle.ap_live.specs.Heads.{written}
use Rattle.ap_live.specs.Outlines.{IsOutline}
use Rattle.ap_live.proofs.along.word_along.Given as goal

abbrev pub invariant-loop-place : goal.invariant-loop-place
invariant-loop-place l = record {
  edges : l.edges ≡ l.fst.edges;
  word : IsOutline l.fst.edges l.outline → reverse (written l.fst.edges l.initial.places.items)
      ≡ l.word ++ reverse (written l.fst.edges l.places.items);
}

abbrev pub decreases-loop-place : goal.decreases-loop-place
decreases-loop-place l = length l.places.items
