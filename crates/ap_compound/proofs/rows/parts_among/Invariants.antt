use Rattle.std.proofs.Common.{◌≡◌, map, take}
use Rattle.std.specs.List.{filter}
use Rattle.ap_compound.specs.Tags.{tag_of, holds, bare}
use Rattle.ap_compound.proofs.rows.parts_among.Given as goal

abbrev pub invariant-loop-word : goal.invariant-loop-word
invariant-loop-word l = l.made
    ≡ map bare (filter (holds (tag_of l.part)) (take l.word-index l.words))
