use Rattle.std.proofs.Common.{◌+◌, ◌++◌, length, reverse}
use Rattle.ap_expand.specs.Search.{todo_of}
use Rattle.ap_expand.proofs.Walking.{Walked}
use Rattle.ap_expand.proofs.walk.walk.Given as goal

abbrev pub invariant-parts : goal.invariant-parts
invariant-parts l = Walked l.frames l.fn.parts l.fn.parent l.fn.left.items l.fn.right.items l.parts
    l.parent l.left.items l.right.items

-- the parts to go, and the frames that they stand in
abbrev pub decreases-parts : goal.decreases-parts
decreases-parts l = length (l.parts ++ todo_of (reverse l.frames) l.parent) + l.parent
