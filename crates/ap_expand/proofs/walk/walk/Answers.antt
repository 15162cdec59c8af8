use Rattle.std.proofs.Common.{◌-◌, arith}
use Rattle.ap_expand.proofs.Walking.{walked-parent, parent-smaller, walked-end}
use Rattle.ap_expand.proofs.walk.walk.Goals as goal

pub returns-then-parent-eq0-clause-comes : goal.returns-then-parent-eq0-clause-comes
returns-then-parent-eq0-clause-comes c =
    walked-end c.args.frames.now c.args.parts.now c.args.parent c.args.left.now.items
    c.args.right.now.items c.parts.parts.now c.parts.parent c.parts.left.items c.parts.right.items
    c.parts.invariant c.in-None.ensures.cases (omega arith)

pub parts-smaller : goal.parts-smaller
parts-smaller c = parent-smaller c.args.frames.now c.parts.parts.now c.parts.parent
    (c.parts.parent - 1) c.index-frames-parent.result c.requires.linked c.in-None.ensures.cases
    (omega arith) (omega (arith, c.parts.invariant.bound)) c.index-frames-parent.is

pub parts-preserved : goal.parts-preserved
parts-preserved c = walked-parent c.args.frames.now c.args.parts.now c.args.parent
    c.args.left.now.items c.args.right.now.items c.parts.parts.now c.parts.parent c.parts.left.items
    c.parts.right.items (c.parts.parent - 1) c.index-frames-parent.result c.parts.invariant
    c.requires.linked c.in-None.ensures.cases (omega arith) (omega (arith, c.parts.invariant.bound))
    c.index-frames-parent.is
