use Rattle.std.proofs.Common.{arith}
use Rattle.ap_fst.proofs.RowLaws.{pruned_none, pruned_on, pruned_all}
use Rattle.ap_fst.proofs.rows.without_held.Goals as goal

pub loop-at-init : goal.loop-at-init
loop-at-init c = pruned_none c.args.moves.now c.args.arcs.now.finish c.args.places.now
    c.new-row.result.items c.new-row.ensures.items

pub loop-at-preserved : goal.loop-at-preserved
loop-at-preserved c = pruned_on c.args.moves.now c.args.arcs.now.finish c.args.places.now
    c.loop-at.row.items c.add_unless_held.new.row.items c.loop-at.at
    c.in_ok-add_unless_held.ensures c.loop-at.invariant

pub returns-clause-only : goal.returns-clause-only
returns-clause-only c = c.loop-at.invariant.only

pub returns-clause-all : goal.returns-clause-all
returns-clause-all c = pruned_all c.args.moves.now c.args.arcs.now.finish c.args.places.now
    c.loop-at.row.items c.loop-at.at (omega arith) c.loop-at.invariant
