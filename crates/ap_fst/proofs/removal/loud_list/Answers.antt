use Rattle.std.proofs.Common.{arith}
use Rattle.ap_fst.specs.Removal.{IsLoudArc}
use Rattle.ap_fst.proofs.Adding.{adds_next}
use Rattle.ap_fst.proofs.Removals.{loud_all}
use Rattle.ap_fst.proofs.removal.loud_list.Goals as goal

pub loop-at-preserved : goal.loop-at-preserved
loop-at-preserved c = adds_next (IsLoudArc c.args.moves.now) c.loop-at.at c.new-arcs.result.items
    c.loop-at.arcs.items c.add_loud.new.arcs.items c.loop-at.invariant c.in_ok-add_loud.ensures

pub returns : goal.returns
returns c = loud_all c.args.moves.now c.loop-at.at c.new-arcs.result.items c.loop-at.arcs.items
    (omega arith) c.new-arcs.ensures.items c.loop-at.invariant
