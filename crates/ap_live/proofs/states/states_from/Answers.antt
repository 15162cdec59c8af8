use Rattle.std.proofs.Common.{get_or, refl}
use Rattle.std.proofs.lemmas.Option.{slice_get-get_or}
use Rattle.ap_live.specs.Trails.{node}
use Rattle.ap_live.specs.declared.nodes.Node.{Node}
use Rattle.ap_live.proofs.Reached.{all_states, one_state}
use Rattle.ap_live.proofs.states.states_from.Goals as goal

pub loop-at-preserved : goal.loop-at-preserved
loop-at-preserved c =
    let x : Node = get_or c.args.nodes.now c.loop-at.at (node 0 0 0) in
    one_state c.args.nodes.now c.args.low c.loop-at.at x c.loop-at.states.items
    c.push.new.self.items
    (slice_get-get_or c.args.nodes.now c.loop-at.at (node 0 0 0) c.loop-at-test.true)
    c.loop-at.auto.at c.in-Ok.ensures.items c.loop-at.invariant

pub returns : goal.returns
returns c = all_states c.args.nodes.now c.args.low c.loop-at.at _ c.loop-at.states.items
    c.sort_states.new.states.items refl c.loop-at-test.false c.sort_states.ensures.members
    c.loop-at.invariant
