use Rattle.ap_fst.proofs.HubLaws.{arcs_among}
use Rattle.ap_fst.proofs.hubs.spread_hub.Goals as goal

pub loop-member-init : goal.loop-member-init
loop-member-init c = c.in_ok-pass_hubs.ensures c.args.arcs.now
    (arcs_among c.args.arcs.now c.arcs_by.result.now c.args.hub c.arcs_by.ensures)

pub loop-member-preserved : goal.loop-member-preserved
loop-member-preserved c = λ h. c.in_ok-pass_hubs-2.ensures c.args.arcs.now
    (arcs_among c.args.arcs.now c.arcs_by-in-Some.result.now c.in-Some.member
    c.arcs_by-in-Some.ensures)
    (c.loop-member.invariant h)
