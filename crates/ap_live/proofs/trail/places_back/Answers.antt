use Rattle.std.proofs.Common.{◌∙◌, sym}
use Rattle.ap_live.proofs.TrailLaws.{rest_more}
use Rattle.ap_live.proofs.trail.places_back.Goals as goal

pub loop-at-preserved : goal.loop-at-preserved
loop-at-preserved c = λ places back. rest_more c.args.nodes.now c.loop-at.at c.in-Some.node
    c.loop-at.found.items c.push.new.self.items places (c.loop-at.invariant places back)
    c.loop-at-test.true (sym c.node_at.ensures ∙ c.in-Some.is) c.in_ok-push.ensures.items
