use Rattle.std.proofs.Common.{get_or, refl, ◌∷◌, []}
use Rattle.ap_live.specs.Spreads.{arrival}
use Rattle.ap_live.proofs.Backing.{adds_link, adds_no_link}
use Rattle.ap_live.proofs.least_ways.push_links.Goals as goal

pub loop-link-init : goal.loop-link-init
loop-link-init c = adds_no_link _ _ _ _

pub loop-link-preserved : goal.loop-link-preserved
loop-link-preserved c = adds_link c.args.fst.now.edges c.args.silent c.args.links.now
    (c.args.item.now ∷ []) c.loop-link.link-index
    (get_or c.args.links.now c.loop-link.link-index (arrival 0 0)) (arrival 0 0)
    c.args.found.now.items c.loop-link.found.items c.push_link.new.found.items
    c.loop-link-test.true refl c.loop-link.invariant c.in_ok-push_link.ensures
