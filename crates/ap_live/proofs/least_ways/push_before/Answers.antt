use Rattle.std.proofs.lemmas.Result.{IfOk-weaker}
use Rattle.ap_live.proofs.Backing.{adds_here}
use Rattle.ap_live.proofs.least_ways.push_before.Goals as goal

pub returns : goal.returns
returns c = IfOk-weaker c.push_links.result _ _
    (λ x h. adds_here c.args.fst.now.edges c.args.silent c.args.links.now
    c.arrivals_at-here.result.now c.args.item.now c.args.found.now.items
    c.push_links.new.found.items c.arrivals_at-here.ensures h) c.push_links.ensures
