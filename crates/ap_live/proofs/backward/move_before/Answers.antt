use Rattle.std.proofs.Common.{false, ◌∷◌, []}
use Rattle.std.proofs.lemmas.Result.{IfOk-weaker}
use Rattle.ap_live.proofs.Backing.{adds_here, adds_none_here, adds_last}
use Rattle.ap_live.proofs.backward.move_before.Goals as goal

pub returns : goal.returns
returns c = IfOk-weaker c.move_link.result _ _
    (λ x h. adds_here c.args.fst.now.edges false c.args.links.now c.arrivals_at-here.result.now
    c.args.item c.args.found.now c.move_link.new.found c.arrivals_at-here.ensures
    (adds_last c.args.fst.now.edges false c.arrivals_at-here.result.now c.in-Some.others.now
    c.in-Some.last.now (c.args.item ∷ []) c.args.found.now c.add_links.new.found
    c.move_link.new.found c.in-Some.ensures.cases.0 c.in_ok-add_links.ensures h))
    c.move_link.ensures

pub returns-in_default : goal.returns-in_default
returns-in_default c = adds_here c.args.fst.now.edges false c.args.links.now
    c.arrivals_at-here.result.now c.args.item c.args.found.now c.args.found.now
    c.arrivals_at-here.ensures
    (adds_none_here c.args.fst.now.edges false c.arrivals_at-here.result.now (c.args.item ∷ [])
    c.args.found.now c.in_default.ensures.cases)
