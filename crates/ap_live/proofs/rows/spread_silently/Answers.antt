use Rattle.std.proofs.Common.{None}
use Rattle.std.proofs.lemmas.Result.{IfOk-weaker}
use Rattle.ap_live.proofs.Outlining.{silent_all, silent_coded}
use Rattle.ap_live.proofs.rows.spread_silently.Goals as goal

pub returns-in-None : goal.returns-in-None
returns-in-None c = IfOk-weaker c.spread_left.result _ _
    (λ x h is. silent_all c.args.fst.now.edges c.args.from c.args.states.now.items
    c.args.links.now.items c.spread_left.new.states.items c.spread_left.new.links.items h)
    c.spread_left.ensures

pub returns-in-Some : goal.returns-in-Some
returns-in-Some c = IfOk-weaker c.spread_coded.result _ _
    (λ x h is. silent_all c.args.fst.now.edges c.args.from c.args.states.now.items
    c.args.links.now.items c.spread_coded.new.states.items c.spread_coded.new.links.items
    (h c.args.fst.now.edges c.args.from c.in-Some.first None
    (silent_coded c.args.fst.now.edges c.args.outline.now c.args.from c.in-Some.first
    c.in-Some.last is c.states.ensures.sound.edges_ascend
    (c.span_in.ensures.span c.args.fst.now.edges c.in-Some.first c.in-Some.last c.in-Some.field-0-2 c.in-Some.is is))))
    c.spread_coded.ensures
