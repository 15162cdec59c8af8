use Rattle.std.proofs.Common.{sym, subst, Some}
use Rattle.std.proofs.lemmas.Result.{IfOk-weaker}
use Rattle.ap_symbol.specs.declared.symbol.Symbol.{Symbol}
use Rattle.ap_live.specs.Fitting.{pick_of}
use Rattle.ap_live.specs.Spreads.{SpreadOne, HasLeft}
use Rattle.ap_live.proofs.rows.spread_symbol.Goals as goal

pub returns-in-Some : goal.returns-in-Some
returns-in-Some c = IfOk-weaker c.spread_letter.result _ _
    (λ x h is. subst (λ (z : Symbol). SpreadOne c.args.fst.now.edges (pick_of c.args.pick)
    c.args.from (HasLeft c.args.fst.now.edges (Some z)) c.args.states.now.items
    c.args.links.now.items c.spread_letter.new.states.items c.spread_letter.new.links.items)
    (sym c.in-Letter.is)
    (h c.args.fst.now.edges c.args.from is c.states.ensures.sound.edges_ascend
    (c.span_in.ensures.span c.args.fst.now.edges c.in-Some.first c.in-Some.last c.in-Some.codes c.in-Some.is is)))
    c.spread_letter.ensures
