use Rattle.std.proofs.lemmas.Result.{IfOk-weaker}
use Rattle.ap_live.proofs.rows.spread_mark.Goals as goal

pub returns-then-last-saturating_add : goal.returns-then-last-saturating_add
returns-then-last-saturating_add c = IfOk-weaker c.spread_few.result _ _
    (λ x h is. h c.args.from
    (c.span_in.ensures.span c.args.fst.now.edges c.in-Some.first c.in-Some.last c.in-Some.field-0-2 c.in-Some.is is))
    c.spread_few.ensures
