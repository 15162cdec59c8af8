use Rattle.std.proofs.lemmas.Result.{IfOk-weaker}
use Rattle.ap_live.proofs.LeastLaws.{thins_alike, thins_trans}
use Rattle.ap_live.proofs.least_ways.thin.Goals as goal

pub thin_back-requires : goal.thin_back-requires
thin_back-requires c = λ x i. c.requires x ((c.sort_items.ensures x).0 i)

pub thin_back-requires-2 : goal.thin_back-requires-2
thin_back-requires-2 c = λ x i. c.requires x
    ((c.sort_items.ensures x).0 (c.in_ok-kept.ensures.sound x i))

pub returns : goal.returns
returns c = IfOk-weaker c.thin_back-2.result _ _
    (λ kept h. thins_alike c.args.case c.args.items.items c.sort_items.new.items.items kept.items
    c.sort_items.ensures
    (thins_trans c.args.case c.sort_items.new.items.items c.in_ok-kept.kept.items kept.items
    c.in_ok-kept.ensures h)) c.thin_back-2.ensures
