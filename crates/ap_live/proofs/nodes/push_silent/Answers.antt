use Rattle.std.proofs.Common.{None, ap, sym}
use Rattle.std.proofs.lemmas.Result.{IfOk-weaker}
use Rattle.ap_live.specs.Outlines.{side_code}
use Rattle.ap_live.specs.Spreads.{AnyPlace, HasLeft}
use Rattle.ap_live.proofs.NodeLaws.{adds_none, adds_seen, grows_none}
use Rattle.ap_live.proofs.Outlining.{silent_coded, silent_side}
use Rattle.ap_live.proofs.nodes.push_silent.Goals as goal

pub returns-then-not-may_have-clause-grown : goal.returns-then-not-may_have-clause-grown
returns-then-not-may_have-clause-grown c = grows_none c.args.nodes.now.items

pub returns-then-not-may_have-clause-added : goal.returns-then-not-may_have-clause-added
returns-then-not-may_have-clause-added c = λ edges from is ascend span codes.
    adds_none edges None from c.args.back AnyPlace c.args.nodes.now.items
    (λ s j p any. c.may_have.ensures c.if-not-may_have.true edges c.args.first c.args.last j p.edge
    codes p.at (span.outside j p.edge p.at (sym p.from_is)).0
    (span.outside j p.edge p.at (sym p.from_is)).1
    (ap side_code (silent_side edges from s j p any p.edge p.at)))

pub returns-clause-added : goal.returns-clause-added
returns-clause-added c = IfOk-weaker c.push_coded.result _ _
    (λ x h edges from is ascend span codes. adds_seen edges None from c.args.back (HasLeft edges None)
    AnyPlace c.args.nodes.now.items c.push_coded.new.nodes.items (silent_side edges from)
    (h edges None from c.args.first None
    (silent_coded edges c.args.outline.now from c.args.first c.args.last is ascend span)))
    c.push_coded.ensures.added
