use Rattle.std.proofs.Common.{◌∙◌, Some, ap, sym}
use Rattle.std.proofs.lemmas.Result.{IfOk-weaker}
use Rattle.ap_symbol.specs.declared.symbol.Symbol.TheVariants.{Letter}
use Rattle.ap_live.specs.Outlines.{side_code}
use Rattle.ap_live.specs.Spreads.{HasLeft}
use Rattle.ap_live.proofs.NodeLaws.{adds_none, grows_none}
use Rattle.ap_live.proofs.Outlining.{letter_coded}
use Rattle.ap_live.proofs.nodes.push_letter.Goals as goal

pub returns-then-not-may_have-clause-grown : goal.returns-then-not-may_have-clause-grown
returns-then-not-may_have-clause-grown c = grows_none c.args.nodes.now.items

pub returns-then-not-may_have-clause-added : goal.returns-then-not-may_have-clause-added
returns-then-not-may_have-clause-added c = λ edges pick from is ascend span codes picked.
    adds_none edges pick from c.args.back (HasLeft edges (Some (Letter c.args.letter)))
    c.args.nodes.now.items
    (λ s j p left. c.may_have.ensures c.if-not-may_have.true edges c.args.first c.args.last j p.edge
    codes p.at (span.outside j p.edge p.at (sym p.from_is)).0
    (span.outside j p.edge p.at (sym p.from_is)).1
    (ap side_code (left p.edge p.at) ∙ sym c.letter_code-code.ensures.code))

pub returns-clause-added : goal.returns-clause-added
returns-clause-added c = IfOk-weaker c.push_coded.result _ _
    (λ x h edges pick from is ascend span codes picked.
    h edges pick from c.args.first (Some (Letter c.args.letter))
    (letter_coded edges c.args.outline.now pick from c.args.first c.args.last
    c.low_of-low.result c.args.letter c.letter_code-code.result c.as_slice.result.now
    c.letter_code-code.ensures.code c.letter_code-code.ensures.small c.as_slice.ensures.value
    is ascend span c.low_of-low.ensures picked)) c.push_coded.ensures.added
