use Rattle.std.proofs.Common.{Some}
use Rattle.std.proofs.lemmas.Result.{IfOk-weaker}
use Rattle.ap_symbol.specs.declared.symbol.Symbol.TheVariants.{Letter}
use Rattle.ap_live.specs.Fitting.{pick_of}
use Rattle.ap_live.proofs.Outlining.{letter_coded}
use Rattle.ap_live.proofs.rows.spread_letter.Goals as goal

pub returns : goal.returns
returns c = IfOk-weaker c.spread_coded.result _ _
    (λ x h edges from is ascend span. h edges from c.args.first (Some (Letter c.args.letter))
    (letter_coded edges c.args.outline.now (pick_of c.args.pick) from c.args.first c.args.last
    c.low_of-low.result c.args.letter c.letter_code-code.result c.as_slice.result.now
    c.letter_code-code.ensures.code c.letter_code-code.ensures.small c.as_slice.ensures.value
    is ascend span c.low_of-low.ensures c.requires.picks)) c.spread_coded.ensures
