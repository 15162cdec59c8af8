use Rattle.std.proofs.lemmas.Result.{IfOk-weaker}
use Rattle.ap_compile.proofs.Forming.{symbol_drafted}
use Rattle.ap_compile.proofs.expressions.symbol_draft.Goals as goal

pub returns : goal.returns
returns c = IfOk-weaker c.letter.result _ _
    (λ made h sound. symbol_drafted made c.in_ok-copy.field-0 c.in_ok-copy-2.field-0
    c.args.symbol.now c.in_ok-copy.ensures c.in_ok-copy-2.ensures sound h) c.letter.ensures
