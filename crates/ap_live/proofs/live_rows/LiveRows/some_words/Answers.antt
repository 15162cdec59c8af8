use Rattle.std.proofs.Common.{◌∙◌}
use Rattle.std.proofs.lemmas.Result.{IfOk-weaker}
use Rattle.ap_live.proofs.RowLaws.{live_as}
use Rattle.ap_live.proofs.live_rows.LiveRows.some_words.Goals as goal

pub returns : goal.returns
returns c = IfOk-weaker c.some_back.result _ _
    (λ words h outlined seen are. h outlined seen (live_as c.args.fst.now seen c.args.self.now
    c.as_slice.result.now (c.as_slice.ensures.value ∙ c.self.view_is) are).rows_are)
    c.some_back.ensures
