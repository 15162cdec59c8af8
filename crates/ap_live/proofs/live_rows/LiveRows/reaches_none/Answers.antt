use Rattle.std.proofs.Common.{◌∙◌}
use Rattle.ap_live.proofs.RowLaws.{live_as}
use Rattle.ap_live.proofs.live_rows.LiveRows.reaches_none.Goals as goal

pub returns : goal.returns
returns c = λ m seen are. c.reaches_none.ensures m.edges seen
    (live_as m seen c.args.self.now c.as_slice.result.now
    (c.as_slice.ensures.value ∙ c.self.view_is) are).rows_are
