use Rattle.std.proofs.Common.{◌∙◌}
use Rattle.ap_live.specs.Rows.{AreLiveRows}
use Rattle.ap_live.proofs.RowLaws.{live_as}
use Rattle.ap_live.proofs.live_rows.LiveRows.accepts.Goals as goal

pub returns : goal.returns
returns c = λ m seen are.
    let live : AreLiveRows m seen c.as_slice.result.now =
    live_as m seen c.args.self.now c.as_slice.result.now
    (c.as_slice.ensures.value ∙ c.self.view_is) are in
    c.ends_finally.ensures m seen live.rows_are live.told
