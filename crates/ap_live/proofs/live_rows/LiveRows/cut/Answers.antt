use Rattle.std.proofs.Common.{◌<◌, List, arith, subst, sym, length}
use Rattle.ap_live.specs.Rows.{AreLiveRows}
use Rattle.ap_live.specs.declared.rows.Row.{Row}
use Rattle.ap_live.proofs.RowLaws.{live_cut}
use Rattle.ap_live.proofs.live_rows.LiveRows.cut.Goals as goal

pub returns : goal.returns
returns c = λ m seen are.
    let rows : List Row = c.self.inside.rows.items in
    let lt : c.args.len < length rows =
    omega (arith, c.if-len.false, c.len.ensures, c.self.inside.rows.ok.0) in
    live_cut m seen rows c.truncate.new.self.items c.args.len lt c.truncate.ensures.items
    (subst (λ (z : List Row). AreLiveRows m seen z) (sym c.self.view_is) are)
