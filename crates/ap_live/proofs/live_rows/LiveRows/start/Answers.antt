use Rattle.std.proofs.Common.{◌∙◌, ◌++◌, ◌∷◌, [], ap}
use Rattle.ap_live.specs.declared.rows.Row.{Row}
use Rattle.ap_live.proofs.RowLaws.{live_begun}
use Rattle.ap_live.proofs.live_rows.LiveRows.start.Goals as goal

pub returns : goal.returns
returns c = λ is. live_begun c.args.fst.now c.push.new.self.items c.new-rows.result.items
    c.in_ok-row.row (c.in_ok-row.ensures.first is) c.in_ok-row.ensures.told
    c.new-rows.ensures.items (c.in_ok-push.ensures.items
    ∙ ap (λ (z : Row). c.new-rows.result.items ++ z ∷ []) c.new.ensures)
