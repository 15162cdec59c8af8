use Rattle.std.proofs.Common.{◌∙◌}
use Rattle.std.proofs.lemmas.Result.{IfOk-weaker}
use Rattle.ap_live.proofs.LiveLaws.{outputs_law}
use Rattle.ap_live.proofs.RowLaws.{live_as}
use Rattle.ap_live.proofs.live_rows.LiveRows.words.Goals as goal

pub returns-clause-members : goal.returns-clause-members
returns-clause-members c = IfOk-weaker c.ordered_words.result _ _
    (λ words h seen are. outputs_law c.args.fst.now seen c.in_ok-backs.backs.items words.items
    (c.in_ok-backs.ensures.outputs seen (live_as c.args.fst.now seen c.args.self.now
    c.as_slice.result.now (c.as_slice.ensures.value ∙ c.self.view_is) are).rows_are) h)
    c.ordered_words.ensures.members
