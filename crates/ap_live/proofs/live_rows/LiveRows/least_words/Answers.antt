use Rattle.std.proofs.Common.{◌∙◌}
use Rattle.std.proofs.lemmas.Result.{IfOk-weaker}
use Rattle.ap_live.proofs.LeastLaws.{all_hold}
use Rattle.ap_live.proofs.RowLaws.{live_as}
use Rattle.ap_live.proofs.live_rows.LiveRows.least_words.Goals as goal

pub returns-then-not-may_be_many : goal.returns-then-not-may_be_many
returns-then-not-may_be_many c = IfOk-weaker c.words.result _ _
    (λ words h seen are. all_hold c.args.fst.now c.args.case seen words.items (h seen are))
    c.words.ensures.members

pub returns-in-Some : goal.returns-in-Some
returns-in-Some c = λ seen are. (rw c.in-Some.is at c.in_ok-words.ensures) seen
    (live_as c.args.fst.now seen c.args.self.now c.as_slice-2.result.now
    (c.as_slice-2.ensures.value ∙ c.self.view_is) are).rows_are

pub returns-in-None : goal.returns-in-None
returns-in-None c = IfOk-weaker c.words-in-None.result _ _
    (λ words h seen are. all_hold c.args.fst.now c.args.case seen words.items (h seen are))
    c.words-in-None.ensures.members
