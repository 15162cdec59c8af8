use Rattle.std.proofs.Common.{ap, refl, ◌∙◌, List, ℕ, nat_eq, length}
use Rattle.ap_live.proofs.RowLaws.{dead_law, last_read}
use Rattle.ap_live.proofs.held.reaches_none.Goals as goal

pub returns-in-Some : goal.returns-in-Some
returns-in-Some c = λ edges seen live. dead_law edges seen c.in-Some.last.now c.is_empty.result
    (last_read edges seen c.args.rows.now c.args.rows.now c.args.rows.now c.in-Some.last.now live
    refl refl c.in-Some.ensures.value)
    (c.is_empty.ensures ∙ ap (λ (x : List ℕ). nat_eq (length x) 0) c.states.ensures)
