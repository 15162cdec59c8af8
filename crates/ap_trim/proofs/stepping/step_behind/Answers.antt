use Rattle.std.proofs.Common.{sym, ◌∙◌}
use Rattle.std.proofs.lemmas.Bool.{true≢false}
use Rattle.ap_trim.proofs.Steps.{behind_kept, behind_tags}
use Rattle.ap_trim.proofs.stepping.step_behind.Goals as goal

pub returns-then-holds_final-clause-goes : goal.returns-then-holds_final-clause-goes
returns-then-holds_final-clause-goes c = behind_kept c.args.fst.now c.args.symbol.now
    c.args.sets.now c.next_set.new.sets c.args.number c.in_ok-next.next c.in_ok-next.ensures
    c.get.result.now c.get.ensures (c.holds_final.ensures.0 c.if-holds_final.true)

pub returns-clause-goes : goal.returns-clause-goes
returns-clause-goes c = behind_tags c.args.fst.now c.args.symbol.now c.args.sets.now
    c.next_set.new.sets c.args.number c.in_ok-next.next c.in_ok-next.ensures c.get.result.now
    c.get.ensures (λ f. true≢false (sym (c.holds_final.ensures.1 f) ∙ c.if-holds_final.false))
