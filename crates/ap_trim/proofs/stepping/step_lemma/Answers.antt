use Rattle.std.proofs.Common.{sym, ◌∙◌}
use Rattle.std.proofs.lemmas.Bool.{true≢false}
use Rattle.ap_trim.proofs.Steps.{lemma_on, lemma_kept, lemma_behind}
use Rattle.ap_trim.proofs.stepping.step_lemma.Goals as goal

pub returns-then-not-is_tag-clause-goes : goal.returns-then-not-is_tag-clause-goes
returns-then-not-is_tag-clause-goes c = lemma_on c.args.fst.now c.args.symbol.now c.args.sets.now
    c.next_set.new.sets c.args.number c.in_ok-next.next c.in_ok-next.ensures
    (sym c.is_tag.ensures ∙ c.if-not-is_tag.true) c.requires.unjoined

pub returns-then-holds_final-clause-goes : goal.returns-then-holds_final-clause-goes
returns-then-holds_final-clause-goes c = lemma_kept c.args.fst.now c.args.symbol.now c.args.sets.now
    c.args.number c.get.result.now c.get.ensures (c.holds_final.ensures.0 c.if-holds_final.true)
    (sym c.is_tag.ensures ∙ c.if-not-is_tag.false)

pub returns-clause-goes : goal.returns-clause-goes
returns-clause-goes c = lemma_behind c.args.fst.now c.args.symbol.now c.args.sets.now
    c.step_behind.new.sets c.args.number c.in_ok-watch.watch c.get.result.now c.get.ensures
    c.in_ok-watch.ensures.keeps (λ f. true≢false (sym (c.holds_final.ensures.1 f) ∙
    c.if-holds_final.false))
    (sym c.is_tag.ensures ∙ c.if-not-is_tag.false) c.requires.unjoined c.in_ok-watch.ensures.goes
