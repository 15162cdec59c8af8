use Rattle.std.proofs.Common.{sym, ap, ◌∙◌}
use Rattle.ap_exec.specs.Comparing.{same_words}
use Rattle.ap_exec.proofs.SameLetters.{other_lengths, passed_over}
use Rattle.ap_exec.proofs.comparing.is_some_item.Goals as goal
use Rattle.ap_exec.proofs.comparing.is_some_item.Goals.{else-len-via-then-len+else-same_each, else-len-via-else-len}

pub loop-item-preserved : goal.loop-item-preserved
loop-item-preserved c =
    let item = c.item-item.result in
    passed_over c.args.caseless c.args.word.now c.args.items.now c.loop-item.item-index item
    c.loop-item-test.true c.item-item.is
    (elim c.else-len.branch [
      | else-len-via-then-len+else-same_each w ↦
          ap (same_words c.args.caseless c.args.word.now) (sym w.symbols.ensures.symbols)
          ∙ sym w.same_each.ensures ∙ w.if-same_each.false
      | else-len-via-else-len w ↦ other_lengths c.args.caseless c.args.word.now item.v
          (λ e. w.if-len.false (c.len.ensures ∙ sym e))
    ]) c.loop-item.invariant
