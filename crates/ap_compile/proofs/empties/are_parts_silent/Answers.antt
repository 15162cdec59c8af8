use Rattle.std.proofs.Common.{sym, ◌∙◌}
use Rattle.ap_compile.proofs.Silences.{silent_none, silent_more, loud_part}
use Rattle.ap_compile.proofs.empties.are_parts_silent.Goals as goal

pub loop-part-init : goal.loop-part-init
loop-part-init c = λ d are. silent_none d c.args.direction

pub returns-then-not-is_part_silent : goal.returns-then-not-is_part_silent
returns-then-not-is_part_silent c = λ d are. (
  (λ t. cc),
  (λ s. sym c.if-not-is_part_silent.true
      ∙ (c.is_part_silent.ensures d are).1
      (loud_part d c.args.direction c.args.parts.now c.part-item.result c.part-item.result
      c.loop-part.part-index c.loop-part-test.true c.part-item.is s)),
)

pub loop-part-preserved : goal.loop-part-preserved
loop-part-preserved c = λ d are. silent_more d c.args.direction c.args.parts.now c.part-item.result
    c.part-item.result c.loop-part.part-index c.loop-part-test.true c.part-item.is
    (c.loop-part.invariant d are) ((c.is_part_silent.ensures d are).0 c.if-not-is_part_silent.false)
