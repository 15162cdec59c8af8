use Rattle.std.proofs.Common.{◌+◌, ◌≤◌, true, length, arith, ap, subst, ◌∙◌}
use Rattle.ap_rules.specs.declared.value.Side.{Side}
use Rattle.ap_exec.specs.Parts.{cut, word_on}
use Rattle.ap_exec.specs.Ranges.{span}
use Rattle.ap_exec.specs.Writing.{replaced}
use Rattle.ap_exec.proofs.Standing.{source_stays, target_stays}
use Rattle.ap_exec.proofs.writing.stands.Goals as goal

pub returns-in-Source : goal.returns-in-Source
returns-in-Source c = λ same.
    ap (λ (s : Side). replaced s (span c.args.range) c.args.value.now c.args.unit.now)
    c.in-Source.is
    ∙ source_stays (span c.args.range) c.args.value.now c.args.unit.now
    (c.is_part.ensures same ∙ ap (cut (span c.args.range)) c.source.ensures)

pub returns-else-border-range-2 : goal.returns-else-border-range-2
returns-else-border-range-2 c = λ same.
    let ranged : c.args.range.start + c.args.range.count ≤ length c.args.unit.now.target =
    subst (λ (s : Side). c.args.range.start + c.args.range.count
    ≤ length (word_on s true c.args.unit.now)) c.in-Target.is c.requires in
    ap (λ (s : Side). replaced s (span c.args.range) c.args.value.now c.args.unit.now)
    c.in-Target.is
    ∙ target_stays (span c.args.range) c.args.value.now c.args.unit.now
    (c.is_part-in-Target.ensures same ∙ ap (cut (span c.args.range)) c.target.ensures)
    (omega (arith, c.if-border-range.false, c.if-border-range-2.false, c.border-border.ensures.value))
    ranged
