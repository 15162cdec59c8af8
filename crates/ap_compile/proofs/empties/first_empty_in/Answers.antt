use Rattle.std.proofs.Common.{List, sym, subst}
use Rattle.ap_dix.specs.declared.dictionary.Entry.{Entry}
use Rattle.ap_compile.specs.Empties.{HasEmptyEntry, IsFirstEmpty}
use Rattle.ap_compile.proofs.Silences.{no_section_more, first_section}
use Rattle.ap_compile.proofs.empties.first_empty_in.Goals as goal

pub returns-in-Some : goal.returns-in-Some
returns-in-Some c = λ d are. first_section d c.args.direction c.args.sections.now
    c.section-item.result c.section-item.result c.loop-section.section-index c.in-Some.line
    c.loop-section-test.true c.section-item.is
    (c.loop-section.invariant d are)
    (subst (λ (xs : List Entry). IsFirstEmpty d c.args.direction xs c.in-Some.line)
    c.as_slice.ensures (c.in-Some.ensures d are))

pub loop-section-preserved : goal.loop-section-preserved
loop-section-preserved c =
    λ d are. no_section_more d c.args.direction c.args.sections.now c.section-item.result
    c.section-item.result c.loop-section.section-index c.loop-section-test.true c.section-item.is
    (c.loop-section.invariant d are)
    (λ h. c.in_default.ensures d are
    (subst (λ (xs : List Entry). HasEmptyEntry d c.args.direction xs)
    (sym c.as_slice.ensures) h))
