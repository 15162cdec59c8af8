use Rattle.std.proofs.Common.{subst, sym}
use Rattle.ap_fst.specs.Machines.{Machine}
use Rattle.ap_fst.specs.Sections.{IsSection}
use Rattle.ap_trim.specs.Sections.{IsKeptOf}
use Rattle.ap_trim.proofs.Sectioning.{section_kept, kept_by_same}
use Rattle.ap_trim.proofs.trimming.trimmed_section.Goals as goal

pub returns-clause-kept : goal.returns-clause-kept
returns-clause-kept c = subst (λ (z : Machine). IsKeptOf c.args.section.now c.args.bilingual.now z)
    (sym c.into_fst.ensures.value)
    (kept_by_same c.args.section.now c.args.bilingual.now c.in_ok-one.one c.in_ok-small.small
    c.in_ok-small.ensures.same c.in_ok-one.ensures)

pub returns-clause-section : goal.returns-clause-section
returns-clause-section c = λ sec. subst IsSection (sym c.into_fst.ensures.value)
    (section_kept c.args.section.now c.args.bilingual.now c.in_ok-small.small sec
    (kept_by_same c.args.section.now c.args.bilingual.now c.in_ok-one.one c.in_ok-small.small
    c.in_ok-small.ensures.same c.in_ok-one.ensures) c.in_ok-small.ensures.canonical)
