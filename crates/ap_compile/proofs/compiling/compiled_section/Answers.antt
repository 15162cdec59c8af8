use Rattle.ap_compile.proofs.Sectioning.{section_is}
use Rattle.ap_compile.proofs.compiling.compiled_section.Goals as goal

pub returns-clause-section : goal.returns-clause-section
returns-clause-section c =
    section_is c.empty_cycle_law.ensures.runs c.args.dictionary.now c.args.direction c.args.kind
    c.in_ok-fst.fst c.requires.sound c.states-states.ensures.sound
    c.in_ok-fst.ensures.canonical.trimmed c.in_ok-fst.ensures.strings c.in_ok-fst.ensures.plain
    c.requires.none
