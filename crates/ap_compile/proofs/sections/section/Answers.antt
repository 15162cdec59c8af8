use Rattle.ap_compile.proofs.Telling.{section_strings}
use Rattle.ap_compile.proofs.sections.section.Goals as goal

pub returns-clause-strings : goal.returns-clause-strings
returns-clause-strings c =
    section_strings c.args.dictionary.now c.args.direction c.args.kind c.as_slice.result.now
    c.in_ok-draft.draft c.in_ok-fst.fst c.as_slice.ensures
    (c.in_ok-draft.ensures c.args.dictionary.now c.requires.drafts) c.in_ok-fst.ensures.same

pub returns-clause-plain : goal.returns-clause-plain
returns-clause-plain c =
    λ w a. (c.in_ok-draft.ensures c.args.dictionary.now c.requires.drafts).plain w
    ((c.in_ok-fst.ensures.same w).0 a)
