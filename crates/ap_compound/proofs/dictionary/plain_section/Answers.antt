use Rattle.ap_compound.proofs.Plains.{plain_by, section_plain}
use Rattle.ap_compound.proofs.dictionary.plain_section.Goals as goal

pub returns-clause-plain : goal.returns-clause-plain
returns-clause-plain c = plain_by c.args.section.now c.in_ok-fst.fst c.args.tag.now
    c.in_ok-draft.draft c.in_ok-loose.loose c.in_ok-made.made c.in_ok-fst.ensures c.requires
    c.in_ok-draft.ensures c.in_ok-loose.ensures c.in_ok-made.ensures.same

pub returns-clause-section : goal.returns-clause-section
returns-clause-section c = λ sec. section_plain c.args.section.now c.in_ok-made.made
    (plain_by c.args.section.now c.in_ok-fst.fst c.args.tag.now
    c.in_ok-draft.draft c.in_ok-loose.loose c.in_ok-made.made c.in_ok-fst.ensures c.requires
    c.in_ok-draft.ensures c.in_ok-loose.ensures c.in_ok-made.ensures.same) sec
    c.states.ensures.sound c.in_ok-made.ensures.trimmed
