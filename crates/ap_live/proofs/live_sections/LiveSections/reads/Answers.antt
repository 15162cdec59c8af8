use Rattle.ap_live.specs.Lexicon.{inputs_of}
use Rattle.ap_live.proofs.SectionLives.{reads_found}
use Rattle.ap_live.proofs.live_sections.LiveSections.reads.Goals as goal

pub returns : goal.returns
returns c = λ sensitive symbols live. reads_found c.args.compiled.now c.args.kind
    c.section-2.result.now c.section-2.ensures.value c.section-2.ensures.sound
    (inputs_of sensitive symbols) c.section.result.now c.reads.result
    (c.section.ensures c.args.compiled.now sensitive symbols live) c.reads.ensures
