use Rattle.std.proofs.lemmas.Result.{IfOk-weaker}
use Rattle.ap_live.specs.Lexicon.{inputs_of}
use Rattle.ap_live.proofs.SectionLives.{no_cycle, writes, readings_found}
use Rattle.ap_live.proofs.live_sections.LiveSections.readings.Goals as goal

pub readings-requires-clause-no_cycle : goal.readings-requires-clause-no_cycle
readings-requires-clause-no_cycle c =
    no_cycle c.args.compiled.now c.args.kind c.section-2.result.now c.section-2.ensures.value
    c.section-2.ensures.sound

pub readings-requires-clause-writes : goal.readings-requires-clause-writes
readings-requires-clause-writes c =
    writes c.args.compiled.now c.args.kind c.section-2.result.now c.section-2.ensures.value
    c.section-2.ensures.sound

pub returns : goal.returns
returns c = IfOk-weaker c.readings.result _ _ (λ words found sensitive symbols live.
    readings_found c.args.compiled.now c.args.kind c.section-2.result.now c.section-2.ensures.value
    c.section-2.ensures.sound
    (inputs_of sensitive symbols) c.section.result.now words
    (c.section.ensures c.args.compiled.now sensitive symbols live) found) c.readings.ensures
