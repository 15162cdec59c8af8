use Rattle.std.proofs.lemmas.Result.{IfOk-weaker}
use Rattle.ap_live.specs.Lexicon.{inputs_of}
use Rattle.ap_live.proofs.SectionLives.{some_found, writes}
use Rattle.ap_live.proofs.live_sections.LiveSections.some_readings.Goals as goal

pub some_readings-requires : goal.some_readings-requires
some_readings-requires c =
    writes c.args.compiled.now c.args.kind c.section-2.result.now c.section-2.ensures.value
    c.section-2.ensures.sound

pub returns : goal.returns
returns c = IfOk-weaker c.some_readings.result _ _ (λ words found sensitive symbols live.
    some_found c.args.compiled.now c.args.kind c.section-2.result.now c.section-2.ensures.value
    c.section-2.ensures.sound c.one_rendering.ensures
    (inputs_of sensitive symbols) c.section.result.now words.items
    (c.section.ensures c.args.compiled.now sensitive symbols live) found) c.some_readings.ensures
