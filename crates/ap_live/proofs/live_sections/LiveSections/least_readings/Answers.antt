use Rattle.std.proofs.lemmas.Result.{IfOk-weaker}
use Rattle.ap_live.specs.Lexicon.{inputs_of}
use Rattle.ap_live.proofs.SectionLives.{no_cycle, writes}
use Rattle.ap_live.proofs.LeastWords.{least_found}
use Rattle.ap_live.proofs.live_sections.LiveSections.least_readings.Goals as goal

pub least_readings-requires-clause-no_cycle : goal.least_readings-requires-clause-no_cycle
least_readings-requires-clause-no_cycle c =
    no_cycle c.args.compiled.now c.args.kind c.section-2.result.now c.section-2.ensures.value
    c.section-2.ensures.sound

pub least_readings-requires-clause-writes : goal.least_readings-requires-clause-writes
least_readings-requires-clause-writes c =
    writes c.args.compiled.now c.args.kind c.section-2.result.now c.section-2.ensures.value
    c.section-2.ensures.sound

pub returns : goal.returns
returns c = IfOk-weaker c.least_readings.result _ _ (λ words holds sensitive symbols live.
    least_found c.args.compiled.now c.args.kind c.section-2.result.now c.section-2.ensures.value
    c.section-2.ensures.sound c.one_rendering.ensures c.args.case
    (inputs_of sensitive symbols) c.section.result.now words.items
    (c.section.ensures c.args.compiled.now sensitive symbols live) holds) c.least_readings.ensures
