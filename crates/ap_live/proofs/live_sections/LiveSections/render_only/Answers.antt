use Rattle.ap_live.proofs.SectionLives.{no_cycle, writes}
use Rattle.ap_live.proofs.live_sections.LiveSections.render_only.Goals as goal

pub render_only-requires-clause-no_cycle : goal.render_only-requires-clause-no_cycle
render_only-requires-clause-no_cycle c =
    no_cycle c.args.compiled.now c.args.kind c.section-2.result.now c.section-2.ensures.value
    c.section-2.ensures.sound

pub render_only-requires-clause-writes : goal.render_only-requires-clause-writes
render_only-requires-clause-writes c =
    writes c.args.compiled.now c.args.kind c.section-2.result.now c.section-2.ensures.value
    c.section-2.ensures.sound
