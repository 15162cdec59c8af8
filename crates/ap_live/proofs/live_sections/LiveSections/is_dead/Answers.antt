use Rattle.std.proofs.Common.{◌∙◌, false, refl, sym}
use Rattle.ap_fst.specs.declared.compiled.Kind2.TheVariants.{Standard, Inconditional, Postblank, Preblank}
use Rattle.ap_live.specs.Lexicon.{inputs_of}
use Rattle.ap_live.proofs.Coherence.{section_is}
use Rattle.ap_live.proofs.SectionLives.{dead_all}
use Rattle.ap_live.proofs.live_sections.LiveSections.is_dead.Goals as goal

pub returns-then-not-standard : goal.returns-then-not-standard
returns-then-not-standard c = λ sensitive symbols live.
    let p = c.args.compiled.now in
    dead_all _ _ _ _ false _ _ _
    (sym c.if-not-standard.true
    ∙ c.is_dead-standard.ensures p.standard (inputs_of sensitive symbols)
    (section_is p Standard c.alphabet.ensures.sound) live.standard_is) refl refl refl

pub returns : goal.returns
returns c = λ sensitive symbols live.
    let p = c.args.compiled.now in
    c.are_all.ensures ∙ dead_all _ _ _ _ _ _ _ _
    (c.is_dead-standard.ensures p.standard (inputs_of sensitive symbols)
    (section_is p Standard c.alphabet.ensures.sound) live.standard_is)
    (c.is_dead-inconditional.ensures p.inconditional (inputs_of sensitive symbols)
    (section_is p Inconditional c.alphabet.ensures.sound) live.inconditional_is)
    (c.is_dead-postblank.ensures p.postblank (inputs_of sensitive symbols)
    (section_is p Postblank c.alphabet.ensures.sound) live.postblank_is)
    (c.is_dead-preblank.ensures p.preblank (inputs_of sensitive symbols)
    (section_is p Preblank c.alphabet.ensures.sound) live.preblank_is)
