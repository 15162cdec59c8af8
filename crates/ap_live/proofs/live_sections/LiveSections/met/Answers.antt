use Rattle.ap_live.specs.Lexicon.{inputs_of}
use Rattle.ap_live.specs.declared.met.Met.{Met}
use Rattle.ap_live.proofs.Alike.{met_all}
use Rattle.ap_live.proofs.live_sections.LiveSections.met.Goals as goal

pub returns : goal.returns
returns c = λ p sensitive symbols live.
    let seen = inputs_of sensitive symbols in
    let met : Met =
    record {
      standard = c.in_ok-standard.standard;
      inconditional = c.in_ok-inconditional.inconditional;
      postblank = c.in_ok-postblank.postblank;
      preblank = c.in_ok-preblank.preblank;
    } in
    met_all p sensitive symbols met (c.in_ok-standard.ensures p.standard seen live.standard_is)
    (c.in_ok-inconditional.ensures p.inconditional seen live.inconditional_is)
    (c.in_ok-postblank.ensures p.postblank seen live.postblank_is)
    (c.in_ok-preblank.ensures p.preblank seen live.preblank_is)
