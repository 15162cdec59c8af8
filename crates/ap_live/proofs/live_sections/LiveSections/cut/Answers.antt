use Rattle.ap_live.proofs.SectionLives.{live_cut}
use Rattle.ap_live.proofs.live_sections.LiveSections.cut.Goals as goal

pub returns : goal.returns
returns c = λ p sensitive symbols live. record {
  standard_is = live_cut p.standard sensitive c.args.len symbols _ _ c.cut.ensures live.standard_is;
  inconditional_is = live_cut p.inconditional sensitive c.args.len symbols _ _ c.cut-2.ensures
      live.inconditional_is;
  postblank_is = live_cut p.postblank sensitive c.args.len symbols _ _ c.cut-3.ensures
      live.postblank_is;
  preblank_is = live_cut p.preblank sensitive c.args.len symbols _ _ c.cut-4.ensures
      live.preblank_is;
}
