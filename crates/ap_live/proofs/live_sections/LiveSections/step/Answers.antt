use Rattle.ap_live.proofs.SectionLives.{all_stepped, live_stepped, live_back}
use Rattle.ap_live.proofs.live_sections.LiveSections.step.Goals as goal

pub returns-then-are_all-clause-ok : goal.returns-then-are_all-clause-ok
returns-then-are_all-clause-ok c =
    let all = all_stepped _ _ _ _ c.are_all.result c.if-are_all.true c.are_all.ensures in
    λ symbols live. record {
      standard_is = live_stepped c.args.compiled.now.standard _ c.args.sensitive symbols
          c.args.input.now _ _ c.section.ensures.value (c.step-standard.ensures.stepped all.0)
          live.standard_is;
      inconditional_is = live_stepped c.args.compiled.now.inconditional _ c.args.sensitive symbols
          c.args.input.now _ _ c.section-2.ensures.value
          (c.step_if_held-inconditional.ensures.stepped all.1) live.inconditional_is;
      postblank_is = live_stepped c.args.compiled.now.postblank _ c.args.sensitive symbols
          c.args.input.now _ _ c.section-3.ensures.value (c.step_if_held-postblank.ensures.stepped all.2)
          live.postblank_is;
      preblank_is = live_stepped c.args.compiled.now.preblank _ c.args.sensitive symbols
          c.args.input.now _ _ c.section-4.ensures.value (c.step_if_held-preblank.ensures.stepped all.3)
          live.preblank_is;
    }

pub returns-clause-err : goal.returns-clause-err
returns-clause-err c = λ symbols live. record {
  standard_is = live_back c.args.compiled.now.standard _ c.args.sensitive _ symbols c.args.input.now
      _ _ _ c.section.ensures.value c.step-standard.ensures.stepped c.step-standard.ensures.stayed
      c.take_back.ensures.back c.take_back.ensures.stayed live.standard_is;
  inconditional_is = live_back c.args.compiled.now.inconditional _ c.args.sensitive _ symbols
      c.args.input.now _ _ _ c.section-2.ensures.value c.step_if_held-inconditional.ensures.stepped
      c.step_if_held-inconditional.ensures.stayed c.take_back-2.ensures.back c.take_back-2.ensures.stayed
      live.inconditional_is;
  postblank_is = live_back c.args.compiled.now.postblank _ c.args.sensitive _ symbols
      c.args.input.now _ _ _ c.section-3.ensures.value c.step_if_held-postblank.ensures.stepped
      c.step_if_held-postblank.ensures.stayed c.take_back-3.ensures.back c.take_back-3.ensures.stayed
      live.postblank_is;
  preblank_is = live_back c.args.compiled.now.preblank _ c.args.sensitive _ symbols c.args.input.now
      _ _ _ c.section-4.ensures.value c.step_if_held-preblank.ensures.stepped c.step_if_held-preblank.ensures.stayed
      c.take_back-4.ensures.back c.take_back-4.ensures.stayed live.preblank_is;
}
