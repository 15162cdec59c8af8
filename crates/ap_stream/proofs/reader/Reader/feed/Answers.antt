use Rattle.std.proofs.Common.{arith, ◌∙◌, refl, ◌+◌}
use Rattle.std.proofs.lemmas.Grind.{common_steps}
use Rattle.ap_stream.proofs.GivenLaws as given
use Rattle.ap_stream.proofs.reader.Reader.feed.Goals as goal

pub returns-in-Ok-Some-step-clause-given : goal.returns-in-Ok-Some-step-clause-given
returns-in-Ok-Some-step-clause-given c =
    given.feeds_from _ c.advance.new.self _ _ _ (c.advance.ensures.dialect
    ∙ c.loop-used.invariant.dialect) (c.advance.ensures.place ∙ c.loop-used.invariant.place)
    (given.fed_more _ _ _ _ _ _ c.loop-used.invariant.held c.in-Ok.ensures.ok.0)
    (rw c.in-Ok-Some-step.field-0-is at c.in-Ok-Some-step.ensures.given)

pub loop-used-preserved : goal.loop-used-preserved
loop-used-preserved c =
    let more = given.fed_more _ _ _ _ _ _ c.loop-used.invariant.held c.in-Ok.ensures.ok.0 in
    let e = rw c.in-Ok-None-step.field-0-is at c.in-Ok-None-step.ensures in
    let h = e.held refl in
    record {
      fits = grind (arith, common_steps);
      going = e.going;
      looked = e.looked refl;
      dialect = e.dialect ∙ c.advance.ensures.dialect ∙ c.loop-used.invariant.dialect;
      begun = h.2;
      place = h.1 ∙ c.advance.ensures.place ∙ c.loop-used.invariant.place;
      holds = e.holds;
      held = h.0 ∙ more;
    }

pub returns-in-Err-step-clause-shown : goal.returns-in-Err-step-clause-shown
returns-in-Err-step-clause-shown c = λ _ other.
    let h = c.in-Err-step.ensures.shown other in
    record {
      used = c.loop-used.used + c.in-Ok.count;
      within = grind (arith, common_steps);
      dialect = c.step-in-loop-used.ensures.dialect ∙ c.advance.ensures.dialect
          ∙ c.loop-used.invariant.dialect;
      held = h.0 ∙ given.fed_more _ _ _ _ _ _ c.loop-used.invariant.held c.in-Ok.ensures.ok.0;
      place = h.1 ∙ c.advance.ensures.place ∙ c.loop-used.invariant.place;
      stops = h.2;
      seen = h.3;
      needed = h.4;
    }
