use Rattle.std.proofs.Common.{◌≡◌, ◌∙◌, ap, sym, true, Ok}
use Rattle.ap_live.specs.Lexicon.{lexicon_of}
use Rattle.ap_lookup.specs.PostGenerating.{begins_alarm}
use Rattle.ap_lookup.specs.PostWorks.{Posting}
use Rattle.ap_lookup.proofs.PostSteps.{step_alarm}
use Rattle.ap_lookup.proofs.PostTurns.{span_all, span_found, settled_found, found_in}
use Rattle.ap_lookup.proofs.post_generation_work.PostGenerationWork.search.Goals as goal
use Rattle.ap_lookup.proofs.post_generation_work.PostGenerationWork.search.Goals.{After-as_slice-reads}

alarm : (c : After-as_slice-reads) → begins_alarm c.self.inside.items ≡ true
alarm c = ap (λ (h : Posting). begins_alarm h.items) c.self.view_is ∙ c.requires

pub alarm_step-requires-clause-span : goal.alarm_step-requires-clause-span
alarm_step-requires-clause-span c =
    let at = (goal.at.alarm_step-requires-clause-span c).After-as_slice-reads in
    let lexicon = lexicon_of c.self.inside.compiled c.self.inside.sensitive in
    span_found lexicon c.self.inside.items c.as_slice-reads.result.now c.as_slice-reads.ensures
    (alarm at) c.self.inside.finished c.in-Some.found
    (found_in lexicon c.as_slice-reads.result.now c.self.inside.finished c.in_ok-look.field-0
    c.in-Some.found c.in-Some.is c.in_ok-look.ensures.found)

pub returns-in-None-clause-waits : goal.returns-in-None-clause-waits
returns-in-None-clause-waits c = λ _.
    let at = (goal.at.returns-in-None-clause-waits c).After-as_slice-reads in
    let lexicon = lexicon_of c.self.inside.compiled c.self.inside.sensitive in
    let waits = c.in_ok-look.ensures.waits (ap Ok c.in-None.is) in
    rw (← c.self.view_is) (
      waits.0,
      span_all lexicon c.self.inside.items c.as_slice-reads.result.now c.as_slice-reads.ensures
          (alarm at) waits.1,
    )

pub returns-in_ok-made-in-Some-clause-step : goal.returns-in_ok-made-in-Some-clause-step
returns-in_ok-made-in-Some-clause-step c =
    let at = (goal.at.returns-in_ok-made-in-Some-clause-step c).After-as_slice-reads in
    let lexicon = lexicon_of c.self.inside.compiled c.self.inside.sensitive in
    let found = found_in lexicon c.as_slice-reads.result.now c.self.inside.finished
    c.in_ok-look.field-0 c.in-Some.found c.in-Some.is c.in_ok-look.ensures.found in
    rw (← c.self.view_is) (
      c.in_ok-made-in-Some.ensures
          ∙ sym (step_alarm lexicon c.self.inside.sensitive c.self.inside.items (alarm at)),
      settled_found lexicon c.self.inside.items c.as_slice-reads.result.now
          c.as_slice-reads.ensures (alarm at) c.self.inside.finished c.in-Some.found found,
    )
