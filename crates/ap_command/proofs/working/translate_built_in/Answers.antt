use Rattle.std.proofs.Common.{◌≡◌, ap, ◌∙◌, subst, refl, inl, inr, length}
use Rattle.ap_command.specs.Words.{texts, files_of}
use Rattle.ap_command.specs.Working.{built_in, run_words, work_run}
use Rattle.ap_command.specs.Answer.{Reaches, IsRefusal, AreOpened}
use Rattle.ap_command.proofs.working.translate_built_in.Goals as goal

pub returns-in-Err-clause-answer : goal.returns-in-Err-clause-answer
returns-in-Err-clause-answer g c = inl (record {
  refused = subst (λ ws. Reaches ws built_in (files_of work_run)
      (λ r. IsRefusal ws built_in built_in c.in-Err.status r))
      (ap texts c.as_slice.ensures.value ∙ c.in-Ok.ensures)
      (subst (λ rs. Reaches (texts c.as_slice.result.now) built_in rs
      (λ r. IsRefusal (texts c.as_slice.result.now) built_in built_in c.in-Err.status r))
      (c.as_slice-2.ensures.value ∙ c.in-Ok-files_of.ensures) c.in-Err.ensures.refused);
  untouched = record { source = refl; sink = refl; contents = refl };
})

pub returns-clause-answer : goal.returns-clause-answer
returns-clause-answer g c =
    let o : AreOpened run_words built_in (files_of work_run) c.in-Ok-open_all.kept.items =
    subst (λ ws. AreOpened ws built_in (files_of work_run) c.in-Ok-open_all.kept.items)
    (ap texts c.as_slice.ensures.value ∙ c.in-Ok.ensures)
    (subst (λ rs. AreOpened (texts c.as_slice.result.now) built_in rs c.in-Ok-open_all.kept.items)
    (c.as_slice-2.ensures.value ∙ c.in-Ok-files_of.ensures) c.in-Ok-open_all.ensures.opened) in
    inr (inl (record {
      said = o.said;
      opened = o.opened;
      same = refl;
      flows = c.translate.ensures.flows 1 o.said o.kept_as;
    }))
