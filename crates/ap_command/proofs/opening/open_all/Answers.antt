use Rattle.std.proofs.Common.{length, sym, ◌∙◌, ◌+◌, refl, subst, inr, take}
use Rattle.std.specs.List.{slice_index_or}
use Rattle.ap_command.specs.declared.reading.Reading.{Reading}
use Rattle.ap_command.specs.declared.reading.Manner.TheVariants.{Plain}
use Rattle.ap_command.specs.declared.status.Status.TheVariants.{Memory}
use Rattle.ap_command.specs.Words.{texts}
use Rattle.ap_command.specs.Outside.{files_stand}
use Rattle.ap_command.specs.Answer.{AreOpened, IsRefusal}
use Rattle.std.specs.Result.{is_ok}
use Rattle.ap_command.proofs.Opened.{within-at, reaches-at, opened-next, when-true}
use Rattle.ap_command.proofs.opening.open_all.Goals as goal

abbrev unread : Reading
unread = record { place = 0; manner = Plain }

pub open-requires : goal.open-requires
open-requires g c = within-at (length c.args.words.now) c.args.readings.now
    c.loop-reading.reading-index unread c.loop-reading-test.true c.requires

pub returns-in-Err-clause-refused : goal.returns-in-Err-clause-refused
returns-in-Err-clause-refused g c =
    reaches-at (texts c.args.words.now) (files_stand g.F.Files c.args.files.now) c.args.readings.now
    c.loop-reading.reading-index unread c.loop-reading.contents.items
    (λ r. IsRefusal (texts c.args.words.now) (files_stand g.F.Files c.args.files.now)
    (files_stand g.F.Files c.open.new.files) c.in-Err.status r) c.loop-reading-test.true
    c.loop-reading.invariant.opened
    (subst (λ f. IsRefusal (texts c.args.words.now) f (files_stand g.F.Files c.open.new.files)
    c.in-Err.status (slice_index_or c.args.readings.now c.loop-reading.reading-index unread))
    c.loop-reading.invariant.calm c.in-Err.ensures.refused)

pub returns-then-is_err-clause-refused : goal.returns-then-is_err-clause-refused
returns-then-is_err-clause-refused g c =
    reaches-at (texts c.args.words.now) (files_stand g.F.Files c.args.files.now) c.args.readings.now
    c.loop-reading.reading-index unread c.loop-reading.contents.items
    (λ r. IsRefusal (texts c.args.words.now) (files_stand g.F.Files c.args.files.now)
    (files_stand g.F.Files c.open.new.files) Memory r) c.loop-reading-test.true
    c.loop-reading.invariant.opened
    (inr (c.in-Ok.ensures.calm ∙ c.loop-reading.invariant.calm, inr refl))

pub loop-reading-preserved : goal.loop-reading-preserved
loop-reading-preserved g c = record {
  opened = subst (λ ks. AreOpened (texts c.args.words.now) (files_stand g.F.Files c.args.files.now)
      (take (c.loop-reading.reading-index + 1) c.args.readings.now) ks)
      (sym (when-true (is_ok c.push.result) _ _ _ c.if-is_err.ensures.negation
      c.push.ensures.items))
      (opened-next (texts c.args.words.now) (files_stand g.F.Files c.args.files.now)
      (files_stand g.F.Files c.loop-reading.files) c.args.readings.now
      c.loop-reading.reading-index unread c.loop-reading.contents.items c.in-Ok.content
      c.loop-reading-test.true c.loop-reading.invariant.calm c.loop-reading.invariant.opened
      c.in-Ok.ensures.opened);
  calm = c.in-Ok.ensures.calm ∙ c.loop-reading.invariant.calm;
}
