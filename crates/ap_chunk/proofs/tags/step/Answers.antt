use Rattle.std.proofs.Common.{◌∙◌, ap, sym}
use Rattle.ap_chunk.specs.Tried.{meeting_of}
use Rattle.ap_chunk.proofs.Trying.{many_on, fits_on, fails_on}
use Rattle.ap_chunk.proofs.tags.step.Goals as goal

pub returns-in-Many : goal.returns-in-Many
returns-in-Many c =
    many_on c.args.parts.now c.args.tags.now c.args.trial c.index-tags-trial.result
    c.requires.within c.index-tags-trial.is c.requires.tried
    (ap (λ o. meeting_of o c.index-tags-trial.result) (sym c.part_at.ensures.value)
    ∙ sym c.compare.ensures ∙ c.in-Many.is)

pub returns-in-Fits : goal.returns-in-Fits
returns-in-Fits c =
    fits_on c.args.parts.now c.args.tags.now c.args.trial c.index-tags-trial.result
    c.requires.within c.index-tags-trial.is c.requires.tried
    (ap (λ o. meeting_of o c.index-tags-trial.result) (sym c.part_at.ensures.value)
    ∙ sym c.compare.ensures ∙ c.in-Fits.is)

pub go_back-requires : goal.go_back-requires
go_back-requires c = record {
  tried = c.requires.tried;
  within = c.requires.within;
  fails = fails_on c.args.parts.now c.args.tags.now c.args.trial c.index-tags-trial.result
      c.requires.within c.index-tags-trial.is
      (ap (λ o. meeting_of o c.index-tags-trial.result) (sym c.part_at.ensures.value)
      ∙ sym c.compare.ensures ∙ c.in-Fails.is);
}
