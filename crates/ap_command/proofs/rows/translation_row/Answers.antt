use Rattle.std.proofs.Common.{sym, ◌∙◌, subst}
use Rattle.ap_rules.specs.Views.{plain_rules}
use Rattle.ap_command.specs.Rows.{translation}
use Rattle.ap_command.specs.Stream.{AreStages}
use Rattle.ap_command.proofs.Seven.{translation-row}
use Rattle.ap_command.proofs.rows.translation_row.Goals as goal

pub returns-clause-row : goal.returns-clause-row
returns-clause-row c = λ mono bi gen post m b g p.
    translation-row mono bi c.args.files.transfer c.args.files.interchunk c.args.files.postchunk
    gen post c.of.result c.requires.chunks
    (subst (AreStages (translation mono bi (plain_rules c.args.files.transfer)
    (plain_rules c.args.files.interchunk) (plain_rules c.args.files.postchunk) gen post))
    (sym (c.of.ensures ∙ c.in_ok-stages.ensures.items)) (
      c.in_ok-analysis.ensures.stage mono m,
      (
        c.first_stage.ensures.stage,
        (
          c.pretransfer_stage.ensures.stage,
          (
            c.in_ok-lookup.ensures.stage bi b,
            (
              c.in_ok-transfer.ensures.stage,
              (
                c.in_ok-interchunk.ensures.stage,
                (
                  c.in_ok-postchunk.ensures.stage,
                  (
                    c.in_ok-generation.ensures.stage gen g,
                    (c.in_ok-post_generation.ensures.stage post p, tt),
                  ),
                ),
              ),
            ),
          ),
        ),
      ),
    ))
