use Rattle.ap_compound.specs.Works.{compounds_text}
use Rattle.ap_live.specs.Lexicon.{lexicon_of}
use Rattle.ap_command.specs.declared.words.Mode.TheVariants.{A}
use Rattle.ap_command.specs.Rows.{Explains}
use Rattle.ap_command.specs.Words.{way_of}
use Rattle.ap_command.proofs.Flowing.{is-lexicon, stage-by}
use Rattle.ap_command.proofs.stages.compounds_stage.Goals as goal

pub returns-clause-stage : goal.returns-clause-stage
returns-clause-stage c = λ said kept.
    let sensitive = c.args.sensitive in
    let lexicon = lexicon_of c.args.compiled.now sensitive in
    let readable = c.words_are_readable.ensures sensitive in
    stage-by (Explains said sensitive) _ (compounds_text lexicon sensitive)
    c.in_ok-stage.ensures.rest (λ n e. (
      lexicon,
      is-lexicon c.dictionary_has_its_lexicon.ensures (way_of A) said c.args.compiled.now sensitive
          kept (c.compiled_has_a_lexicon.ensures sensitive),
      e,
    ))
    (λ text none. c.compound_keeps_superblanks.ensures lexicon sensitive text readable none)
    (c.compound_is_read.ensures lexicon sensitive readable)
