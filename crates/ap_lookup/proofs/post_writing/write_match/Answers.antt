use Rattle.std.proofs.Common.{List, ap, length, ◌∙◌}
use Rattle.std.proofs.lemmas.Result.{IfOk-weaker}
use Rattle.ap_symbol.specs.declared.symbol.Symbol.{Symbol}
use Rattle.ap_live.specs.Lexicon.{lexicon_of}
use Rattle.ap_live.specs.Readings.{carried_words}
use Rattle.ap_lookup.specs.PostGenerating.{blanks, least, word_step}
use Rattle.ap_lookup.proofs.PostWritings.{least_same}
use Rattle.ap_lookup.proofs.post_writing.write_match.Goals as goal

pub returns : goal.returns
returns c = IfOk-weaker c.write_least.result _ _ (λ made e. e
    ∙ ap (λ (z : List Symbol). word_step (length c.args.reads.now) z (blanks c.args.reads.now))
    (ap least c.as_slice.ensures
    ∙ least_same c.in_ok-words.words
    (carried_words (lexicon_of c.args.compiled.now c.args.sensitive) c.args.sensitive
    c.args.seen.now c.args.seen.now)
    (c.in_ok-words.ensures c.args.seen.now c.requires.lives))) c.write_least.ensures
