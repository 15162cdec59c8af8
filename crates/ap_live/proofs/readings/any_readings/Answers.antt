use Rattle.std.proofs.Common.{ap, ◌∙◌}
use Rattle.ap_symbol.specs.Recasing.{carry_lem}
use Rattle.ap_live.specs.Found.{in_order}
use Rattle.ap_live.specs.Lexicon.{lexicon_of}
use Rattle.ap_live.specs.Readings.{carried, any_words}
use Rattle.ap_live.proofs.AnyWords.{any_proper, carried_proper}
use Rattle.ap_live.proofs.Ordered.{mapped_same}
use Rattle.ap_live.proofs.readings.any_readings.Goals as goal

pub sort_words-requires : goal.sort_words-requires
sort_words-requires c =
    let p = c.args.compiled.now in
    let s = c.args.sensitive in
    let words = any_words (lexicon_of p s) c.requires.0 in
    carried_proper c.case_keeps_words.ensures.proper s c.args.seen.now words
    c.in_ok-words.words.items
    (c.in_ok-words.ensures s c.requires.0 c.requires.1
    ∙ mapped_same (carry_lem c.case_carried-case.result) (carried s c.args.seen.now) words
    c.case_carried-case.ensures)
    (λ v i. any_proper p s c.requires.0 v c.alphabet.ensures.sound i)

pub returns : goal.returns
returns c = λ symbols live.
    let p = c.args.compiled.now in
    let s = c.args.sensitive in
    let words = any_words (lexicon_of p s) symbols in
    c.from_vec.ensures ∙ c.sort_words.ensures.is
    ∙ ap in_order (c.in_ok-words.ensures s symbols live
    ∙ mapped_same (carry_lem c.case_carried-case.result) (carried s c.args.seen.now) words
    c.case_carried-case.ensures)
