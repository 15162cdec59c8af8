use Rattle.std.proofs.Common.{◌<◌, ◌≤◌, ap, sym, ◌∙◌, length, arith}
use Rattle.std.specs.Prelude.{◌==◌}
use Rattle.std.proofs.lemmas.Bool.Decides.{nat_tests}
use Rattle.ap_live.specs.Found.{has_words}
use Rattle.ap_compound.proofs.Steps.{words_at_read, words_at_past, some_words}
use Rattle.ap_compound.proofs.exploring.has_left.Goals as goal

pub returns-in-None : goal.returns-in-None
returns-in-None c =
    let past : length c.args.lefts.now ≤ c.args.k =
    grind (arith, nat_tests, c.in-None.ensures.lookup.0) in
    ap has_words (sym (words_at_past c.args.lefts.now c.args.k past))

pub returns-in-Some : goal.returns-in-Some
returns-in-Some c =
    let within : c.args.k < length c.args.lefts.now =
    grind (arith, nat_tests, c.in-Some.ensures.lookup.0) in
    some_words c.in-Some.words.now c.is_empty.result
    (c.is_empty.ensures ∙ ap (λ z. length z == 0) c.as_slice.ensures)
    ∙ ap has_words (sym (words_at_read c.args.lefts.now c.args.k c.in-Some.words.now within
    c.in-Some.ensures.lookup.1))
