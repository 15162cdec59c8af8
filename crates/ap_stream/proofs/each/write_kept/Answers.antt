use Rattle.std.proofs.Common.{ap, sym, ◌∙◌, ◌≡◌, List, ℕ, ◌++◌}
use Rattle.ap_stream.proofs.UnitWords.{words_are}
use Rattle.ap_stream.proofs.each.write_kept.Goals as goal

pub returns-in_ok-extend-in-Some-clause-text : goal.returns-in_ok-extend-in-Some-clause-text
returns-in_ok-extend-in-Some-clause-text g c = λ _.
    let given = g.W.UnitWriter.given c.args.writer.now in
    let key = c.args.key.now in
    let is = c.in-Some.ensures c.args.dialect given c.requires.kept in
    let same : is.words ≡ c.args.unit.now =
    sym (words_are c.args.dialect key is.words is.unit)
    ∙ words_are c.args.dialect key c.args.unit.now c.requires.unit in
    c.in_ok-extend-in-Some.ensures.ok
    ∙ ap (λ (q : List ℕ). c.args.into.now ++ q) (is.is ∙ ap given same)
