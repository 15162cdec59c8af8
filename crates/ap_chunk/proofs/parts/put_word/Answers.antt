use Rattle.std.proofs.Common.{◌∙◌}
use Rattle.ap_chunk.proofs.UnitWords.{word_there, word_nowhere}
use Rattle.ap_chunk.proofs.parts.put_word.Goals as goal

pub returns-then-not-found : goal.returns-then-not-found
returns-then-not-found c = c.clear.ensures
    ∙ word_nowhere c.args.unit.now c.args.at c.in_ok-found.found c.word_at.new.into
    c.if-not-found.true c.in_ok-found.ensures

pub returns-else-not-found : goal.returns-else-not-found
returns-else-not-found c = word_there c.args.unit.now c.args.at c.in_ok-found.found
    c.word_at.new.into c.if-not-found.false c.in_ok-found.ensures
