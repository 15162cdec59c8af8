use Rattle.ap_compound.proofs.Steps.{proper_more}
use Rattle.ap_compound.proofs.listing.words_are_proper.Goals as goal

pub loop-word-preserved : goal.loop-word-preserved
loop-word-preserved c = proper_more c.args.words.now c.loop-word.word-index c.word-item.result
    c.loop-word-test.true c.word-item.is c.symbols-symbols.ensures.proper c.loop-word.invariant
