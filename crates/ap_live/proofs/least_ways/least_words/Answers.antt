use Rattle.ap_live.proofs.LeastLaws.{starts_clean, words_least}
use Rattle.ap_live.proofs.least_ways.least_words.Goals as goal

pub words_of-requires : goal.words_of-requires
words_of-requires c = starts_clean c.in-Some.items.items c.in_ok-backs.backs.items
    (rw c.in-Some.is at c.in_ok-items.ensures.clean) c.in_ok-backs.ensures

pub returns : goal.returns
returns c = λ seen live. words_least c.args.fst.now c.args.case seen c.in-Some.items.items
    c.in_ok-backs.backs.items c.in_ok-words.words.items
    ((rw c.in-Some.is at c.in_ok-items.ensures.least) seen live) c.in_ok-backs.ensures
    c.in_ok-words.ensures.is
