use Rattle.std.proofs.Common.{sym, arith}
use Rattle.ap_live.specs.Lexicon.{lexicon_of}
use Rattle.ap_lookup.proofs.PostSearches.{all_vain}
use Rattle.ap_lookup.proofs.post_search.Search.step_back.Goals as goal

pub returns-then-from-self-clause-value : goal.returns-then-from-self-clause-value
returns-then-from-self-clause-value c =
    sym (all_vain (lexicon_of c.args.compiled.now c.args.sensitive) c.args.self.now.seen.items
    c.args.self.now.vain c.requires.vain (omega (arith, c.len-from.ensures, c.if-from-self.true)))
