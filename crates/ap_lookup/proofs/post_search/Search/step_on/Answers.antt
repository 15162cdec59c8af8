use Rattle.std.proofs.Common.{arith}
use Rattle.ap_lookup.proofs.PostSearches.{all_end, all_seen}
use Rattle.ap_lookup.proofs.post_search.Search.step_on.Goals as goal

pub returns-clause-ends : goal.returns-clause-ends
returns-clause-ends c = all_end c.args.compiled.now c.args.sensitive c.args.reads.now
    c.loop-self.self c.loop-self.invariant (omega (arith, c.loop-self-test.false, c.len.ensures))

pub returns-clause-all : goal.returns-clause-all
returns-clause-all c = λ _. all_seen c.args.reads.now c.loop-self.self.seen.items
    c.loop-self.invariant.seen_are (omega (arith, c.loop-self-test.false, c.len.ensures))
