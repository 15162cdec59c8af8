use Rattle.std.proofs.Common.{drop}
use Rattle.ap_analysis.proofs.search.Search.pass.Goals as goal

pub returns-then-self-lt-FAR : goal.returns-then-self-lt-FAR
returns-then-self-lt-FAR c = λ sensitive is.
    c.restart.ensures c.args.compiled.now sensitive c.args.reads.now
    (drop c.args.count c.args.reads.now) is

pub returns-in-Unmatched : goal.returns-in-Unmatched
returns-in-Unmatched c = λ sensitive is.
    c.restart-in-Unmatched.ensures c.args.compiled.now sensitive c.args.reads.now
    (drop c.args.count c.args.reads.now) is
