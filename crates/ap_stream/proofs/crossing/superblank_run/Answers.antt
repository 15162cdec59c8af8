use Rattle.std.proofs.Common.{arith}
use Rattle.ap_stream.proofs.Crossed.{inside_all}
use Rattle.ap_stream.proofs.crossing.superblank_run.Goals as goal

pub returns-clause-crossing : goal.returns-clause-crossing
returns-clause-crossing c = λ dialect.
    let most = c.ascii_run.ensures.most in
    inside_all dialect c.ascii_run.result c.args.bytes.now
    (omega (arith, most, c.bare_run.ensures.most)) c.ascii_run.ensures.ascii
    (λ k l. c.bare_run.ensures.bare k (omega (arith, l, most)))
