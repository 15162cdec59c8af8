use Rattle.std.proofs.Common.{arith, ◌≡◌}
use Rattle.ap_stream.proofs.staged.Staged.take_copying.Goals as goal

pub returns-clause-front : goal.returns-clause-front
returns-clause-front g c =
    let zero : c.copy-count.result ≡ 0 = omega arith in
    rw (c.copy-count.ensures.none zero) at c.take.ensures.front
