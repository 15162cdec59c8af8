use Rattle.std.proofs.Common.{arith}
use Rattle.ap_analysis.proofs.Agreements.{like_behind}
use Rattle.ap_analysis.proofs.agreement.Agreement.behind.Goals as goal

pub returns : goal.returns
returns c = λ reads is. like_behind reads c.args.self.now.by c.args.self.now.count
    c.saturating_sub.result (omega (arith, c.saturating_sub.ensures)) is
