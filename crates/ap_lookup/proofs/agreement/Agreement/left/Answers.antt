use Rattle.ap_lookup.proofs.Agreements.{agreement_left}
use Rattle.ap_lookup.proofs.agreement.Agreement.left.Goals as goal

pub returns : goal.returns
returns c = λ reads is.
    rw c.saturating_sub.ensures (agreement_left reads c.args.self.by c.args.self.count is)
