use Rattle.ap_lookup.proofs.Agreements.{nothing_agreed}
use Rattle.ap_lookup.proofs.agreement.Agreement.behind.Goals as goal

pub returns-clause-kept : goal.returns-clause-kept
returns-clause-kept c = λ reads is. nothing_agreed reads c.args.by
