use Rattle.ap_lookup.proofs.Agreements.{nothing_agreed}
use Rattle.ap_lookup.proofs.agreement.Agreement.none.Goals as goal

pub returns : goal.returns
returns c = λ reads. nothing_agreed reads 0
