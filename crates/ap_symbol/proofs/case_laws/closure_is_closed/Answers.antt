use Rattle.ap_symbol.proofs.Alphabets.{closure_is_closed}
use Rattle.ap_symbol.proofs.case_laws.closure_is_closed.Goals as goal

pub returns : goal.returns
returns c = closure_is_closed
