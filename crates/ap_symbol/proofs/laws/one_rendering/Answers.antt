use Rattle.ap_symbol.proofs.OneRendering.{one-rendering}
use Rattle.ap_symbol.proofs.laws.one_rendering.Goals as goal

pub returns : goal.returns
returns c = one-rendering
