use Rattle.ap_compile.proofs.Canons.{least_compiled}
use Rattle.ap_compile.proofs.laws.compiled_is_least.Goals as goal

pub returns : goal.returns
returns c = least_compiled c.canonical_is_least.ensures
