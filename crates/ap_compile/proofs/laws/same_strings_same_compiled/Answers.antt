use Rattle.ap_compile.proofs.Canons.{one_compiled}
use Rattle.ap_compile.proofs.laws.same_strings_same_compiled.Goals as goal

pub returns : goal.returns
returns c = one_compiled c.canonical_is_one.ensures
