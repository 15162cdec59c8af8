use Rattle.ap_format.proofs.BareTexts.{bare_is}
use Rattle.ap_format.proofs.laws.bare_blanks_are_exact.Goals as goal

pub returns : goal.returns
returns c = bare_is
