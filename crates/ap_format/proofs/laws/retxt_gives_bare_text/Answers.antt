use Rattle.ap_format.proofs.BareTexts.{gives_bare}
use Rattle.ap_format.proofs.laws.retxt_gives_bare_text.Goals as goal

pub returns : goal.returns
returns c = gives_bare
