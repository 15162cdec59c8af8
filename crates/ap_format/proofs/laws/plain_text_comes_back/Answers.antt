use Rattle.ap_format.proofs.PlainLaws.{comes_back}
use Rattle.ap_format.proofs.laws.plain_text_comes_back.Goals as goal

pub returns : goal.returns
returns c = comes_back
