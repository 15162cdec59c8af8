use Rattle.ap_stream.proofs.FirstWrong.{malformed_wrong}
use Rattle.ap_stream.proofs.laws.malformed_texts_are_wrong.Goals as goal

pub returns : goal.returns
returns c = malformed_wrong
