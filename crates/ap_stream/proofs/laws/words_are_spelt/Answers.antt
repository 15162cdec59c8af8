use Rattle.ap_stream.proofs.Spelt.{words_are_spelt}
use Rattle.ap_stream.proofs.laws.words_are_spelt.Goals as goal

pub returns : goal.returns
returns c = words_are_spelt
