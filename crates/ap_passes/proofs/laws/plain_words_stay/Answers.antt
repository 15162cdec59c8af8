use Rattle.ap_passes.proofs.Staying.{plain_split}
use Rattle.ap_passes.proofs.laws.plain_words_stay.Goals as goal

pub returns : goal.returns
returns c = plain_split
