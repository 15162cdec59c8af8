use Rattle.ap_passes.proofs.Staying.{tagless_split}
use Rattle.ap_passes.proofs.laws.tagless_words_stay.Goals as goal

pub returns : goal.returns
returns c = tagless_split
