use Rattle.ap_command.proofs.Flowing.{given-read}
use Rattle.ap_command.proofs.laws.modes_are_read.Goals as goal

pub returns : goal.returns
returns c = λ mode lexicon sensitive readable. given-read c.analysis_is_read.ensures
    c.bilingual_is_read.ensures c.generation_is_read.ensures c.post_generation_is_read.ensures mode
    lexicon sensitive readable
