use Rattle.ap_command.proofs.Flowing.{given-keeps}
use Rattle.ap_command.proofs.laws.modes_keep_superblanks.Goals as goal

pub returns : goal.returns
returns c = λ mode lexicon sensitive readable. given-keeps c.analysis_keeps_superblanks.ensures
    c.bilingual_keeps_superblanks.ensures c.generation_keeps_superblanks.ensures
    c.post_generation_keeps_superblanks.ensures mode lexicon sensitive readable
