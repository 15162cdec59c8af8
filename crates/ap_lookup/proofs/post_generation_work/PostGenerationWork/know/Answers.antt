use Rattle.std.proofs.Common.{ap}
use Rattle.ap_lookup.specs.PostWorks.{Posting}
use Rattle.ap_lookup.proofs.PostTurns.{coherent_seen}
use Rattle.ap_lookup.proofs.post_generation_work.PostGenerationWork.know.Goals as goal

pub returns-clause-coherent : goal.returns-clause-coherent
returns-clause-coherent c =
    coherent_seen c.self.inside.compiled c.args.self.now
    (ap (λ (h : Posting). h.compiled) c.self.view_is) c.alphabet.ensures.sound
