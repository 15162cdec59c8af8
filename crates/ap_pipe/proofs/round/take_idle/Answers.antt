use Rattle.ap_pipe.proofs.Taking.{still_first}
use Rattle.ap_pipe.proofs.round.take_idle.Goals as goal

pub returns-else-are_idle-clause-takes : goal.returns-else-are_idle-clause-takes
returns-else-are_idle-clause-takes g c =
    still_first _ _ _ _ _ c.args.stations.now c.requires.taken c.requires.some
