use Rattle.ap_pipe.proofs.JoinedAgree.{transfer_sees, joined_agrees}
use Rattle.ap_pipe.proofs.joined.joined_agrees.Goals as goal

pub returns-clause-agrees : goal.returns-clause-agrees
returns-clause-agrees c = λ sensitive.
    joined_agrees _ (c.words_are_readable.ensures sensitive)

pub returns-clause-sees : goal.returns-clause-sees
returns-clause-sees c = transfer_sees
