use Rattle.ap_compile.proofs.Telling.{again}
use Rattle.ap_compile.proofs.paradigms.small_draft.Goals as goal

pub returns : goal.returns
returns c = again c.args.draft c.in_ok-made.made c.in_ok-small.small c.in_ok-made.ensures
    c.in_ok-small.ensures.same
