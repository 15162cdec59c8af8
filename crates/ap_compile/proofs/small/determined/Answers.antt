use Rattle.ap_compile.proofs.Telling.{still}
use Rattle.ap_compile.proofs.small.determined.Goals as goal

pub returns : goal.returns
returns c = still c.args.draft c.in_ok-fst.fst c.in_ok-one.one c.in_ok-one.ensures.same
    c.in_ok-fst.ensures
