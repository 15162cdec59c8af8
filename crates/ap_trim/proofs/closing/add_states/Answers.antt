use Rattle.std.proofs.lemmas.List.{take_more}
use Rattle.ap_fst.proofs.Growing.{grows_then}
use Rattle.ap_trim.proofs.closing.add_states.Goals as goal

pub loop-state-preserved : goal.loop-state-preserved
loop-state-preserved c = grows_then _ _ _ _ _ _ (take_more c.args.more.now c.loop-state.state-index
    _ c.loop-state-test.true) c.loop-state.invariant c.in_ok-add.ensures
