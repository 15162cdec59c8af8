use Rattle.std.proofs.Common.{◌≡◌, [], drop}
use Rattle.ap_expand.specs.Uses.{pardefs_uses}
use Rattle.ap_expand.proofs.uses.paradigm_uses.Given as goal

abbrev pub invariant-loop-pardef : goal.invariant-loop-pardef
invariant-loop-pardef l = pardefs_uses l.uses.items (drop l.pardef-index l.pardefs)
    ≡ pardefs_uses [] l.pardefs
