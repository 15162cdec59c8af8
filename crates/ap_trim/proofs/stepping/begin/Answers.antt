use Rattle.std.proofs.Common.{refl, [], ◌∷◌}
use Rattle.ap_trim.proofs.Steps.{begins}
use Rattle.ap_trim.proofs.stepping.begin.Goals as goal

pub returns : goal.returns
returns c = begins c.args.fst.now c.args.sets.now c.number.new.self c.in_ok-number.number (0 ∷ [])
    c.in_ok-set.set.items c.as_slice.result.now refl c.in_ok-set.ensures c.as_slice.ensures.value
    c.in_ok-number.ensures
