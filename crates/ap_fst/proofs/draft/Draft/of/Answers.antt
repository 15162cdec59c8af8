use Rattle.std.proofs.Common.{arith, ◌≡◌, ◌+◌}
use Rattle.ap_fst.proofs.Redrafts.{redraft_is_sketch, redraft_law}
use Rattle.ap_fst.proofs.draft.Draft.of.Goals as goal

pub invariant_of-result : goal.invariant_of-result
invariant_of-result c =
    let all : c.in-Some.all ≡ c.states-states.result + 2 = omega (arith, c.in-Some.ensures) in
    redraft_is_sketch c.args.fst.now c.states-states.result c.in-Some.all c.in_ok-moves.moves.items
    c.states-states.ensures.sound c.states-states.ensures.value all c.in_ok-moves.ensures

pub returns : goal.returns
returns c = redraft_law c.args.fst.now c.states-states.result c.in_ok-moves.moves.items
    c.states-states.ensures.sound c.states-states.ensures.value c.in_ok-moves.ensures
