use Rattle.std.proofs.Common.{arith, refl, ◌≤◌, ◌+◌, ◌∙◌, length-drop}
use Rattle.std.proofs.lemmas.Grind.{common_steps}
use Rattle.std.proofs.lemmas.List.{take_rest}
use Rattle.ap_stream.proofs.FrontLaws.{none_given, next_given, next_gave}
use Rattle.ap_stream.proofs.front.give_near.Goals as goal

pub loop-handler-init : goal.loop-handler-init
loop-handler-init g c = record {
  within = omega arith;
  most = omega arith;
  short = rw c.requires.empty (omega arith);
  same = refl;
  gives = rw c.requires.empty (none_given _ _ _);
}

pub returns-then-seen-used-clause-gave : goal.returns-then-seen-used-clause-gave
returns-then-seen-used-clause-gave g c =
    let i = c.loop-handler.invariant in
    let k = rw (c.in-Some.is, take_rest, i.same) at c.in_ok-recall.ensures.gave in
    let l = length-drop c.loop-handler.used c.args.piece.now in
    let m = k.most in
    let w = i.within in
    let z = i.most in
    let a : c.loop-handler.seen ≤ c.larger-seen.result = c.larger-seen.ensures.first in
    let b : c.loop-handler.used + c.in-Some.front.seen ≤ c.larger-seen.result =
    c.larger-seen.ensures.second in
    let n = c.larger-seen.ensures.one in
    next_gave _ _ _ c.args.piece.now c.loop-handler.used c.loop-handler.seen c.in-Some.front.used
    c.in-Some.front.seen c.larger-seen.result _ _ w z a b (omega (arith, n, m, l, w, z)) i.gives k

pub loop-handler-preserved : goal.loop-handler-preserved
loop-handler-preserved g c =
    let i = c.loop-handler.invariant in
    let k = rw (c.in-Some.is, take_rest, i.same) at c.in_ok-recall.ensures.gave in
    let l = length-drop c.loop-handler.used c.args.piece.now in
    let m = k.most in
    let w = i.within in
    let z = i.most in
    let u = k.within in
    let a : c.loop-handler.seen ≤ c.larger-seen.result = c.larger-seen.ensures.first in
    let b : c.loop-handler.used + c.in-Some.front.seen ≤ c.larger-seen.result =
    c.larger-seen.ensures.second in
    let n = c.larger-seen.ensures.one in
    record {
      within = omega (arith, b, u);
      most = omega (arith, n, m, l, w, z);
      short = grind (arith, common_steps);
      same = c.in_ok-recall.ensures.same ∙ i.same;
      gives = next_given _ _ _ c.args.piece.now c.loop-handler.used c.loop-handler.seen
          c.in-Some.front.used c.in-Some.front.seen c.larger-seen.result _ _ w z a b i.gives k;
    }
