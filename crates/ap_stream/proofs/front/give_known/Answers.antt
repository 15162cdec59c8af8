use Rattle.std.proofs.Common.{arith, refl, ◌≤◌, ◌+◌, ◌∙◌, length-drop}
use Rattle.std.proofs.lemmas.Grind.{common_steps}
use Rattle.std.proofs.lemmas.List.{take_rest}
use Rattle.ap_stream.proofs.FrontLaws.{none_given, next_given, after_room}
use Rattle.ap_stream.proofs.front.give_known.Goals as goal

pub loop-room-init : goal.loop-room-init
loop-room-init g c = record {
  within = omega arith;
  near = omega arith;
  most = omega arith;
  short = rw c.requires.empty (omega arith);
  same = refl;
  gives = rw c.requires.empty (none_given _ _ _);
}

pub loop-room-preserved : goal.loop-room-preserved
loop-room-preserved g c =
    let i = c.loop-room.invariant in
    let k = rw (c.in-Some.is, take_rest, i.same) at c.in_ok-give_near.ensures.gave in
    let j = after_room _ _ _ _ _ _ _ _ _ k
    (rw c.as_slice-in-Some.ensures at c.in_ok-extend-in-Some.ensures.ok) in
    let near = rw c.in-Some.is at c.in_ok-give_near.ensures.near in
    let l = length-drop c.loop-room.used c.args.text.now in
    let m = k.most in
    let w = i.within in
    let z = i.most in
    let u = k.within in
    let v = i.near in
    let o = k.some in
    let a : c.loop-room.seen ≤ c.larger-seen.result = c.larger-seen.ensures.first in
    let b : c.loop-room.used + c.in-Some.front.seen ≤ c.larger-seen.result =
    c.larger-seen.ensures.second in
    let n = c.larger-seen.ensures.one in
    record {
      within = omega (arith, b, u);
      near = omega (arith, n, near, v, o);
      most = omega (arith, n, m, l, w, z);
      short = grind (arith, common_steps);
      same = c.in_ok-give_near.ensures.same ∙ i.same;
      gives = next_given _ _ _ c.args.text.now c.loop-room.used c.loop-room.seen
          c.in-Some.front.used c.in-Some.front.seen c.larger-seen.result _ _ w z a b i.gives j;
    }
