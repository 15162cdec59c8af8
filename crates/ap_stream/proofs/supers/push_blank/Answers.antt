use Rattle.std.proofs.Common.{arith, ◌+◌, refl, length-drop}
use Rattle.std.proofs.lemmas.List.{take_rest}
use Rattle.ap_stream.proofs.Superblanks as lemmas
use Rattle.ap_stream.proofs.supers.push_blank.Goals as goal

pub returns-in-None : goal.returns-in-None
returns-in-None c = lemmas.supers_last c.args.into.now c.loop-at.into c.args.bytes.now c.loop-at.at
    c.loop-at.invariant.on c.loop-at-test.true c.if-bytes-at-eq91.true
    (c.in-None.ensures.unclosed refl)

pub loop-at-preserved-in-Some : goal.loop-at-preserved-in-Some
loop-at-preserved-in-Some c = record {
  within =
      let w = rw (take_rest c.args.bytes.now (c.loop-at.at + 1)) at c.in-Some.ensures.within in
      let d = length-drop (c.loop-at.at + 1) c.args.bytes.now in
      omega (arith, w, d, c.loop-at-test.true);
  on = lemmas.supers_in c.args.into.now c.loop-at.into c.args.bytes.now c.loop-at.at
      c.loop-at.invariant.on c.loop-at-test.true c.if-bytes-at-eq91.true c.in-Some.size
      c.extend.new.self c.in-Some.ensures.closed c.in_ok-extend-in-Some.ensures.ok;
}

pub loop-at-preserved : goal.loop-at-preserved
loop-at-preserved c = record {
  within = omega arith;
  on = lemmas.supers_on c.args.into.now c.loop-at.into c.args.bytes.now c.loop-at.at
      c.loop-at.invariant.on c.loop-at-test.true c.if-bytes-at-eq91.false;
}

pub returns : goal.returns
returns c = lemmas.supers_end c.args.into.now c.loop-at.into c.args.bytes.now c.loop-at.at
    c.loop-at.invariant.on c.loop-at-test.false
