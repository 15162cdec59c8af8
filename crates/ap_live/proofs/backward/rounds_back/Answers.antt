use Rattle.std.proofs.Common.{◌≡◌, ◌<◌, ◌≤◌, ◌+◌, ◌-◌, arith, length, drop, true}
use Rattle.std.proofs.lemmas.List.{length-drop}
use Rattle.ap_live.specs.Tails.{given}
use Rattle.ap_live.proofs.Backing.{closed_more, sound_more, kept_more, added_more, no_fewer, none_before, dropped_in, stands_first, stands_more, round_below, many_by}
use Rattle.ap_live.proofs.backward.rounds_back.Goals as goal

pub rounds-init : goal.rounds-init
rounds-init c = record {
  within = omega arith;
  sound = λ x i. given i;
  base_in = λ x i. i;
  closed = λ x f. absurd (none_before c.args.items.now f.item f.listed);
  stands = λ x i. stands_first c.args.fst.now x
      (c.requires.below x (dropped_in c.args.items.now 0 x i));
  bounded = omega arith;
}

pub add_round-requires-clause-there : goal.add_round-requires-clause-there
add_round-requires-clause-there c = c.rounds.invariant.within

pub overflow_add-round : goal.overflow_add-round
overflow_add-round c =
    let below : c.rounds.round < c.args.fst.now.states =
    round_below c.args.fst.now (drop c.rounds.from c.rounds.items) c.rounds.round
    c.empty_cycle_law.ensures.walks c.states.ensures.sound c.requires.no_cycle
    (let lt : c.rounds.from < length c.rounds.items =
    omega (arith, c.rounds-test.true, c.len.ensures) in
    omega (arith, length-drop c.rounds.from c.rounds.items)) c.rounds.invariant.stands in
    omega (arith, c.states.ensures.value, c.states.type_inv)

pub rounds-smaller : goal.rounds-smaller
rounds-smaller c =
    let below : c.rounds.round < c.args.fst.now.states =
    round_below c.args.fst.now (drop c.rounds.from c.rounds.items) c.rounds.round
    c.empty_cycle_law.ensures.walks c.states.ensures.sound c.requires.no_cycle
    (let lt : c.rounds.from < length c.rounds.items =
    omega (arith, c.rounds-test.true, c.len.ensures) in
    omega (arith, length-drop c.rounds.from c.rounds.items)) c.rounds.invariant.stands in
    let falls : c.args.fst.now.states - (c.rounds.round + 1) < c.args.fst.now.states -
    c.rounds.round = omega arith in
    falls

pub rounds-preserved : goal.rounds-preserved
rounds-preserved c =
    let below : c.rounds.round < c.args.fst.now.states =
    round_below c.args.fst.now (drop c.rounds.from c.rounds.items) c.rounds.round
    c.empty_cycle_law.ensures.walks c.states.ensures.sound c.requires.no_cycle
    (let lt : c.rounds.from < length c.rounds.items =
    omega (arith, c.rounds-test.true, c.len.ensures) in
    omega (arith, length-drop c.rounds.from c.rounds.items)) c.rounds.invariant.stands in
    let h = c.in_ok-add_round.ensures in
    let end : c.len-end.result ≡ length c.rounds.items = c.len-end.ensures in
    let grows : length c.rounds.items ≤ length c.add_round.new.items = no_fewer _ _ _ _ _ h in
    record {
      within = omega arith;
      sound = λ x i. sound_more c.args.fst.now.edges c.args.links.now c.args.items.now
          c.rounds.items c.add_round.new.items c.rounds.from x h c.rounds.invariant.sound i;
      base_in = λ x i. kept_more c.args.fst.now.edges true c.args.links.now
          (drop c.rounds.from c.rounds.items) c.rounds.items c.add_round.new.items x h
          (c.rounds.invariant.base_in x i);
      closed = λ x f. closed_more c.args.fst.now.edges c.args.links.now c.rounds.items
          c.add_round.new.items c.rounds.from c.len-end.result x end h c.rounds.invariant.closed f;
      stands = λ x i. stands_more c.args.fst.now c.args.links.now
          (drop c.rounds.from c.rounds.items) c.rounds.round x c.states.ensures.sound
          c.rounds.invariant.stands
          (h.sound x (added_more c.args.fst.now.edges c.args.links.now
          (drop c.rounds.from c.rounds.items) c.rounds.items c.add_round.new.items
          c.len-end.result x end h i));
      bounded = omega arith;
    }

pub returns : goal.returns
returns c = many_by c.args.fst.now.edges c.args.links.now c.args.items.now c.rounds.items
    c.rounds.from (omega (arith, c.rounds-test.false, c.len.ensures)) c.rounds.invariant.sound
    c.rounds.invariant.base_in c.rounds.invariant.closed
