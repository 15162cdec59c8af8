use Rattle.std.proofs.Common.{arith}
use Rattle.ap_det.specs.Exits.{edge_at}
use Rattle.ap_det.proofs.Grouping.{targets_begun, targets_on, targets_all}
use Rattle.ap_det.proofs.groups.targets_listed.Goals as goal

pub loop-number-init : goal.loop-number-init
loop-number-init c = record {
  bound = omega arith;
  listed =
      targets_begun (edge_at c.args.edges.now c.args.places.now) c.args.low
      c.new-targets.result.items
      c.new-targets.ensures.items;
}

pub loop-number-preserved : goal.loop-number-preserved
loop-number-preserved c = record {
  bound = omega arith;
  listed = targets_on (edge_at c.args.edges.now c.args.places.now) c.args.low c.loop-number.number
      c.loop-number.targets.items c.add_target.new.targets.items c.loop-number.auto.number
      c.loop-number.invariant.listed c.in_ok-add_target.ensures;
}

pub returns : goal.returns
returns c = targets_all (edge_at c.args.edges.now c.args.places.now) c.args.low c.args.high
    c.loop-number.number c.loop-number.targets.items c.loop-number.invariant.bound
    c.loop-number-test.false c.loop-number.invariant.listed
