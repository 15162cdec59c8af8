use Rattle.std.proofs.Common.{arith}
use Rattle.ap_det.specs.Exits.{edge_at}
use Rattle.ap_det.proofs.Grouping.{group_begun, group_on}
use Rattle.ap_det.proofs.groups.group_end.Goals as goal

pub group-init : goal.group-init
group-init c = record {
  reaches = omega arith;
  bound = omega arith;
  same = group_begun (edge_at c.args.edges.now c.args.places.now) c.args.label.now c.args.low;
}

pub group-preserved : goal.group-preserved
group-preserved c = record {
  reaches = omega arith;
  bound = omega arith;
  same = group_on (edge_at c.args.edges.now c.args.places.now) c.args.label.now c.args.low
      c.group.high c.group.invariant.same (c.has_label.ensures.0 c.if-not-has_label.false);
}
