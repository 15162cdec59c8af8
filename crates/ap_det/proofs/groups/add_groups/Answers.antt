use Rattle.std.proofs.Common.{arith, ◌≡◌, ◌<◌, ℕ, length, subst}
use Rattle.ap_det.specs.Exits.{edge_at, AddsOuts}
use Rattle.ap_det.proofs.Grouping.{outs_begun, outs_on}
use Rattle.ap_det.proofs.groups.add_groups.Goals as goal

pub groups-init : goal.groups-init
groups-init c = record {
  bound = omega arith;
  outs =
      outs_begun (edge_at c.args.edges.now c.args.places.now) c.args.from c.args.sets.now
      c.args.made.now;
}

pub groups-preserved : goal.groups-preserved
groups-preserved c = record {
  bound = c.in_ok-low.ensures.bound;
  outs = outs_on (edge_at c.args.edges.now c.args.places.now) c.args.from c.groups.low
      c.in_ok-low.low c.args.sets.now c.groups.sets c.add_group.new.sets c.args.made.now
      c.groups.made c.add_group.new.made c.groups.invariant.outs c.in_ok-low.ensures.group;
}

pub groups-smaller : goal.groups-smaller
groups-smaller c = let up : c.groups.low < c.in_ok-low.low = c.in_ok-low.ensures.group.rises
    in omega arith

pub returns : goal.returns
returns c =
    let end : c.groups.low ≡ length c.args.places.now = omega arith in
    subst (λ (z : ℕ). AddsOuts (edge_at c.args.edges.now c.args.places.now) c.args.from z
    c.args.sets.now c.groups.sets c.args.made.now c.groups.made) end c.groups.invariant.outs
