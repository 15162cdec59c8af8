use Rattle.std.proofs.Common.{arith}
use Rattle.ap_live.specs.Spreads.{arrival, arrival_to}
use Rattle.ap_live.proofs.Arriving.{not_later, not_later_more, later_end, last_end}
use Rattle.ap_live.proofs.arrivals.high_of.Goals as goal

pub loop-high-init : goal.loop-high-init
loop-high-init c = record {
  from_low = omega arith;
  in_range = c.requires.bound;
  not_later =
      not_later arrival_to c.args.state c.args.arrivals.now c.args.low c.requires.bound
      c.requires.point;
}

pub loop-high-preserved : goal.loop-high-preserved
loop-high-preserved c = record {
  from_low = omega arith;
  in_range = omega arith;
  not_later = not_later_more arrival_to c.args.state c.args.arrivals.now c.loop-high.high
      (arrival 0 0) c.loop-high-test.true c.if-arrivals-high.false c.loop-high.invariant.not_later;
}

pub returns-then-arrivals-high-clause-point : goal.returns-then-arrivals-high-clause-point
returns-then-arrivals-high-clause-point c =
    later_end arrival_to c.args.state c.args.arrivals.now c.args.low c.loop-high.high (arrival 0 0)
    c.requires.order c.requires.point c.loop-high.invariant.from_low c.loop-high-test.true
    c.if-arrivals-high.true c.loop-high.invariant.not_later

pub returns-clause-point : goal.returns-clause-point
returns-clause-point c =
    last_end arrival_to c.args.state c.args.arrivals.now c.loop-high.high (omega arith)
    c.loop-high.invariant.not_later
