use Rattle.std.proofs.Common.{◌≤◌, ◌<◌, ◌-◌, ℕ, length, get_or}
use Rattle.ap_live.specs.Spreads.{arrival_to}
use Rattle.ap_live.specs.declared.arrivals.Arrival.{Arrival}
use Rattle.ap_live.proofs.arrivals.high_of.Given as goal

abbrev pub invariant-loop-high : goal.invariant-loop-high
invariant-loop-high l = record {
  from_low : l.low ≤ l.high;
  in_range : l.high ≤ length l.arrivals;
  not_later : (k : ℕ) (d : Arrival) → k < l.high → arrival_to (get_or l.arrivals k d) ≤ l.state;
}

abbrev pub decreases-loop-high : goal.decreases-loop-high
decreases-loop-high l = length l.arrivals - l.high
