use Rattle.std.proofs.Common.{◌≡◌, ◌-◌}
use Rattle.ap_lookup.specs.PostSearching.{IsAgreement}
use Rattle.ap_lookup.proofs.agreement.Agreement.extend.Given as goal

abbrev pub invariant-loop-found : goal.invariant-loop-found
invariant-loop-found l = record {
  agreed : IsAgreement l.reads l.found;
  by : l.found.by ≡ l.by;
}

abbrev pub decreases-loop-found : goal.decreases-loop-found
decreases-loop-found l = l.limit - l.found.count
