use Rattle.std.proofs.Common.{◌≤◌, ℕ, max}
use Rattle.std.specs.Prelude.{◌↔◌}
use Rattle.ap_fst.specs.Lists.{IsIn}
use Rattle.ap_det.specs.Exits.{edge_at, LeadsWithin}
use Rattle.ap_det.proofs.groups.targets_listed.Given as goal

abbrev pub invariant-loop-number : goal.invariant-loop-number
invariant-loop-number l = record {
  bound : l.number ≤ max l.low l.high;
  listed : (t : ℕ) → IsIn t l.targets.items
      ↔ LeadsWithin (edge_at l.edges l.places) l.low l.number t;
}
