use Rattle.ap_min.specs.Settled.{AreSettled}
use Rattle.ap_min.proofs.settling.settled_groups.Given as goal

abbrev pub invariant-loop-state : goal.invariant-loop-state
invariant-loop-state l = AreSettled l.rows l.numbering l.groups.items
