use Rattle.std.proofs.Common.{◌≡◌, take}
use Rattle.std.specs.List.{filter}
use Rattle.ap_compound.specs.Plain.{stays_alone}
use Rattle.ap_compound.proofs.dictionary.edges_alone.Given as goal

abbrev pub invariant-loop-edge : goal.invariant-loop-edge
invariant-loop-edge l = l.made ≡ filter stays_alone (take l.edge-index l.edges)
