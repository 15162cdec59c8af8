use Rattle.std.proofs.Common.{◌≡◌, take}
use Rattle.ap_exec.proofs.lending.own_atoms.Given as goal

abbrev pub invariant-loop-atom : goal.invariant-loop-atom
invariant-loop-atom l = l.made ≡ take l.atom-index l.atoms
