use Rattle.std.proofs.Common.{◌≡◌, ◌+◌, ◌≤◌, drop}
use Rattle.ap_exec.specs.Pieces.{atoms_size}
use Rattle.ap_exec.proofs.output.less_atoms.Given as goal

abbrev pub invariant-loop-atom : goal.invariant-loop-atom
invariant-loop-atom l = (l.left ≤ l.room)
    × (l.left + atoms_size l.atoms ≡ l.room + atoms_size (drop l.atom-index l.atoms))
