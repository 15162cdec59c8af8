use Rattle.std.proofs.Common.{◌≡◌, ◌++◌, drop, List}
use Rattle.ap_exec.specs.Filling.{Mark, atoms_marks}
use Rattle.ap_exec.specs.FillingParts.{goes_on}
use Rattle.ap_exec.proofs.filling.put_atoms.Given as goal

abbrev pub invariant-atoms : goal.invariant-atoms
invariant-atoms l = (more : List Mark) →
    goes_on l.state (atoms_marks (drop l.atom-index l.atoms) ++ more)
    ≡ goes_on l.initial.state (atoms_marks l.atoms ++ more)
