use Rattle.std.proofs.Common.{◌≡◌, ◌++◌, drop, map}
use Rattle.ap_exec.specs.Pieces.{atom_in}
use Rattle.ap_exec.proofs.pieces.push_parts.Given as goal

abbrev pub invariant-parts : goal.invariant-parts
invariant-parts l = l.into ++ map atom_in (drop l.part-index l.parts) ≡ l.initial.into
    ++ map atom_in l.parts
