-- The atom that a lent atom stands for.
use Rattle.ap_exec.specs.declared.lent_template.AtomHeld.{AtomHeld}
use Rattle.ap_exec.specs.declared.lent_template.AtomHeld.TheVariants as held
use Rattle.ap_exec.specs.declared.template.Atom.{Atom}
use Rattle.ap_exec.specs.declared.template.Atom.TheVariants.{Unit as The_unit, Slot, Space}

abbrev pub atom_held : AtomHeld → Atom
atom_held (held.Unit word) = The_unit word
atom_held held.Slot = Slot
atom_held held.Space = Space
