use Rattle.std.proofs.Common.{◌≡◌, drop}
use Rattle.ap_markup.specs.View.{parts_of}
use Rattle.ap_dix.specs.Faults.{first_in, defined_in}
use Rattle.ap_dix.proofs.faults.+first_in.Given as goal

abbrev pub decreases-first_in : goal.decreases-first_in
decreases-first_in l = goal.size-first_in l

abbrev pub invariant-parts : goal.invariant-parts
invariant-parts l = record {
  first : first_in l.declared l.defined (parts_of (drop l.part-index l.parts))
      ≡ first_in l.declared l.fn.defined (parts_of l.parts);
  after : defined_in l.defined (parts_of (drop l.part-index l.parts))
      ≡ defined_in l.fn.defined (parts_of l.parts);
}
