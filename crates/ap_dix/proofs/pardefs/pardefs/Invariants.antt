use Rattle.std.proofs.Common.{◌≡◌, ◌++◌, drop}
use Rattle.ap_markup.specs.View.{parts_of}
use Rattle.ap_dix.specs.Value.{pardefs, names_with}
use Rattle.ap_dix.proofs.pardefs.pardefs.Given as goal

abbrev pub invariant-parts : goal.invariant-parts
invariant-parts l = record {
  made : l.made ++ pardefs l.names (parts_of (drop l.part-index l.parts))
      ≡ pardefs l.fn.names (parts_of l.parts);
  named : names_with l.names (parts_of (drop l.part-index l.parts))
      ≡ names_with l.fn.names (parts_of l.parts);
}
