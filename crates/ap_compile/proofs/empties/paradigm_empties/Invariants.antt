use Rattle.std.proofs.Common.{◌≡◌, length}
use Rattle.ap_compile.specs.Empties.{AreEmpties}
use Rattle.ap_compile.proofs.empties.paradigm_empties.Given as goal

abbrev pub invariant-loop-pardef : goal.invariant-loop-pardef
invariant-loop-pardef l =
    record {
      empties : AreEmpties l.dictionary l.direction l.empties.items;
      count : length l.empties.items ≡ l.pardef-index;
    }
