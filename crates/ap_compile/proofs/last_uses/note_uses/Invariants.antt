use Rattle.std.proofs.Common.{take}
use Rattle.ap_compile.specs.LastUses.{AreLater, AreUsedTo}
use Rattle.ap_compile.proofs.last_uses.note_uses.Given as goal

abbrev pub invariant-loop-n : goal.invariant-loop-n
invariant-loop-n l = record {
  later : AreLater l.fn.last.items l.last.items;
  noted : AreUsedTo l.last.items (take l.n-index l.used) l.at;
}
