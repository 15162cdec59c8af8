use Rattle.std.proofs.Common.{◌≡◌, ◌<◌, ℕ, Some, slice_get}
use Rattle.ap_dix.specs.declared.dictionary.Pardef.{Pardef}
use Rattle.ap_compile.specs.LastUses.{AreLater, AreUsedTo, paradigms_in}
use Rattle.ap_compile.proofs.last_uses.note_pardefs.Given as goal

abbrev pub invariant-loop-at : goal.invariant-loop-at
invariant-loop-at l = record {
  later : AreLater l.fn.last.items l.last.items;
  noted : (k : ℕ) (pardef : Pardef) → k < l.at → slice_get l.pardefs k ≡ Some pardef →
      AreUsedTo l.last.items (paradigms_in pardef.entries) k;
}
