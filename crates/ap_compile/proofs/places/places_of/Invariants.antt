use Rattle.std.proofs.Common.{◌≡◌, ◌<◌, ℕ, Some, slice_get}
use Rattle.ap_dix.specs.declared.dictionary.Entry.{Entry}
use Rattle.ap_compile.specs.Gatherings.{HasPlace}
use Rattle.ap_compile.proofs.places.places_of.Given as goal

abbrev pub invariant-loop-at : goal.invariant-loop-at
invariant-loop-at l = (k : ℕ) (entry : Entry) → k < l.at → slice_get l.entries k ≡ Some entry →
    HasPlace l.entries l.places.items entry
