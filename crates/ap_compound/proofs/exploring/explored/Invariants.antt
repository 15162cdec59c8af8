use Rattle.std.proofs.Common.{◌≡◌, ℕ, [], length, Some}
use Rattle.std.specs.Prelude.{slice_get}
use Rattle.ap_live.specs.Lexicon.{lexicon_of}
use Rattle.ap_live.specs.SectionLives.{AreLive}
use Rattle.ap_compound.specs.Places.{IsPlaceAt}
use Rattle.ap_compound.specs.declared.place.Place.{Place}
use Rattle.ap_compound.proofs.exploring.explored.Given as goal

abbrev pub invariant-loop-at : goal.invariant-loop-at
invariant-loop-at l = record {
  each : (i : ℕ) (place : Place) → slice_get l.places.items i ≡ Some place →
      IsPlaceAt (lexicon_of l.compiled l.sensitive) l.surface l.places.items i place;
  count : length l.places.items ≡ l.at;
  live : AreLive l.compiled l.sensitive [] l.lives;
}
