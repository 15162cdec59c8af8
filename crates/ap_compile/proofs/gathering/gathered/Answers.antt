use Rattle.ap_compile.specs.Gatherings.{SpellsFrom}
use Rattle.ap_compile.proofs.Gathered.{place_more, places_taken}
use Rattle.ap_compile.proofs.gathering.gathered.Goals as goal

pub loop-place-preserved : goal.loop-place-preserved
loop-place-preserved c = record {
  drafted = c.in_ok-gathering.ensures.drafted;
  strings = λ d are. place_more d c.args.direction
      (SpellsFrom d c.args.direction c.args.entries.now) c.args.places.now c.place-item.result
      c.place-item.result c.loop-place.place-index c.loop-place.gathering
      c.in_ok-gathering.gathering c.loop-place-test.true c.place-item.is
      (c.loop-place.invariant.strings d are)
      (c.in_ok-gathering.ensures.strings d are ((c.loop-place.invariant.strings d are).plain));
}

pub returns-clause-strings : goal.returns-clause-strings
returns-clause-strings c =
    λ d are. places_taken d c.args.direction (SpellsFrom d c.args.direction c.args.entries.now)
    c.args.places.now c.loop-place.place-index c.loop-place.gathering c.loop-place-test.false
    (c.loop-place.invariant.strings d are)
