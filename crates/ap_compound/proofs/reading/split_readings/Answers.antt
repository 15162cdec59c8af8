use Rattle.ap_live.specs.Lexicon.{lexicon_of}
use Rattle.ap_compound.proofs.Assembling.{readings_of}
use Rattle.ap_compound.proofs.reading.split_readings.Goals as goal

pub returns-clause-value : goal.returns-clause-value
returns-clause-value c =
    readings_of (lexicon_of c.args.compiled.now c.args.sensitive) c.args.sensitive
    c.args.surface.now c.in_ok-places.places.items c.as_slice.result.now c.in_ok-words.words
    c.as_slice-2.result.now c.in_ok-made.made c.in_ok-places.ensures.places
    c.as_slice.ensures.value c.in_ok-words.ensures c.as_slice-2.ensures c.one_rendering.ensures
    c.in_ok-made.ensures.proper c.in_ok-made.ensures.value c.requires.letters
