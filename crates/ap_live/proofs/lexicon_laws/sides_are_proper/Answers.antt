use Rattle.ap_live.proofs.Coherence.{sections_proper}
use Rattle.ap_live.proofs.lexicon_laws.sides_are_proper.Goals as goal

pub returns : goal.returns
returns c = sections_proper c.args.compiled.now c.alphabet.ensures.sound
