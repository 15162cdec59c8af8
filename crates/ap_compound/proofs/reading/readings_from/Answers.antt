use Rattle.std.proofs.Common.{sym, ◌∙◌}
use Rattle.ap_live.specs.Lexicon.{lexicon_of}
use Rattle.ap_compound.proofs.Assembling.{no_readings}
use Rattle.ap_compound.proofs.reading.readings_from.Goals as goal

pub returns-then-not-may_split-clause-value : goal.returns-then-not-may_split-clause-value
returns-then-not-may_split-clause-value c = c.new.ensures
    ∙ no_readings (lexicon_of c.args.compiled.now c.args.sensitive) c.args.sensitive
    c.args.surface.now (sym c.if-not-may_split.ensures)
