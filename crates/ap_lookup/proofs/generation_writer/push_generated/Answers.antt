use Rattle.std.proofs.Common.{List, Ok, ap, sym, ◌∙◌, ◌≡◌, false}
use Rattle.ap_symbol.specs.Kinds.{is_marked}
use Rattle.ap_live.specs.Lexicon.{lexicon_of}
use Rattle.ap_lookup.proofs.LongTexts.{generated_long}
use Rattle.ap_lookup.proofs.generation_writer.push_generated.Goals as goal

pub returns-in_default-clause-long : goal.returns-in_default-clause-long
returns-in_default-clause-long c = λ told.
    generated_long (lexicon_of c.args.compiled.now c.args.sensitive) c.args.marks c.args.sensitive
    c.args.word.now
    (sym (c.is_marked.ensures ∙ ap is_marked c.symbols.ensures.symbols) ∙ c.if-is_marked.false)
    (c.in_ok-words.ensures.long (ap Ok c.in_default.is))
