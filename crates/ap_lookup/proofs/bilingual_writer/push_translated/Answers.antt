use Rattle.std.proofs.Common.{List, Ok, ap, sym, ◌∙◌, ◌++◌, ◌≡◌, false, ℕ}
use Rattle.std.specs.List.{flat_map}
use Rattle.ap_symbol.specs.Kinds.{is_marked}
use Rattle.ap_symbol.specs.declared.symbol.Symbol.{Symbol}
use Rattle.ap_stream.specs.Spelling.{slashed}
use Rattle.ap_live.specs.Lexicon.{lexicon_of}
use Rattle.ap_lookup.proofs.LongTexts.{translations_long, translations_looked_up}
use Rattle.ap_lookup.proofs.bilingual_writer.push_translated.Goals as goal

pub returns-clause-text : goal.returns-clause-text
returns-clause-text c = λ told.
    c.in_ok-push_translations.ensures
    ∙ ap (λ (z : List (List Symbol)). c.args.text.now ++ flat_map slashed z)
    (translations_looked_up (lexicon_of c.args.translator.now.compiled
    c.args.translator.now.sensitive) c.args.translator.now.sensitive c.args.word.now c.in-Some.made
    (sym (c.is_marked.ensures ∙ ap is_marked c.symbols.ensures.symbols) ∙ c.if-is_marked.false)
    (rw c.in-Some.is at c.in_ok-made.ensures.value))

pub returns-in_default-clause-long : goal.returns-in_default-clause-long
returns-in_default-clause-long c = λ told.
    translations_long (lexicon_of c.args.translator.now.compiled c.args.translator.now.sensitive)
    c.args.translator.now.sensitive c.args.word.now
    (sym (c.is_marked.ensures ∙ ap is_marked c.symbols.ensures.symbols) ∙ c.if-is_marked.false)
    (c.in_ok-made.ensures.long (ap Ok c.in_default.is))
