use Rattle.std.proofs.Common.{◌≡◌, ◌+◌, ◌<◌, ℕ, List, take, ap, ◌∙◌, subst}
use Rattle.std.proofs.lemmas.Option.{IfSome_then}
use Rattle.ap_symbol.specs.declared.symbol.Symbol.{Symbol}
use Rattle.ap_stream.specs.Limits.{unit_max}
use Rattle.ap_live.specs.Lexicon.{lexicon_of}
use Rattle.ap_live.specs.Readings.{carried_words, parted_size}
use Rattle.ap_live.specs.SectionLives.{AreLive}
use Rattle.ap_lookup.specs.Translation.{lemma_length, lemma}
use Rattle.ap_lookup.proofs.generation_writer.forms_kept.Goals as goal
use Rattle.ap_lookup.proofs.generation_writer.forms_kept.Goals.{After-cut}

-- the case is that of the lemma
seen_is : (c : After-cut) → take c.lemma_len-lemma.result c.symbols-symbols.result.now
    ≡ lemma c.args.word.now
seen_is c =
    let value : c.lemma_len-lemma.result ≡ lemma_length c.args.word.now =
    rw c.symbols-symbols.ensures.symbols at c.lemma_len-lemma.ensures.value in
    ap (λ (q : List Symbol). take c.lemma_len-lemma.result q) c.symbols-symbols.ensures.symbols
    ∙ ap (λ (k : ℕ). take k c.args.word.now) value

live_whole : (c : After-cut) →
    AreLive c.args.compiled.now c.args.sensitive c.args.word.now c.step_whole.new.lives
live_whole c = rw c.symbols-symbols.ensures.symbols at c.in_ok-step_whole.ensures

pub returns-clause-value : goal.returns-clause-value
returns-clause-value c =
    let at = (goal.at.returns-clause-value c).After-cut in
    let lexicon = lexicon_of c.args.compiled.now c.args.sensitive in
    IfSome_then c.in_ok-words.words c.in_ok-words.ensures.words
    (λ words h. h c.args.word.now (live_whole at)
    ∙ ap (λ (q : List Symbol). carried_words lexicon c.args.sensitive q c.args.word.now)
    (seen_is at))

pub returns-clause-long : goal.returns-clause-long
returns-clause-long c = λ none.
    let at = (goal.at.returns-clause-long c).After-cut in
    let lexicon = lexicon_of c.args.compiled.now c.args.sensitive in
    subst (λ (q : List Symbol). unit_max + 1
    < parted_size (carried_words lexicon c.args.sensitive q c.args.word.now)) (seen_is at)
    (c.in_ok-words.ensures.long none c.args.word.now (live_whole at))

pub returns-clause-kept : goal.returns-clause-kept
returns-clause-kept c = c.cut.ensures c.args.compiled.now c.args.sensitive _
    c.in_ok-step_whole.ensures
