use Rattle.std.proofs.Common.{◌≡◌, ◌≤◌, false, length, arith, refl, sym, ap, ◌∙◌}
use Rattle.ap_symbol.specs.Kinds.{is_marked}
use Rattle.ap_live.specs.Greatest.{greatest}
use Rattle.ap_live.specs.Lexicon.{lexicon_of}
use Rattle.ap_live.proofs.Coherence.{coherent}
use Rattle.ap_lookup.specs.Matching.{is_match}
use Rattle.ap_lookup.specs.Translation.{lemma_length, prefix}
use Rattle.ap_lookup.proofs.Translations as laws
use Rattle.ap_lookup.proofs.translation.step_to_prefix.Goals as goal
use Rattle.ap_lookup.proofs.translation.step_to_prefix.Goals.{After-step_down-taken}

length_is : (c : After-step_down-taken) →
    prefix (lexicon_of c.args.compiled.now c.args.sensitive) c.args.word.now
    ≡ c.step_down-taken.result
length_is c =
    let lexicon = lexicon_of c.args.compiled.now c.args.sensitive in
    laws.prefix_within lexicon c.args.word.now c.in_ok-viable.viable
    (coherent c.args.compiled.now c.args.sensitive c.alphabet.ensures.sound)
    (rw c.symbols-symbols.ensures.symbols at c.in_ok-viable.ensures.within)
    (rw c.symbols-symbols.ensures.symbols at c.in_ok-viable.ensures.ends)
    ∙ ap (λ q. greatest (is_match lexicon (lemma_length c.args.word.now) q) c.in_ok-viable.viable)
    (sym c.symbols-symbols.ensures.symbols)
    ∙ ap (λ k. greatest (is_match lexicon k c.symbols-symbols.result.now) c.in_ok-viable.viable)
    (sym c.requires.lemma) ∙ sym c.step_down-taken.ensures.value

pub returns-then-is_marked-clause-value : goal.returns-then-is_marked-clause-value
returns-then-is_marked-clause-value c =
    laws.translation_marked (lexicon_of c.args.compiled.now c.args.sensitive) c.args.sensitive
    c.args.word.now (sym (c.is_marked.ensures ∙ ap is_marked c.symbols-symbols.ensures.symbols)
    ∙ c.if-is_marked.true)

pub returns-clause-value : goal.returns-clause-value
returns-clause-value c =
    let at = (goal.at.returns-clause-value c).After-step_down-taken in
    laws.translation_at (lexicon_of c.args.compiled.now c.args.sensitive) c.args.sensitive
    c.args.word.now c.step_down-taken.result
    (sym (c.is_marked.ensures ∙ ap is_marked c.symbols-symbols.ensures.symbols)
    ∙ c.if-is_marked.false) (length_is at)
