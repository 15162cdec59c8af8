use Rattle.std.proofs.Common.{◌≡◌, ℕ, ◌-◌, ◌<◌, List, Ok, take, drop, arith, sym, ap, ◌∙◌, subst}
use Rattle.ap_symbol.specs.declared.symbol.Symbol.{Symbol}
use Rattle.ap_live.specs.Lexicon.{lexicon_of}
use Rattle.ap_live.specs.Readings.{carried_words, parted_size}
use Rattle.ap_lookup.specs.Translation.{lemma_length, lemma, forms_of}
use Rattle.ap_lookup.proofs.Translations as laws
use Rattle.ap_lookup.proofs.translation.translate_within.Goals as goal

pub returns-then-taken-eq0-clause-value : goal.returns-then-taken-eq0-clause-value
returns-then-taken-eq0-clause-value c =
    c.in_ok-whole.ensures ∙ laws.at_none (lexicon_of c.args.compiled.now c.args.sensitive)
    c.args.sensitive c.args.word.now c.in_ok-taken.taken c.if-taken-eq0.true
    ∙ c.in_ok-taken.ensures.value

pub returns-clause-value : goal.returns-clause-value
returns-clause-value c =
    let lexicon = lexicon_of c.args.compiled.now c.args.sensitive in
    let some : 0 < c.in_ok-taken.taken = omega (arith, c.if-taken-eq0.false) in
    let value : c.lemma_len-lemma.result ≡ lemma_length c.args.word.now =
    rw c.symbols-symbols.ensures.symbols at c.lemma_len-lemma.ensures.value in
    let seen : take c.lemma_len-lemma.result c.symbols-symbols.result.now ≡ lemma c.args.word.now =
    ap (λ (q : List Symbol). take c.lemma_len-lemma.result q) c.symbols-symbols.ensures.symbols
    ∙ ap (λ (k : ℕ). take k c.args.word.now) value in
    let heads : c.in-Some.heads
    ≡ forms_of lexicon c.args.sensitive c.args.word.now
    (take c.in_ok-taken.taken c.args.word.now) =
    (rw c.in-Some.is at c.in_ok-heads.ensures.words) (take c.in_ok-taken.taken c.args.word.now)
    (c.in_ok-taken.ensures.lives some)
    ∙ ap (λ (q : List Symbol). carried_words lexicon c.args.sensitive q
    (take c.in_ok-taken.taken c.args.word.now)) seen in
    let left : c.in_ok-rest.rest ≡ drop c.in_ok-taken.taken c.args.word.now =
    c.in_ok-rest.ensures ∙ ap (λ (k : ℕ). take (k - c.in_ok-taken.taken)
    (drop c.in_ok-taken.taken c.args.word.now)) c.len.ensures
    ∙ laws.slice_rest c.args.word.now c.in_ok-taken.taken in
    rw (heads, left) (laws.at_some lexicon c.args.sensitive c.args.word.now c.in_ok-taken.taken some
    ∙ c.in_ok-taken.ensures.value)

pub returns-in_default-clause-long : goal.returns-in_default-clause-long
returns-in_default-clause-long c = λ none.
    let lexicon = lexicon_of c.args.compiled.now c.args.sensitive in
    let some : 0 < c.in_ok-taken.taken = omega (arith, c.if-taken-eq0.false) in
    let value : c.lemma_len-lemma.result ≡ lemma_length c.args.word.now =
    rw c.symbols-symbols.ensures.symbols at c.lemma_len-lemma.ensures.value in
    let seen : take c.lemma_len-lemma.result c.symbols-symbols.result.now ≡ lemma c.args.word.now =
    ap (λ (q : List Symbol). take c.lemma_len-lemma.result q) c.symbols-symbols.ensures.symbols
    ∙ ap (λ (k : ℕ). take k c.args.word.now) value in
    laws.heads_long lexicon c.args.sensitive c.args.word.now c.in_ok-taken.taken c.args.size some
    c.in_ok-taken.ensures.value
    (subst (λ (q : List Symbol). c.args.size < parted_size (carried_words lexicon c.args.sensitive q
    (take c.in_ok-taken.taken c.args.word.now))) seen
    (c.in_ok-heads.ensures.long (ap Ok c.in_default.is)
    (take c.in_ok-taken.taken c.args.word.now) (c.in_ok-taken.ensures.lives some)))
