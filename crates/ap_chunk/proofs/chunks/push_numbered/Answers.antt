use Rattle.std.proofs.Common.{refl, ◌≡◌, ◌∙◌, ◌++◌, ◌∷◌, [], ◌-◌, ◌<◌, ap, sym, arith, List, length, get_or}
use Rattle.std.proofs.lemmas.List.{append-nil}
use Rattle.ap_symbol.specs.declared.symbol.Symbol.{Symbol}
use Rattle.ap_chunk.specs.Chunks.{number_from, tag_of}
use Rattle.ap_chunk.proofs.ChunkWords.{tag_beyond, tag_there}
use Rattle.ap_chunk.proofs.Lives.{on_ok}
use Rattle.ap_chunk.proofs.chunks.push_numbered.Goals as goal

pub returns-in-None : goal.returns-in-None
returns-in-None c =
    let b = c.in-None.ensures.beyond refl in
    let l = ap length c.symbols-symbols.ensures.symbols in
    let lt : length c.args.tags.now < number_from 0 c.args.digits.now = omega (arith, b, l) in
    sym
    (ap (λ (z : List Symbol). c.args.into.now ++ z)
    (tag_beyond c.args.tags.now (number_from 0 c.args.digits.now) lt)
    ∙ append-nil c.args.into.now)

pub returns-in_ok-copy-in-Some : goal.returns-in_ok-copy-in-Some
returns-in_ok-copy-in-Some c =
    let n = c.in-Some.number in
    let d = c.index-symbols-number.result in
    let l = ap length c.symbols-symbols.ensures.symbols in
    let same : c.in_ok-copy-in-Some.field-0 ≡ get_or c.args.tags.now (n - 1) d =
    c.in_ok-copy-in-Some.ensures ∙ c.index-symbols-number.is
    ∙ ap (λ (s : List Symbol). get_or s (n - 1) d) c.symbols-symbols.ensures.symbols in
    on_ok c.push.result (c.push.new.self ≡ c.args.into.now ++ c.in_ok-copy-in-Some.field-0 ∷ [])
    (c.push.new.self ≡ c.args.into.now ++ tag_of c.args.tags.now
    (number_from 0 c.args.digits.now))
    (λ e. e ∙ ap (λ (z : List Symbol). c.args.into.now ++ z)
    (ap (λ (x : Symbol). x ∷ []) same
    ∙ sym (tag_there c.args.tags.now n d (omega (arith, c.if-number-eq0.false))
    (omega (arith, l, c.in-Some.ensures.within.1)))
    ∙ ap (tag_of c.args.tags.now) c.in-Some.ensures.within.0))
    c.push.ensures.ok
