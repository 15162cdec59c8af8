use Rattle.std.proofs.Common.{◌∷◌, [], ◌++◌, ◌∙◌, ap, arith}
use Rattle.ap_symbol.proofs.Parts.{part_more}
use Rattle.ap_symbol.proofs.word.Word.part.Goals as goal

pub loop-at-preserved : goal.loop-at-preserved
loop-at-preserved c = c.in_ok-push.ensures.ok
    ∙ ap (λ z. c.loop-at.made ++ z ∷ []) c.in_ok-copy.ensures
    ∙ part_more c.symbols-symbols.result.now c.loop-at.made c.args.from c.loop-at.at
    c.index-symbols-at.result (omega arith)
    (rw c.symbols-symbols.ensures.symbols
    (omega (arith, c.loop-at-test.true, c.requires.within))) c.index-symbols-at.is
    c.loop-at.invariant
