use Rattle.std.proofs.Common.{◌++◌, ◌∙◌, ap, sym}
use Rattle.std.specs.List.{filter}
use Rattle.ap_passes.specs.Splitting.{is_filled}
use Rattle.ap_passes.proofs.Cutting.{parts_on}
use Rattle.ap_passes.proofs.parts.take_symbol.Goals as goal

pub returns-clause-rest : goal.returns-clause-rest
returns-clause-rest c = ap (λ z. c.args.words.now ++ filter is_filled z)
    (parts_on c.args.word.now c.args.from c.args.at c.index-symbols-at.result c.requires.order
    c.requires.within (rw c.symbols.ensures.symbols at c.index-symbols-at.is)
    (sym c.is_join.ensures ∙ c.if-is_join.false))
