use Rattle.std.proofs.Common.{◌+◌, ◌++◌, ◌∙◌, ap, sym}
use Rattle.std.specs.List.{filter}
use Rattle.ap_passes.specs.Splitting.{is_filled, parts_from}
use Rattle.ap_passes.specs.Writing.{following}
use Rattle.ap_passes.proofs.Cutting.{parts_on, filled_at}
use Rattle.ap_passes.proofs.parts.write_symbol.Goals as goal

pub returns-then-is_join-clause-rest : goal.returns-then-is_join-clause-rest
returns-then-is_join-clause-rest c =
    c.in_ok-behind.ensures (filter is_filled
    (parts_from (c.args.at + 1) (c.args.at + 1) c.args.word.now))
    ∙ ap (λ z. c.args.into.now ++ following c.args.begun.behind z)
    (sym (filled_at c.args.word.now c.args.begun.from c.args.at c.index-symbols-at.result
    c.requires.within (rw c.symbols.ensures.symbols at c.index-symbols-at.is)
    (sym c.is_join.ensures ∙ c.if-is_join.true)))

pub returns-clause-rest : goal.returns-clause-rest
returns-clause-rest c = ap (λ z. c.args.into.now
    ++ following c.args.begun.behind (filter is_filled z))
    (parts_on c.args.word.now c.args.begun.from c.args.at c.index-symbols-at.result c.requires.order
    c.requires.within (rw c.symbols.ensures.symbols at c.index-symbols-at.is)
    (sym c.is_join.ensures ∙ c.if-is_join.false))
