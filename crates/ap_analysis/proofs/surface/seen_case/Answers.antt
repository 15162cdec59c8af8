use Rattle.std.proofs.Common.{ap, ◌∙◌, List}
use Rattle.ap_symbol.specs.declared.symbol.Symbol.{Symbol}
use Rattle.ap_live.specs.Readings.{carried}
use Rattle.ap_analysis.specs.Licence.{surface}
use Rattle.ap_analysis.proofs.Surfaces.{low_carried}
use Rattle.ap_analysis.proofs.surface.seen_case.Goals as goal

pub returns-then-small : goal.returns-then-small
returns-then-small c = λ piece reads count is word.
    low_carried c.args.sensitive (surface reads count) word (is.case c.if-small.true)

pub returns : goal.returns
returns c = λ piece reads count is word. c.case_carried.ensures word
    ∙ ap (λ (z : List Symbol). carried c.args.sensitive z word)
    (c.symbols.ensures.symbols ∙ is.word c.if-small.false)
