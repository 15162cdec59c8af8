use Rattle.std.proofs.Common.{sym, subst, ap, ◌∙◌, List}
use Rattle.ap_symbol.specs.Lists.{IsIn}
use Rattle.ap_symbol.specs.Recasing.{carry_lem}
use Rattle.ap_symbol.specs.declared.symbol.Symbol.{Symbol}
use Rattle.ap_live.specs.Found.{in_order}
use Rattle.ap_live.specs.Readings.{carried}
use Rattle.ap_live.proofs.Ordered.{mapped_same}
use Rattle.ap_compound.proofs.reading.carried_words.Goals as goal

pub returns-clause-value : goal.returns-clause-value
returns-clause-value c = c.from_vec.ensures ∙ c.sort_words.ensures.is
    ∙ ap in_order (c.in_ok-made.ensures ∙ mapped_same (carry_lem c.case_carried-case.result)
    (carried c.args.sensitive c.args.seen.now) c.args.words.now c.case_carried-case.ensures)

pub returns-clause-proper : goal.returns-clause-proper
returns-clause-proper c = λ w i.
    c.words_are_proper.ensures w (subst (λ (z : List (List Symbol)). IsIn w z)
    (sym (c.as_slice.ensures.value ∙ c.in_ok-made.ensures
    ∙ mapped_same (carry_lem c.case_carried-case.result)
    (carried c.args.sensitive c.args.seen.now) c.args.words.now c.case_carried-case.ensures)) i)
