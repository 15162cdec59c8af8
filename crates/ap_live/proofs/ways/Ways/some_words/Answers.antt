use Rattle.std.proofs.Common.{List, subst}
use Rattle.std.proofs.lemmas.Result.{IfOk-weaker}
use Rattle.ap_symbol.specs.declared.symbol.Symbol.{Symbol}
use Rattle.ap_fst.specs.Lists.{IsIn}
use Rattle.ap_live.proofs.LiveLaws.{by_rows}
use Rattle.ap_live.proofs.ways.Ways.some_words.Goals as goal

pub returns-in-None : goal.returns-in-None
returns-in-None c = λ outlined seen held w i.
    elim (subst (λ (z : List (List Symbol)). IsIn w z) c.new.ensures.items i) [ ]

pub returns-in-Some : goal.returns-in-Some
returns-in-Some c = IfOk-weaker c.some_words.result _ _
    (λ words h outlined seen held. h outlined seen
    (by_rows c.args.fst.now seen c.args.self.now c.in-Some.rows c.in-Some.is held).0)
    c.some_words.ensures
