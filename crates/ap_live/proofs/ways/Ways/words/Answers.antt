use Rattle.std.proofs.Common.{[], List, arith, subst, sym}
use Rattle.std.specs.List.Sorted.{IsStrictlySortedBy}
use Rattle.std.proofs.lemmas.Result.{IfOk-weaker}
use Rattle.ap_symbol.specs.Rendering.{word_cmp}
use Rattle.ap_symbol.specs.declared.symbol.Symbol.{Symbol}
use Rattle.ap_live.proofs.LiveLaws.{by_rows, by_trail}
use Rattle.ap_live.proofs.WordLaws.{few_sorted}
use Rattle.ap_live.proofs.ways.Ways.words.Goals as goal

pub returns-in-Some-clause-members : goal.returns-in-Some-clause-members
returns-in-Some-clause-members c = IfOk-weaker c.words.result _ _
    (λ words h is seen held. h seen
    (by_rows c.args.fst.now seen c.args.self.now c.in-Some.rows c.in-Some.is held).0)
    c.words.ensures.members

pub returns-in-None-clause-order : goal.returns-in-None-clause-order
returns-in-None-clause-order c =
    subst (λ (z : List (List Symbol)). IsStrictlySortedBy word_cmp z) (sym c.new.ensures.items)
    (few_sorted [] (omega arith))

pub returns-in-Some-trail-clause-members : goal.returns-in-Some-trail-clause-members
returns-in-Some-trail-clause-members c = IfOk-weaker c.words-in-Some-trail.result _ _
    (λ words h is seen held. h is seen
    (by_trail c.args.fst.now seen c.args.self.now c.in-Some-trail.trail c.in_default.is
    c.in-Some-trail.is held)) c.words-in-Some-trail.ensures.members
