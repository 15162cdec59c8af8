use Rattle.std.proofs.Common.{subst, sym, rules, List}
use Rattle.ap_fst.specs.Lists.{IsIn}
use Rattle.ap_fst.specs.declared.graph.Arc.{Arc}
use Rattle.ap_fst.proofs.Coverings.{covers_same, covers_quiet, covers_passed}
use Rattle.ap_fst.proofs.covering.covers.Goals as goal

pub returns-then-first-second : goal.returns-then-first-second
returns-then-first-second c = λ moves h t.
    covers_same moves c.args.arcs.now.finish c.args.first c.args.second c.if-first-second.true

pub returns-then-is_followed : goal.returns-then-is_followed
returns-then-is_followed c = λ moves h t.
    covers_quiet moves c.args.arcs.now.finish c.args.first c.args.second
    (c.is_followed.ensures moves h (search rules))

pub returns : goal.returns
returns c = λ moves h t.
    covers_passed moves c.args.arcs.now c.args.first c.args.second h
    (c.is_passed_on.ensures (search rules))
    (λ b i. c.is_followed_by_all.ensures moves h t b
    (subst (λ (z : List Arc). IsIn b z) (sym c.quiet_from-2.ensures) i))
