use Rattle.std.proofs.Common.{subst, rules, List}
use Rattle.ap_fst.specs.Lists.{IsIn}
use Rattle.ap_fst.specs.declared.graph.Arc.{Arc}
use Rattle.ap_fst.proofs.Coverings.{followed_on, followed_before}
use Rattle.ap_fst.proofs.covering.is_near.Goals as goal

pub returns-then-is_next_to_any : goal.returns-then-is_next_to_any
returns-then-is_next_to_any c = λ moves h t.
    followed_on moves c.args.arcs.now c.args.from c.args.to c.few.result.now h
    (λ b i. subst (λ (z : List Arc). IsIn b z) c.quiet_from.ensures (c.few.ensures b i))
    (c.is_next_to_any.ensures moves h (search rules))

pub returns : goal.returns
returns c = λ moves h t.
    followed_before moves c.args.arcs.now c.args.from c.args.to c.few-2.result.now h
    (λ b i. subst (λ (z : List Arc). IsIn b z) c.entering.ensures (c.few-2.ensures b i))
    (c.is_next_before_any.ensures moves h t)
