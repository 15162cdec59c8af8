use Rattle.std.proofs.Common.{subst, rules, List}
use Rattle.ap_fst.specs.Lists.{IsIn}
use Rattle.ap_fst.specs.Quiet.{still}
use Rattle.ap_fst.specs.declared.graph.Arc.{Arc}
use Rattle.ap_fst.proofs.Coverings.{next_by}
use Rattle.ap_fst.proofs.covering.is_next.Goals as goal

pub returns-then-from-to : goal.returns-then-from-to
returns-then-from-to c = λ moves h t. still c.if-from-to.true

pub returns-then-have_one_hub : goal.returns-then-have_one_hub
returns-then-have_one_hub c = λ moves h t. c.have_one_hub.ensures moves h (search rules)

pub returns : goal.returns
returns c = λ moves h t.
    next_by moves c.args.arcs.now c.args.from c.args.to c.few.result.now h
    (λ b i. subst (λ (z : List Arc). IsIn b z) c.entering.ensures (c.few.ensures b i))
    (c.is_entered.ensures t)
