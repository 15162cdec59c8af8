use Rattle.std.proofs.Common.{subst, List}
use Rattle.ap_fst.specs.Lists.{IsIn}
use Rattle.ap_fst.specs.declared.graph.Arc.{Arc}
use Rattle.ap_fst.proofs.Coverings.{lead_here, lead_found}
use Rattle.ap_fst.proofs.covering.passed_lead.Goals as goal

pub returns-then-not-is_passed_on : goal.returns-then-not-is_passed_on
returns-then-not-is_passed_on c = λ moves h. lead_here moves c.args.arcs.now.finish c.args.state

pub returns-in_default : goal.returns-in_default
returns-in_default c = λ moves h. lead_here moves c.args.arcs.now.finish c.args.state

pub returns : goal.returns
returns c = λ moves h.
    lead_found moves c.args.arcs.now c.args.state c.in-Some.found c.quiet_from.result.now h
    (λ b i. subst (λ (z : List Arc). IsIn b z) c.quiet_from.ensures i) (c.in-Some.ensures moves h)
