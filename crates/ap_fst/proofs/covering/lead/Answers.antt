use Rattle.ap_fst.proofs.Coverings.{lead_here, lead_on}
use Rattle.ap_fst.proofs.covering.lead.Goals as goal

pub returns-then-is_empty : goal.returns-then-is_empty
returns-then-is_empty c = λ moves h. lead_here moves c.args.arcs.now.finish c.args.state

pub returns : goal.returns
returns c = λ moves h. lead_on moves c.args.arcs.now.finish c.args.state c.passed_lead.result
    c.hub.result (c.passed_lead.ensures moves h) (c.hub.ensures moves h)
