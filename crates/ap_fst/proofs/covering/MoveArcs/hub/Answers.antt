use Rattle.std.proofs.Common.{rules}
use Rattle.ap_fst.proofs.Coverings.{lead_back, lead_here}
use Rattle.ap_fst.proofs.covering.MoveArcs.hub.Goals as goal

pub returns-then-have_one_hub : goal.returns-then-have_one_hub
returns-then-have_one_hub c = λ moves h. lead_back moves c.args.self.now.finish c.args.state
    c.back-hub.result (c.back-hub.ensures moves h) (c.have_one_hub.ensures moves h (search rules))

pub returns : goal.returns
returns c = λ moves h. lead_here moves c.args.self.now.finish c.args.state
