use Rattle.std.proofs.Common.{subst, [], ◌∷◌}
use Rattle.ap_fst.specs.Covering.{ArcLists}
use Rattle.ap_fst.specs.Graphs.{Reaches}
use Rattle.ap_fst.proofs.Coverings.{quiet_to}
use Rattle.ap_fst.proofs.covering.MoveArcs.back.Goals as goal

pub returns : goal.returns
returns c = λ moves h. quiet_to moves c.args.self.now c.hub_of.result c.args.state h
    (subst (λ (z : ArcLists). Reaches z.entering (c.hub_of.result ∷ []) c.args.state)
    c.self.view_is (c.hub_of.ensures _ c.self.invariant.backs_are))
