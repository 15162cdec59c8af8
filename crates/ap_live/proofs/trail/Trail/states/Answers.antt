use Rattle.std.proofs.Common.{◌∙◌, List, ap, length, subst}
use Rattle.std.proofs.lemmas.Option.{IfSome_then}
use Rattle.ap_live.specs.Reached.{AreStatesOf}
use Rattle.ap_live.specs.Trails.{Trails}
use Rattle.ap_live.specs.declared.nodes.Node.{Node}
use Rattle.ap_live.proofs.Reached.{ways_states}
use Rattle.ap_live.proofs.trail.Trail.states.Goals as goal

pub returns : goal.returns
returns c = IfSome_then c.states_from.result c.states_from.ensures (λ states are edges seen is.
    ways_states edges c.args.self.now.nodes seen c.low.result states.items
    (c.low.ensures.row edges seen is)
    (subst (λ (z : List Node). AreStatesOf z c.low.result (length z) states.items)
    (c.as_slice.ensures.value ∙ ap (λ (t : Trails). t.nodes) c.self.view_is) are))
