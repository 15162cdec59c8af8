use Rattle.std.proofs.Common.{◌≡◌, ◌++◌, ◌∷◌, ◌∙◌, [], List, None, ap, length, subst}
use Rattle.ap_live.specs.Trails.{Spreads, node}
use Rattle.ap_live.specs.declared.nodes.Node.{Node}
use Rattle.ap_live.proofs.TrailLaws.{base_start, closed_ways}
use Rattle.ap_live.proofs.node_rows.first_nodes.Goals as goal

pub returns : goal.returns
returns c = λ ok is.
    let one : c.push.new.self.items ≡ node 0 0 0 ∷ [] = c.in_ok-push.ensures.items
    ∙ ap (λ (z : List Node). z ++ node 0 0 0 ∷ []) c.requires in
    closed_ways c.args.fst.now.edges [] 0 (node 0 0 0 ∷ []) c.close_nodes.new.nodes.items
    (base_start c.args.fst.now.edges)
    (subst (λ (z : List Node). Spreads c.args.fst.now.edges None 0
    (length c.close_nodes.new.nodes.items) z c.close_nodes.new.nodes.items) one
    (c.close_nodes.ensures.closed ok is))
