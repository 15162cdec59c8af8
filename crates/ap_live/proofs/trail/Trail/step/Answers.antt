use Rattle.std.proofs.Common.{◌≡◌, ◌++◌, ◌∙◌, ◌∷◌, [], List, ap, length, refl, subst, sym, ℕ}
use Rattle.ap_symbol.specs.declared.symbol.Symbol.{Symbol}
use Rattle.ap_live.specs.Fitting.{Input}
use Rattle.ap_live.specs.Trails.{AreWays, Grows, IsTrail, Trails, input_of}
use Rattle.ap_live.specs.declared.nodes.Node.{Node}
use Rattle.ap_live.specs.declared.taken.Taken.{Taken}
use Rattle.ap_live.proofs.TrailLaws.{trail_as, trail_step, view_length}
use Rattle.ap_live.proofs.trail.Trail.step.Goals as goal

pub returns-else-not-is_made-clause-stepped : goal.returns-else-not-is_made-clause-stepped
returns-else-not-is_made-clause-stepped c = λ ok seen outlined is.
    let edges = c.args.fst.now.edges in
    let own : IsTrail edges seen (record {
      nodes = c.self.inside.nodes.items;
      firsts = c.self.inside.firsts.items;
      inputs = c.self.inside.inputs.items;
    }) = subst (λ (z : Trails). IsTrail edges seen z) (sym c.self.view_is) is in
    let input : Input = record { symbol = c.args.input.now; sensitive = c.args.sensitive } in
    let x : Taken = record { symbol = c.in_ok-symbol.symbol; sensitive = c.args.sensitive } in
    let x_is : input_of x ≡ input =
    ap (λ (z : Symbol). input_of (record { symbol = z; sensitive = c.args.sensitive }))
    c.in_ok-symbol.ensures in
    let ways : AreWays edges c.add_nodes-made.new.nodes.items (seen ++ input ∷ [])
    (length c.self.inside.nodes.items) (length c.add_nodes-made.new.nodes.items) =
    subst (λ (z : List Node). AreWays edges c.add_nodes-made.new.nodes.items (seen ++ input ∷ [])
    (length z) (length c.add_nodes-made.new.nodes.items)) refl
    (c.add_nodes-made.ensures.added ok outlined seen
    (subst (λ (z : List Node). AreWays edges z seen c.low-low.result (length z))
    (sym (ap (λ (t : Trails). t.nodes) c.self.view_is)) (c.low-low.ensures.row edges seen is))) in
    let grown : Grows c.self.inside.nodes.items c.add_nodes-made.new.nodes.items =
    c.add_nodes-made.ensures.grown in
    let made = trail_step edges seen _ c.add_nodes-made.new.nodes.items x own grown
    (subst (λ (z : Input). AreWays edges c.add_nodes-made.new.nodes.items (seen ++ z ∷ [])
    (length c.self.inside.nodes.items) (length c.add_nodes-made.new.nodes.items)) (sym x_is) ways) in
    trail_as edges (seen ++ input ∷ []) c.add_nodes-made.new.nodes.items
    c.add_nodes-made.new.nodes.items c.add_first.new.firsts.items
    (c.self.inside.firsts.items ++ length c.self.inside.nodes.items ∷ []) c.push.new.self.items
    (c.self.inside.inputs.items ++ x ∷ []) refl
    (c.add_first.ensures.added c.if-not-add_first.false ∙ ap (λ (k : ℕ).
    c.self.inside.firsts.items ++ k ∷ []) (view_length c.self.inside.nodes
    c.self.inside.nodes.items c.len-high.result c.len-high.ensures refl)) c.in_ok-push.ensures.items
    (subst (λ (z : Input). IsTrail edges (seen ++ z ∷ []) (record {
      nodes = c.add_nodes-made.new.nodes.items;
      firsts = c.self.inside.firsts.items ++ length c.self.inside.nodes.items ∷ [];
      inputs = c.self.inside.inputs.items ++ x ∷ [];
    })) x_is made)
