use Rattle.std.proofs.Common.{◌≡◌, ◌++◌, ◌∷◌, [], sym, subst, ℕ}
use Rattle.ap_live.specs.Fitting.{pick_of}
use Rattle.ap_live.specs.Spreads.{Adds, arrival}
use Rattle.ap_live.proofs.Spreading.{spread_edge}
use Rattle.ap_live.proofs.rows.add_arrival.Goals as goal

pub returns : goal.returns
returns c = λ edges e at to good. spread_edge edges (pick_of c.args.pick) c.args.edge
    c.args.states.now.items c.args.links.now.items c.enter.new.states.items c.push.new.self.items
    e at good
    (subst (λ (z : ℕ). Adds (pick_of c.args.pick) c.args.states.now.items z
    c.enter.new.states.items) (sym to) c.in_ok-enter.ensures)
    (subst (λ (z : ℕ). c.push.new.self.items
    ≡ c.args.links.now.items ++ arrival z c.args.edge ∷ []) (sym to) c.in_ok-push.ensures.items)
