use Rattle.std.proofs.Common.{◌≡◌, ◌∙◌, List, Ok, Some, None, ap, arith, length, subst, ℕ}
use Rattle.ap_live.specs.Fitting.{Input}
use Rattle.ap_live.specs.Trails.{Spreads}
use Rattle.ap_live.specs.declared.nodes.Node.{Node}
use Rattle.ap_live.proofs.TrailLaws.{base_next, closed_ways}
use Rattle.ap_live.proofs.node_rows.add_nodes.Goals as goal

pub returns-clause-added : goal.returns-clause-added
returns-clause-added c = λ ok is seen ways.
    let edges = c.args.fst.now.edges in
    let old : List Node = c.args.nodes.now.items in
    let mid : List Node = c.enter_all.new.nodes.items in
    let new : List Node = c.close_nodes.new.nodes.items in
    let input : Input = record { symbol = c.args.input.now; sensitive = c.args.sensitive } in
    let high : c.len-high.result ≡ length old = omega (arith, c.len-high.ensures, c.args.nodes.now.ok.0) in
    let first : Spreads edges (Some input) c.args.low (length old) old mid =
    subst (λ (z : ℕ). Spreads edges (Some input) c.args.low z old mid) high
    (c.enter_all.ensures.entered (c.in_ok-enter_all.was ∙ ap Ok c.if-not-branch.false) is) in
    let second : Spreads edges None (length old) (length new) mid new =
    subst (λ (z : ℕ). Spreads edges None z (length new) mid new) high
    (c.close_nodes.ensures.closed ok is) in
    closed_ways edges _ (length old) mid new
    (base_next edges seen input c.args.low old mid ways first) second
