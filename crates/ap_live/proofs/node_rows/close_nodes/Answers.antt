use Rattle.std.proofs.Common.{◌∙◌, Ok, ap, ◌≤◌, None, ℕ, arith}
use Rattle.ap_live.proofs.NodeLaws.{grows_more}
use Rattle.ap_live.proofs.Outlining.{some_at}
use Rattle.ap_live.proofs.TrailLaws.{spreads_all, spreads_more}
use Rattle.ap_live.proofs.node_rows.close_nodes.Goals as goal

pub returns-then-len-at-clause-closed : goal.returns-then-len-at-clause-closed
returns-then-len-at-clause-closed c = λ ok is. spreads_all c.args.fst.now.edges None c.args.low
    c.loop-at.at c.args.nodes.now.items c.loop-at.nodes.items (c.loop-at.invariant.spreads is)
    (omega (arith, c.len.ensures, c.loop-at.nodes.ok.0, c.if-len-at.true))

pub loop-at-preserved : goal.loop-at-preserved
loop-at-preserved c =
    let at : ℕ = c.loop-at.at in
    let low : c.args.low ≤ at = c.loop-at.invariant.low in
    record {
      low = omega arith;
      grown = grows_more c.args.nodes.now.items c.loop-at.nodes.items
          c.enter_silently.new.nodes.items c.loop-at.invariant.grown
          c.enter_silently.ensures.grown;
      spreads = λ is. let (x, there) = some_at c.loop-at.nodes.items at
          (omega (arith, c.len.ensures, c.loop-at.nodes.ok.0, c.if-len-at.false)) in
          spreads_more c.args.fst.now.edges None c.args.low at c.args.nodes.now.items
          c.loop-at.nodes.items c.enter_silently.new.nodes.items x
          (c.loop-at.invariant.spreads is) there
          (c.enter_silently.ensures.entered
          (c.in_ok-enter_silently.was ∙ ap Ok c.if-not-branch.false) is x there) low;
    }
