use Rattle.std.proofs.Common.{◌≡◌, ◌∙◌, Ok, ap, ◌<◌, ◌≤◌, Some, ℕ, arith, length, subst}
use Rattle.ap_live.specs.Fitting.{Input}
use Rattle.ap_live.specs.Trails.{Spreads}
use Rattle.ap_live.proofs.NodeLaws.{grows_more}
use Rattle.ap_live.proofs.Outlining.{some_at}
use Rattle.ap_live.proofs.TrailLaws.{grows_length, spreads_more}
use Rattle.ap_live.proofs.node_rows.enter_all.Goals as goal

pub loop-at-preserved : goal.loop-at-preserved
loop-at-preserved c =
    let at : ℕ = c.loop-at.at in
    let low : c.args.low ≤ at = c.loop-at.invariant.low in
    let high : at < c.args.high = c.loop-at-test.true in
    let within : c.args.high ≤ length c.args.nodes.now.items = c.requires.within in
    let more : length c.args.nodes.now.items ≤ length c.loop-at.nodes.items =
    grows_length c.args.nodes.now.items c.loop-at.nodes.items c.loop-at.invariant.grown in
    record {
      low = omega arith;
      grown = grows_more c.args.nodes.now.items c.loop-at.nodes.items c.enter.new.nodes.items
          c.loop-at.invariant.grown c.enter.ensures.grown;
      spreads = λ is. let (x, there) = some_at c.loop-at.nodes.items at (omega arith) in
          spreads_more c.args.fst.now.edges
          (Some (let i : Input = record { symbol = c.args.input.now; sensitive = c.args.sensitive }
          in i)) c.args.low at c.args.nodes.now.items c.loop-at.nodes.items
          c.enter.new.nodes.items x (c.loop-at.invariant.spreads is) there
          (c.enter.ensures.entered (c.in_ok-enter.was ∙ ap Ok c.if-not-branch.false) is x there) low;
    }

pub returns-clause-entered : goal.returns-clause-entered
returns-clause-entered c = λ ok is.
    let at : c.loop-at.at ≡ c.args.high = omega (arith, c.loop-at-test.false, c.loop-at.auto.at-end c.requires.rises) in
    subst (λ (z : ℕ). Spreads c.args.fst.now.edges
    (Some (let i : Input = record { symbol = c.args.input.now; sensitive = c.args.sensitive } in i))
    c.args.low z c.args.nodes.now.items c.loop-at.nodes.items) at (c.loop-at.invariant.spreads is)
