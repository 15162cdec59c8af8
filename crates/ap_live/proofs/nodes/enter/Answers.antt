use Rattle.std.proofs.Common.{◌≡◌, ◌∙◌, Some, subst}
use Rattle.std.proofs.lemmas.Option.{get_or_from_slice_get}
use Rattle.ap_live.specs.Fitting.{Input}
use Rattle.ap_live.specs.Spreads.{AnyPlace}
use Rattle.ap_live.specs.Trails.{AddsNodes}
use Rattle.ap_live.specs.declared.nodes.Node.{Node}
use Rattle.ap_live.proofs.nodes.enter.Goals as goal

pub returns-clause-entered : goal.returns-clause-entered
returns-clause-entered c = λ e is x at.
    let input : Input = record { symbol = c.args.input.now; sensitive = c.args.sensitive } in
    let same : c.index.result.now ≡ x = c.index.ensures
    ∙ get_or_from_slice_get c.args.nodes.now.items c.args.at x c.index.result.now at in
    subst (λ (z : Node). AddsNodes c.args.fst.now.edges (Some input) z.state AnyPlace c.args.at
    c.args.nodes.now.items c.push_fitting.new.nodes.items) same
    (c.in_ok-push_fitting.ensures.added is
    (c.span_in.ensures.span c.args.fst.now.edges c.in-Some.first c.in-Some.last c.in-Some.codes
    c.in-Some.is is)
    (c.span_in.ensures.codes c.args.fst.now.edges c.in-Some.first c.in-Some.last c.in-Some.codes
    c.in-Some.is is))
