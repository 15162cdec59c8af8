use Rattle.std.proofs.Common.{◌≡◌, ◌∙◌, subst}
use Rattle.std.proofs.lemmas.Option.{get_or_from_slice_get}
use Rattle.ap_fst.specs.Machines.{IsSpan}
use Rattle.ap_live.specs.declared.nodes.Node.{Node}
use Rattle.ap_live.proofs.nodes.enter_silently.Goals as goal

pub returns-clause-entered : goal.returns-clause-entered
returns-clause-entered c = λ e is x at.
    let same : c.index.result.now ≡ x = c.index.ensures
    ∙ get_or_from_slice_get c.args.nodes.now.items c.args.at x c.index.result.now at in
    let span : IsSpan c.args.fst.now.edges x.state c.in-Some.first c.in-Some.last =
    subst (λ (z : Node). IsSpan c.args.fst.now.edges z.state c.in-Some.first c.in-Some.last) same
    (c.span_in.ensures.span c.args.fst.now.edges c.in-Some.first c.in-Some.last c.in-Some.codes
    c.in-Some.is is) in
    c.in_ok-push_silent.ensures.added c.args.fst.now.edges x.state is
    c.states.ensures.sound.edges_ascend span
    (c.span_in.ensures.codes c.args.fst.now.edges c.in-Some.first c.in-Some.last c.in-Some.codes
    c.in-Some.is is)
