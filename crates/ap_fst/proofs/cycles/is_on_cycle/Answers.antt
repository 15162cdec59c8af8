use Rattle.std.proofs.Common.{◌≡◌, ◌∙◌, sym, refl, [], ◌∷◌, false}
use Rattle.std.specs.Option.{is_some}
use Rattle.ap_fst.proofs.CycleLaws.{on_cycle_by}
use Rattle.ap_fst.proofs.cycles.is_on_cycle.Goals as goal

pub returns : goal.returns
returns c =
    let none : is_some c.in-Some.edge.now.label.left ≡ false =
    sym c.is_some.ensures ∙ c.if-is_some.false in
    on_cycle_by c.args.edges.now c.args.arcs.now c.in_ok-reached.reached
    (c.in-Some.edge.now.to ∷ []) c.args.at c.in-Some.edge.now c.contains-answer.result
    c.requires.arcs (sym c.in-Some.ensures) none refl c.in_ok-reached.ensures
    c.contains-answer.ensures
