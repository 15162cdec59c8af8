use Rattle.std.proofs.Common.{List, map, ◌∙◌, subst, sym}
use Rattle.ap_fst.specs.Graphs.{arc_to, Grows}
use Rattle.ap_fst.proofs.Growing.{reaching_begun, reaching_on, reached_all, none_from_not}
use Rattle.ap_fst.specs.declared.graph.Arc.{Arc}
use Rattle.ap_fst.proofs.graph.reach_into.Goals as goal

pub loop-state-init : goal.loop-state-init
loop-state-init c = reaching_begun c.args.arcs.now c.args.starts.now c.args.set c.add_states.new.set
    c.requires.empty c.in_ok-add_states.ensures

pub loop-state-preserved : goal.loop-state-preserved
loop-state-preserved c =
    let P : List Arc → Type 0 = λ z. Grows c.loop-state.set (map arc_to z) c.add_targets.new.set in
    reaching_on c.args.arcs.now c.args.starts.now c.loop-state.set c.add_targets.new.set
    c.loop-state.at c.in-Some.state (sym c.in-Some.is ∙ c.get.ensures.value)
    (subst P c.arcs_by.ensures c.in_ok-add_targets.ensures) c.loop-state.invariant

pub returns : goal.returns
returns c = λ s. (
  c.loop-state.invariant.sound s,
  reached_all c.args.arcs.now c.args.starts.now c.loop-state.set c.loop-state.at s
      (none_from_not c.get.result c.in_default.not-Some ∙ c.get.ensures.value)
      c.loop-state.invariant,
)
