use Rattle.std.proofs.Common.{◌∙◌, ap, subst, ℕ, List}
use Rattle.std.specs.Option.{MatchOption}
use Rattle.ap_fst.specs.Silence.{is_silent, IsOnEmptyCycle, IsFirstOnEmptyCycle}
use Rattle.ap_fst.specs.declared.label.Edge.{Edge}
use Rattle.ap_fst.proofs.WalkLaws.{silent_sorted}
use Rattle.ap_fst.proofs.SilenceLaws.{silent_arcs_of}
use Rattle.ap_fst.proofs.cycles.empty_cycle.Goals as goal

pub component_numbers-requires : goal.component_numbers-requires
component_numbers-requires c =
    silent_sorted c.args.fst.now.edges is_silent c.as_slice.result.now
    c.edges-edges.ensures.sound.edges_ascend (c.as_slice.ensures.value ∙ c.in_ok-arcs.ensures
    ∙ ap silent_arcs_of c.edges-edges.ensures.value)

pub first_by_numbers-requires-clause-sorted : goal.first_by_numbers-requires-clause-sorted
first_by_numbers-requires-clause-sorted c =
    silent_sorted c.args.fst.now.edges is_silent c.as_slice-2.result.now
    c.edges-edges.ensures.sound.edges_ascend (c.as_slice-2.ensures.value ∙ c.in_ok-arcs.ensures
    ∙ ap silent_arcs_of c.edges-edges.ensures.value)

pub returns : goal.returns
returns c = subst (λ (z : List Edge). MatchOption c.in_ok-answer.answer ((j : ℕ) →
    IsOnEmptyCycle z j → ⊥) (λ j. IsFirstOnEmptyCycle z j)) c.edges-edges.ensures.value
    c.in_ok-answer.ensures
