use Rattle.std.proofs.Common.{◌∙◌, ap, refl, [], ◌∷◌}
use Rattle.ap_fst.specs.Silence.{is_silent}
use Rattle.ap_fst.proofs.WalkLaws.{silent_sorted}
use Rattle.ap_fst.proofs.SilenceLaws.{empty_side_by, silent_arcs_of}
use Rattle.ap_fst.proofs.silence.empty_side.Goals as goal

pub reach-requires : goal.reach-requires
reach-requires c = silent_sorted c.args.fst.now.edges is_silent c.as_slice.result.now
    c.edges.ensures.sound.edges_ascend (c.as_slice.ensures.value ∙ c.in_ok-arcs.ensures
    ∙ ap silent_arcs_of c.edges.ensures.value)

pub returns : goal.returns
returns c = empty_side_by c.args.fst.now c.as_slice.result.now (0 ∷ []) c.in_ok-reached.reached
    c.finals.result.now (c.as_slice.ensures.value ∙ c.in_ok-arcs.ensures
    ∙ ap silent_arcs_of c.edges.ensures.value) refl c.finals.ensures.value c.in_ok-reached.ensures
    c.holds_one_of-answer.result c.holds_one_of-answer.ensures
