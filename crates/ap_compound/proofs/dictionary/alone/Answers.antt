use Rattle.std.proofs.Common.{◌∙◌, ap}
use Rattle.std.specs.List.{filter}
use Rattle.ap_compound.specs.Plain.{stays_alone}
use Rattle.ap_compound.proofs.Plains.{alone_is_machine}
use Rattle.ap_compound.proofs.dictionary.alone.Goals as goal

pub build-requires : goal.build-requires
build-requires c = alone_is_machine c.args.fst.now c.states.result c.in_ok-edges.edges
    c.in_ok-finals.finals c.states.ensures.sound c.states.ensures.value
    (c.in_ok-edges.ensures ∙ ap (filter stays_alone) c.edges.ensures.value)
    (c.in_ok-finals.ensures ∙ c.finals.ensures.value)
