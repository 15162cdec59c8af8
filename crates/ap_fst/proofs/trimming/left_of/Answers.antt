use Rattle.std.proofs.Common.{◌∙◌, ◌≡◌, length, subst, sym, refl}
use Rattle.ap_fst.specs.Machines.{Machine, IsMachine}
use Rattle.ap_fst.specs.Trimming.{trimmed_to}
use Rattle.ap_fst.proofs.Trims.{trimmed_is_machine, trim_made}
use Rattle.ap_fst.proofs.trimming.left_of.Goals as goal

pub build-requires : goal.build-requires
build-requires c =
    let made : Machine = record {
      states = c.max.result;
      edges = c.in_ok-edges.edges;
      finals =
          c.in_ok-finals.finals;
    } in
    let e : made ≡ trimmed_to c.args.states.now c.args.fst.now =
    trim_made c.args.fst.now made c.args.states.now c.args.states.now c.args.states.now
    c.edges.result.now c.finals.result.now (length c.args.states.now) refl refl
    c.edges.ensures.value c.finals.ensures.value
    refl c.max.ensures c.in_ok-edges.ensures
    c.in_ok-finals.ensures in
    subst IsMachine (sym e) (trimmed_is_machine c.args.states.now c.args.fst.now
    c.requires.ascend c.edges.ensures.sound)

pub returns : goal.returns
returns c =
    let made : Machine = record {
      states = c.max.result;
      edges = c.in_ok-edges.edges;
      finals =
          c.in_ok-finals.finals;
    } in
    c.build.ensures ∙ trim_made c.args.fst.now made c.args.states.now c.args.states.now
    c.args.states.now c.edges.result.now c.finals.result.now (length c.args.states.now) refl refl
    c.edges.ensures.value c.finals.ensures.value
    refl c.max.ensures c.in_ok-edges.ensures
    c.in_ok-finals.ensures
