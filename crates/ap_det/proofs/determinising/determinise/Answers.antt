use Rattle.std.proofs.Common.{arith, ◌≡◌, ◌<◌, ◌≤◌, ℕ, List, None, length, subst, sym, ◌∙◌}
use Rattle.std.specs.Prelude.{◌↔◌}
use Rattle.ap_fst.specs.Machines.{Machine}
use Rattle.ap_fst.specs.Trimming.{IsTrimmed}
use Rattle.ap_fst.specs.Walks.{AcceptsLabels}
use Rattle.ap_fst.specs.declared.label.Edge.{Edge}
use Rattle.ap_det.specs.Determinism.{IsDeterministic}
use Rattle.ap_det.specs.Exits.{edge_at, RisesByLabel}
use Rattle.ap_det.proofs.Numberings.{numbered_first}
use Rattle.ap_det.proofs.Sorting.{all_named}
use Rattle.ap_det.proofs.Constructing.{subsets_begun, subsets_step}
use Rattle.ap_det.proofs.DetLaws.{is_machine, is_deterministic, accepts_same, is_trimmed}
use Rattle.ap_det.proofs.determinising.determinise.Goals as goal

pub sets-init : goal.sets-init
sets-init c = subsets_begun c.args.fst.now c.number.new.self c.new-edges.result c.new-finals.result
    (numbered_first c.new-sets.result c.number.new.self _ c.in_ok-number.field-0 c.new-sets.ensures
    c.in_ok-number.ensures) c.new-edges.ensures c.new-finals.ensures

pub add_groups-requires-clause-rises : goal.add_groups-requires-clause-rises
add_groups-requires-clause-rises c =
    subst (λ (z : List Edge). RisesByLabel (edge_at z c.as_slice.result.now))
    (sym c.edges-exits.ensures.value)
    (subst (λ (z : List ℕ). RisesByLabel (edge_at c.args.fst.now.edges z))
    (sym c.as_slice.ensures.value) c.in_ok-places.ensures.rises)

pub add_groups-requires-clause-there : goal.add_groups-requires-clause-there
add_groups-requires-clause-there c =
    subst (λ (z : List Edge). (k : ℕ) → k < length c.as_slice.result.now →
    edge_at z c.as_slice.result.now k ≡ None → ⊥) (sym c.edges-exits.ensures.value)
    (subst (λ (z : List ℕ). (k : ℕ) → k < length z → edge_at c.args.fst.now.edges z k ≡ None → ⊥)
    (sym c.as_slice.ensures.value)
    (all_named c.args.fst.now.edges c.get-in-sets.result.now c.in_ok-places.places.items
    c.in_ok-places.ensures.exactly))

pub sets-preserved : goal.sets-preserved
sets-preserved c = subsets_step c.args.fst.now c.get.result.now c.get-in-sets.result.now
    c.in_ok-places.places.items c.as_slice.result.now c.edges-exits.result.now c.sets.number
    c.sets.sets c.add_groups.new.sets c.sets.edges c.add_groups.new.made
    c.sets.finals c.add_final.new.finals c.edges-exits.ensures.sound c.sets.invariant c.get.ensures
    c.get-in-sets.ensures c.in_ok-add_final.ensures c.in_ok-places.ensures.exactly
    c.edges-exits.ensures.value c.as_slice.ensures.value c.in_ok-add_groups.ensures

pub build-requires : goal.build-requires
build-requires c =
    let made : Machine = record {
      states = c.len-2.result;
      edges = c.sets.edges;
      finals =
          c.sets.finals;
    } in
    is_machine c.args.fst.now made c.sets.number c.sets.sets c.sets.invariant c.len-2.ensures

pub of-requires : goal.of-requires
of-requires c =
    let made : Machine = record {
      states = c.len-2.result;
      edges = c.sets.edges;
      finals =
          c.sets.finals;
    } in
    subst (λ (z : Machine). IsDeterministic z) (sym c.build.ensures)
    (is_deterministic c.args.fst.now made c.sets.number c.sets.sets c.sets.invariant)

pub returns-clause-same : goal.returns-clause-same
returns-clause-same c = λ w.
    let made : Machine = record {
      states = c.len-2.result;
      edges = c.sets.edges;
      finals =
          c.sets.finals;
    } in
    let done : length c.sets.sets ≤ c.sets.number = omega arith in
    subst (λ (z : Machine). AcceptsLabels z w ↔ AcceptsLabels c.args.fst.now w)
    (sym (c.of.ensures ∙ c.build.ensures))
    (accepts_same c.args.fst.now made c.sets.number c.sets.sets c.sets.invariant done w)

pub returns-clause-one : goal.returns-clause-one
returns-clause-one c =
    let made : Machine = record {
      states = c.len-2.result;
      edges = c.sets.edges;
      finals =
          c.sets.finals;
    } in
    subst (λ (z : Machine). IsDeterministic z) (sym (c.of.ensures ∙ c.build.ensures))
    (is_deterministic c.args.fst.now made c.sets.number c.sets.sets c.sets.invariant)

pub returns-clause-trimmed : goal.returns-clause-trimmed
returns-clause-trimmed c = λ trimmed.
    let made : Machine = record {
      states = c.len-2.result;
      edges = c.sets.edges;
      finals =
          c.sets.finals;
    } in
    let done : length c.sets.sets ≤ c.sets.number = omega arith in
    subst (λ (z : Machine). IsTrimmed z) (sym (c.of.ensures ∙ c.build.ensures))
    (is_trimmed c.args.fst.now made c.sets.number c.sets.sets c.sets.invariant c.len-2.ensures
    done c.edges-exits.ensures.sound trimmed)
