use Rattle.std.proofs.Common.{arith, ◌≤◌, List, length, subst, sym}
use Rattle.ap_fst.specs.Machines.{Machine}
use Rattle.ap_fst.specs.declared.label.Edge.{Edge}
use Rattle.ap_trim.specs.Products.{AddsOuts}
use Rattle.ap_trim.specs.Sections.{IsKeptOf}
use Rattle.ap_trim.proofs.Products.{product_begun, product_on, is_machine, accepts_kept}
use Rattle.ap_trim.proofs.product.product.Goals as goal

pub pairs-init : goal.pairs-init
pairs-init c = product_begun c.args.mono.now c.args.bilingual.now c.begin.new.sets
    c.new-pairs.result c.number.new.self c.in_ok-watch.watch c.in_ok-number.field-0
    c.new-edges.result c.new-finals.result
    c.in_ok-watch.ensures c.new-pairs.ensures c.in_ok-number.ensures c.new-edges.ensures
    c.new-finals.ensures

pub pairs-preserved : goal.pairs-preserved
pairs-preserved c = product_on c.args.mono.now c.args.bilingual.now c.states-states.ensures.sound
    c.requires c.pairs.number c.pairs.sets c.add_outs.new.sets c.pairs.pairs c.add_outs.new.pairs
    c.pairs.edges c.add_outs.new.edges c.pairs.finals c.add_final.new.finals
    c.get-pair.result c.pairs.invariant c.get-pair.ensures c.in_ok-add_final.ensures
    (subst (λ (z : List Edge). AddsOuts c.args.bilingual.now c.get-pair.result.watch c.pairs.number
    z c.pairs.sets c.add_outs.new.sets c.pairs.pairs c.add_outs.new.pairs c.pairs.edges
    c.add_outs.new.edges) c.edges_from-exits.ensures.value c.in_ok-add_outs.ensures)

pub build-requires : goal.build-requires
build-requires c =
    let made : Machine = record {
      states = c.len-2.result;
      edges = c.pairs.edges;
      finals =
          c.pairs.finals;
    } in
    is_machine c.args.mono.now c.args.bilingual.now made c.states-states.ensures.sound
    c.pairs.number c.pairs.sets c.pairs.pairs c.pairs.invariant c.len-2.ensures

pub returns : goal.returns
returns c =
    let made : Machine = record {
      states = c.len-2.result;
      edges = c.pairs.edges;
      finals =
          c.pairs.finals;
    } in
    let done : length c.pairs.pairs ≤ c.pairs.number = omega arith in
    subst (λ (z : Machine). IsKeptOf c.args.mono.now c.args.bilingual.now z) (sym c.build.ensures)
    (accepts_kept c.args.mono.now c.args.bilingual.now made c.states-states.ensures.sound
    c.pairs.number c.pairs.sets c.pairs.pairs c.pairs.invariant done)
