use Rattle.std.proofs.Common.{◌≡◌, arith, List, None, ap, ◌∙◌}
use Rattle.std.specs.Option.{option_copied}
use Rattle.std.proofs.lemmas.Result.{err_from_is_err_and}
use Rattle.ap_fst.specs.declared.label.Edge.{Edge}
use Rattle.ap_binary.specs.Lines.{edges_in}
use Rattle.ap_binary.proofs.Going.{edges_go, edges_stop, edges_done, last_of}
use Rattle.ap_binary.proofs.lines.edges.Goals as goal

pub returns-in_err-edge-clause-gives : goal.returns-in_err-edge-clause-gives
returns-in_err-edge-clause-gives c =
    let p = err_from_is_err_and c.from_residual.result c.from_residual.ensures.1 in
    let last : option_copied c.last-before.result ≡ last_of c.edges.found =
    c.last-before.ensures.value ∙ ap (λ (z : List Edge). last_of z) c.as_slice.ensures in
    rw (p.1, p.2) (edges_stop c.in_err-edge.field-0.0 c.edges.found c.args.count c.edges.k
    c.args.states c.args.line (option_copied c.last-before.result) c.edges.rest.now
    (edges_in c.args.count c.args.states None c.args.line c.args.bytes.now)
    c.edges-test.true last c.in_err-edge.ensures.gives c.edges.invariant.meaning)

pub edges-preserved : goal.edges-preserved
edges-preserved c =
    let last : option_copied c.last-before.result ≡ last_of c.edges.found =
    c.last-before.ensures.value ∙ ap (λ (z : List Edge). last_of z) c.as_slice.ensures in
    record {
      room = omega (arith, c.in_ok-edge.ensures.shorter, c.edges.invariant.room);
      meaning = rw c.in_ok-push.ensures.ok
          (edges_go c.edges.found c.args.count c.edges.k c.args.states c.args.line
          (option_copied c.last-before.result) c.edges.rest.now c.in_ok-edge.after.now
          c.in_ok-edge.edge (edges_in c.args.count c.args.states None c.args.line c.args.bytes.now)
          c.edges-test.true last c.in_ok-edge.ensures.gives c.edges.invariant.meaning);
    }

pub returns-clause-gives : goal.returns-clause-gives
returns-clause-gives c =
    edges_done c.edges.found c.args.count c.edges.k c.args.states c.args.line c.edges.rest.now
    (edges_in c.args.count c.args.states None c.args.line c.args.bytes.now) c.edges-test.false
    c.edges.invariant.meaning
