use Rattle.std.proofs.Common.{arith}
use Rattle.std.proofs.lemmas.Result.{err_from_is_err_and}
use Rattle.ap_binary.specs.Lines.{finals_in}
use Rattle.ap_binary.proofs.Going.{finals_go, finals_stop, finals_done}
use Rattle.ap_binary.proofs.lines.finals.Goals as goal

pub returns-in_err-state-clause-gives : goal.returns-in_err-state-clause-gives
returns-in_err-state-clause-gives c =
    let p = err_from_is_err_and c.from_residual.result c.from_residual.ensures.1 in
    rw (p.1, p.2) (finals_stop c.in_err-state.field-0.0 c.finals.found c.args.count c.finals.k
    c.args.states c.finals.least c.args.line c.finals.rest.now
    (finals_in c.args.count c.args.states 0 c.args.line c.args.bytes.now)
    c.finals-test.true c.in_err-state.ensures.gives c.finals.invariant.meaning)

pub finals-preserved : goal.finals-preserved
finals-preserved c = record {
  room = omega (arith, c.in_ok-state.ensures.shorter, c.finals.invariant.room);
  meaning = rw c.in_ok-push.ensures.ok
      (finals_go c.finals.found c.args.count c.finals.k c.args.states c.finals.least c.args.line
      c.finals.rest.now c.in_ok-state.after.now c.in_ok-state.state
      (finals_in c.args.count c.args.states 0 c.args.line c.args.bytes.now)
      c.finals-test.true c.in_ok-state.ensures.gives c.finals.invariant.meaning);
}

pub returns-clause-gives : goal.returns-clause-gives
returns-clause-gives c =
    finals_done c.finals.found c.args.count c.finals.k c.args.states c.finals.least c.args.line
    c.finals.rest.now (finals_in c.args.count c.args.states 0 c.args.line c.args.bytes.now)
    c.finals-test.false c.finals.invariant.meaning
