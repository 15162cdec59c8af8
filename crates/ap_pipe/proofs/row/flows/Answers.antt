use Rattle.std.proofs.Common.{ap, Ok, arith, ◌∙◌}
use Rattle.ap_pipe.proofs.Moving as moving
use Rattle.ap_pipe.proofs.row.flows.Goals as goal

pub returns-in_err-went-clause-holds : goal.returns-in_err-went-clause-holds
returns-in_err-went-clause-holds g c =
    λ room all. c.flow_at.ensures.holds room (c.loop-at.invariant.holds room all)

pub loop-at-preserved : goal.loop-at-preserved
loop-at-preserved g c =
    let len = c.loop-at.invariant.len in
    record {
      len = c.flow_at.ensures.len ∙ len;
      flowing = moving.flowing_on g.S.Stage g.met.S.Stage.rest_is
          c.args.closed _ _ _ _ _ _ (omega (
            arith,
            c.loop-at-test.true,
            c.saturating_sub-last.ensures,
            len,
          )) c.loop-at.invariant.flowing c.in_ok-went.ensures.ran
          (λ none. c.in_ok-went.ensures.blocked (ap Ok none));
      holds = λ room all. c.flow_at.ensures.holds room (c.loop-at.invariant.holds room all);
    }
