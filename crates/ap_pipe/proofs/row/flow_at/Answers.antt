use Rattle.std.proofs.Common.{◌∙◌, true}
use Rattle.ap_pipe.proofs.Rows as rows
use Rattle.ap_pipe.proofs.row.flow_at.Goals as goal

pub returns-in_err-step_at-2-clause-holds : goal.returns-in_err-step_at-2-clause-holds
returns-in_err-step_at-2-clause-holds g c =
    λ room all. c.step_at-in-loop.ensures.holds room (c.loop.invariant.holds room all)

pub loop-preserved : goal.loop-preserved
loop-preserved g c = record {
  len = c.step_at-in-loop.ensures.len ∙ c.loop.invariant.len;
  ran = rows.ran_on g.S.Stage g.met.S.Stage.rest_is c.args.closed _ _ _ true _
      c.loop.invariant.ran c.in_ok-step_at-2.ensures.ran;
  holds = λ room all. c.step_at-in-loop.ensures.holds room (c.loop.invariant.holds room all);
}

pub returns-then-not-branch-2-clause-ran : goal.returns-then-not-branch-2-clause-ran
returns-then-not-branch-2-clause-ran g c =
    rows.ran_on g.S.Stage g.met.S.Stage.rest_is c.args.closed _ _ _ true _
    c.loop.invariant.ran c.in_ok-step_at-2.ensures.ran

pub returns-then-not-branch-2-clause-holds : goal.returns-then-not-branch-2-clause-holds
returns-then-not-branch-2-clause-holds g c =
    λ room all. c.step_at-in-loop.ensures.holds room (c.loop.invariant.holds room all)
