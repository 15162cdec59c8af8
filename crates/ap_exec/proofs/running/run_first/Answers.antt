use Rattle.ap_rules.specs.Views.{plain_statement}
use Rattle.ap_exec.specs.Stacks.{left, rest_first, one_first}
use Rattle.ap_exec.specs.States.{run_state, definitions}
use Rattle.ap_exec.proofs.Stacking.{nested_higher, leads_from, first_leads}
use Rattle.ap_exec.proofs.running.run_first.Goals as goal

pub returns-in-None-clause-nested : goal.returns-in-None-clause-nested
returns-in-None-clause-nested c =
    nested_higher 0 c.args.stack.now.frames.items c.args.frame.scope.to _ c.requires.is_scope.within
    c.requires.below

pub returns-in_ok-push-in-Some-clause-leads : goal.returns-in_ok-push-in-Some-clause-leads
returns-in_ok-push-in-Some-clause-leads c =
    let w = definitions c.args.world in
    let s = run_state c.args.world c.args.state.now in
    leads_from c.run_statement.result
    (rest_first w c.args.stack.now c.args.frame.scope c.args.frame.rest.now s)
    (one_first w c.push.new.self c.args.frame.scope (plain_statement c.in-Some.statement.now) s)
    (left w c.run_statement.new.stack (run_state c.args.world c.run_statement.new.state))
    (first_leads w c.args.stack.now c.push.new.self c.args.frame.scope c.in-Some.statement.now
    c.in-Some.more.now c.args.frame.rest.now s c.in-Some.ensures.cases.0
    c.push.ensures.positions (c.in_ok-push-in-Some.ensures.left w))
    c.run_statement.ensures.leads
