use Rattle.ap_exec.proofs.Stacking.{nested_higher, on_ok}
use Rattle.ap_exec.proofs.running.run_statement.Goals as goal

pub returns-in-Let-clause-nested : goal.returns-in-Let-clause-nested
returns-in-Let-clause-nested c =
    on_ok c.assign.result (nested_higher 0 c.args.stack.now.frames.items c.args.scope.to _
    c.requires.is_scope.within c.requires.below)

pub returns-in-Append-clause-nested : goal.returns-in-Append-clause-nested
returns-in-Append-clause-nested c =
    on_ok c.append.result (nested_higher 0 c.args.stack.now.frames.items c.args.scope.to _
    c.requires.is_scope.within c.requires.below)

pub returns-in-Out-clause-nested : goal.returns-in-Out-clause-nested
returns-in-Out-clause-nested c =
    on_ok c.put_out.result (nested_higher 0 c.args.stack.now.frames.items c.args.scope.to _
    c.requires.is_scope.within c.requires.below)

pub returns-in-ModifyCase-clause-nested : goal.returns-in-ModifyCase-clause-nested
returns-in-ModifyCase-clause-nested c =
    on_ok c.modify_case.result
    (nested_higher 0 c.args.stack.now.frames.items c.args.scope.to _ c.requires.is_scope.within
    c.requires.below)
