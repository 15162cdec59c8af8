use Rattle.std.proofs.Common.{◌-◌, length, take, drop}
use Rattle.ap_exec.proofs.Proper.{proper_drop, proper_take}
use Rattle.ap_exec.proofs.clips.cut.Goals as goal

pub returns-clause-proper : goal.returns-clause-proper
returns-clause-proper c =
    let word = c.args.word.now in
    let rest = drop c.min-start.result word in
    proper_take c.min-count.result (take (length word - c.min-start.result) rest)
    (proper_take (length word - c.min-start.result) rest
    (proper_drop c.min-start.result word c.requires))
