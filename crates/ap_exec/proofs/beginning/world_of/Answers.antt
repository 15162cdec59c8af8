use Rattle.ap_exec.proofs.Begins.{definitions_are}
use Rattle.ap_exec.proofs.beginning.world_of.Goals as goal

pub returns-clause-definitions : goal.returns-clause-definitions
returns-clause-definitions c =
    definitions_are c.args.rules.now c.as_slice.result.now c.as_slice-2.result.now
    c.deref.result.now
    c.as_slice.ensures c.as_slice-2.ensures c.deref.ensures.value
