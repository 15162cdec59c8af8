use Rattle.ap_command.proofs.Storing.{stored-done, stored-write}
use Rattle.ap_command.proofs.compiling.store_compiled.Goals as goal

pub returns-in-Err-clause-stored : goal.returns-in-Err-clause-stored
returns-in-Err-clause-stored g c =
    λ making made. stored-write making c.args.out c.args.name.now c.in-Ok.text c.as_slice.result.now
    c.in-Ok-summary.lines c.as_slice-in-Ok-store.result.now _ _ _ _ c.args.compiled.now
    made c.as_slice.ensures c.in-Ok.ensures.text
    ((c.spells_texts.ensures _ _).0 c.in-Ok.ensures.reads) c.in-Ok-store.ensures.stored
    (c.in-Ok-store.ensures.load_cause.stays (λ e. cc))
    (c.in-Ok-store.ensures.cause.stays (λ e. cc))
    c.as_slice-in-Ok-store.ensures c.in-Ok-summary.ensures c.in-Err.ensures.failed
    c.in-Err.ensures.cause.failed

pub returns-clause-stored : goal.returns-clause-stored
returns-clause-stored g c =
    λ making made. stored-done making c.args.out c.args.name.now c.in-Ok.text c.as_slice.result.now
    c.in-Ok-summary.lines c.as_slice-in-Ok-store.result.now _ _ _ _ c.args.compiled.now
    made c.as_slice.ensures c.in-Ok.ensures.text
    ((c.spells_texts.ensures _ _).0 c.in-Ok.ensures.reads) c.in-Ok-store.ensures.stored
    (c.in-Ok-store.ensures.load_cause.stays (λ e. cc))
    (c.in-Ok-store.ensures.cause.stays (λ e. cc))
    c.as_slice-in-Ok-store.ensures c.in-Ok-summary.ensures c.in-Ok-put.ensures.ok
    c.in-Ok-put.ensures.cause.stays
