use Rattle.std.proofs.Common.{rules, ap, Some}
use Rattle.ap_outside.specs.Held.{content_of}
use Rattle.ap_outside.proofs.Places.{held_stays, spares_same, not_failed}
use Rattle.ap_outside.proofs.mem_files.MemFilesFiles.store.Goals as goal

pub returns-then-contains-clause-failed : goal.returns-then-contains-clause-failed
returns-then-contains-clause-failed c _ = (
  content_of c.args.self.now.files.items c.args.name.now,
  ap Some (held_stays (content_of c.args.self.now.files.items) c.args.name.now),
)

pub returns-in-Ok-clause-load_cause : goal.returns-in-Ok-clause-load_cause
returns-in-Ok-clause-load_cause c = spares_same _ _ _ c.add.ensures.load_faults

pub returns-in-Err-clause-load_cause : goal.returns-in-Err-clause-load_cause
returns-in-Err-clause-load_cause c = spares_same _ _ _ c.add.ensures.load_faults

pub returns-in-Ok-clause-listed : goal.returns-in-Ok-clause-listed
returns-in-Ok-clause-listed c = not_failed _ (search rules) (λ h. cc)

pub returns-in-Err-clause-listed : goal.returns-in-Err-clause-listed
returns-in-Err-clause-listed c = not_failed _ (search rules) (λ h. cc)
