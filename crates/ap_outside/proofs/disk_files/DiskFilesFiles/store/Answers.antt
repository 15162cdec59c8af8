use Rattle.ap_outside.proofs.Counts.{spares_loads}
use Rattle.ap_outside.proofs.disk_files.DiskFilesFiles.store.Goals as goal

pub returns-clause-cause : goal.returns-clause-cause
returns-clause-cause g c = c.store_whole.ensures.cause

pub returns-clause-load_cause : goal.returns-clause-load_cause
returns-clause-load_cause g c = spares_loads _ _ _ c.store_whole.ensures.cause
