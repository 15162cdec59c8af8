use Rattle.ap_outside.proofs.Counts.{loads_cause}
use Rattle.ap_outside.proofs.disk_files.DiskFilesFiles.load.Goals as goal

pub returns-clause-cause : goal.returns-clause-cause
returns-clause-cause g c =
    loads_cause _ _ _ _ c.load_whole.ensures.cause c.load_whole.ensures.raised

pub returns-clause-store_cause : goal.returns-clause-store_cause
returns-clause-store_cause g c = c.load_whole.ensures.cause
