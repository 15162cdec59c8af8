use Rattle.ap_stream.proofs.Scan.{scan_finds}
use Rattle.ap_stream.proofs.laws.superblanks_are_scanned.Goals as goal

pub returns : goal.returns
returns c = scan_finds
