use Rattle.ap_exec.proofs.Borderless.{borders_do_not_matter}
use Rattle.ap_exec.proofs.border_laws.borders_do_not_matter.Goals as goal

pub returns : goal.returns
returns c = borders_do_not_matter
