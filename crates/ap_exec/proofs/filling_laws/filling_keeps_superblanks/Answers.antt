use Rattle.ap_exec.proofs.FillKeeps.{fill_keeps}
use Rattle.ap_exec.proofs.FillSpells.{fill_spells}
use Rattle.ap_exec.proofs.filling_laws.filling_keeps_superblanks.Goals as goal

pub returns-clause-spells : goal.returns-clause-spells
returns-clause-spells c = fill_spells

pub returns-clause-keeps : goal.returns-clause-keeps
returns-clause-keeps c = fill_keeps
