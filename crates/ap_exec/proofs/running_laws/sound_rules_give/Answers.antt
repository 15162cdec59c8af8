use Rattle.ap_exec.proofs.RunningGives.{sound_rules_give}
use Rattle.ap_exec.proofs.running_laws.sound_rules_give.Goals as goal

pub returns : goal.returns
returns c = sound_rules_give
