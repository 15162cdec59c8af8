use Rattle.ap_analysis.proofs.SuperblanksKept.{analysis_keeps}
use Rattle.ap_analysis.proofs.laws.analysis_keeps_superblanks.Goals as goal

pub returns : goal.returns
returns c = analysis_keeps
