use Rattle.ap_analysis.proofs.SuperblanksKept.{analysis_read}
use Rattle.ap_analysis.proofs.laws.analysis_is_read.Goals as goal

pub returns : goal.returns
returns c = analysis_read
