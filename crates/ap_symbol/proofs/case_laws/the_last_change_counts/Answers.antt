use Rattle.ap_symbol.proofs.Partners.{lower_is_not_upper}
use Rattle.ap_symbol.proofs.CaseLaws.{settles, comes_back}
use Rattle.ap_symbol.proofs.case_laws.the_last_change_counts.Goals as goal

pub returns : goal.returns
returns c = record { settles = settles; never_upper = lower_is_not_upper; comes_back = comes_back }
