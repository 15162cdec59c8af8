use Rattle.ap_lookup.proofs.Exactly.{greatest_taken, alarm_left}
use Rattle.ap_lookup.proofs.laws.greatest_match_is_taken.Goals as goal

pub returns-clause-taken : goal.returns-clause-taken
returns-clause-taken c = greatest_taken c.one_rendering.ensures

pub returns-clause-none : goal.returns-clause-none
returns-clause-none c = alarm_left c.one_rendering.ensures
