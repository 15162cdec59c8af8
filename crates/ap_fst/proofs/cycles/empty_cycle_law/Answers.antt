use Rattle.ap_fst.proofs.CycleLaws.{empty_cycle_runs, short_walks}
use Rattle.ap_fst.proofs.cycles.empty_cycle_law.Goals as goal

pub returns-clause-runs : goal.returns-clause-runs
returns-clause-runs c = empty_cycle_runs

pub returns-clause-walks : goal.returns-clause-walks
returns-clause-walks c = short_walks
