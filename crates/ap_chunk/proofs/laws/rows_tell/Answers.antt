use Rattle.ap_chunk.proofs.RowLaws.{rows_tell, units_tell}
use Rattle.ap_chunk.proofs.laws.rows_tell.Goals as goal

pub returns-clause-row : goal.returns-clause-row
returns-clause-row c = rows_tell

pub returns-clause-unit : goal.returns-clause-unit
returns-clause-unit c = units_tell
