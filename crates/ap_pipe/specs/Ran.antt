-- Of the inside: no public contract stands on this file.
-- A row in which stages had turns and bytes went on.
use Rattle.std.specs.Prelude.{List, Bool}
use Rattle.ap_stream.specs.declared.stage.Stage.{Ghosts}
use Rattle.ap_pipe.specs.declared.station.Station.{Station}
use Rattle.ap_pipe.specs.Row.{AllSound, SameRow}
use Rattle.ap_pipe.specs.Ranking.{LowerIf, ranking}

-- the same is still to come, and where something went the ranking fell
pub record Ran {S : Type 0} (stage : Ghosts S) (closed : Bool) (old new : List (Station S))
    (went : Bool) : Type 0 where
  pub sound : AllSound stage closed new
  pub same : SameRow stage closed old new
  pub order : LowerIf went (ranking stage new) (ranking stage old)
