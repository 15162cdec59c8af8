use Rattle.std.specs.Prelude.{◌≡◌, ◌≢◌, ℕ, ◌<◌, List, Some, IsTrue}
use Rattle.ap_fst.specs.Lists.{IsIn}
use Rattle.ap_fst.specs.Sides.{has_side}
use Rattle.ap_fst.specs.declared.draft.Move.{Move}
use Rattle.ap_fst.specs.declared.label.Label.{Label}

-- what is seen of a draft
pub record Sketch : Type 0 where
  pub states : ℕ
  pub start : ℕ
  pub finish : ℕ
  pub moves : List Move

-- a move between these states, that does not enter the start or leave the end
pub record IsWithin (states start finish : ℕ) (m : Move) : Type 0 where
  pub from_in : m.from < states
  pub to_in : m.to < states
  pub leaves : m.from ≢ finish
  pub enters : m.to ≢ start

pub record IsSketch (s : Sketch) : Type 0 where
  pub start_in : s.start < s.states
  pub finish_in : s.finish < s.states
  pub apart : s.start ≢ s.finish
  pub each : (m : Move) → IsIn m s.moves → IsWithin s.states s.start s.finish m
  pub sided : (m : Move) (l : Label) → IsIn m s.moves → m.label ≡ Some l → IsTrue (has_side l)
