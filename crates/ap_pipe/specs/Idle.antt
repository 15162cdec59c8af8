-- Stages that wait for more to come in.
use Rattle.std.specs.Prelude.{ℕ, ◌+◌, ◌<◌, List, [], ◌∷◌, length, map, Bool, true, false, cond, eqb, ◌≡◌, ◌⊎◌}
use Rattle.ap_stream.specs.Told.{Ending}
use Rattle.ap_stream.specs.declared.stage.Stage.{Ghosts}
use Rattle.ap_pipe.specs.declared.station.State.TheVariants.{Open}
use Rattle.ap_pipe.specs.declared.station.Station.{Station}
use Rattle.ap_pipe.specs.Row.{is_stopped, row_rest, meaning}
use Rattle.ap_pipe.specs.Turn.{waits}
use Rattle.ap_pipe.specs.Bytes.{bytes_in}

-- a stage goes on, has nothing pending, and no byte is in its pipes
abbrev pub idle : {S : Type 0} → Ghosts S → Station S → Bool
idle stage s = cond (waits stage s)
    (cond (eqb (length s.input.bytes) 0) (eqb (length s.output.bytes) 0) false) false

abbrev pub all_idle : {S : Type 0} → Ghosts S → List (Station S) → Bool
all_idle stage [] = true
all_idle stage (s ∷ ss) = cond (idle stage s) (all_idle stage ss) false

-- Something goes on though nothing more comes in: a stage has bytes pending, a byte is in a pipe,
-- or a stage is over or has answered a fault, so that those behind it can end.
abbrev pub CanGoOn : {S : Type 0} → Ghosts S → List (Station S) → Type 0
CanGoOn stage [] = ⊥
CanGoOn stage (s ∷ ss) = (0 < length (stage.pending s.stage)) ⊎ (0 < length s.input.bytes)
    ⊎ (0 < length s.output.bytes) ⊎ (is_stopped s.state ≡ true) ⊎ CanGoOn stage ss

-- a stage waits for more to come in
pub record Waits {S : Type 0} (stage : Ghosts S) (s : Station S) : Type 0 where
  pub goes : s.state ≡ Open
  pub pending : stage.pending s.stage ≡ []
  pub input : s.input.bytes ≡ []
  pub output : s.output.bytes ≡ []

abbrev pub AllWait : {S : Type 0} → Ghosts S → List (Station S) → Type 0
AllWait stage [] = Unit {0}
AllWait stage (s ∷ ss) = Waits stage s × AllWait stage ss

-- the bytes that the stages of a row have taken and not answered
abbrev pub held_in : {S : Type 0} → Ghosts S → List (Station S) → ℕ
held_in stage [] = 0
held_in stage (s ∷ ss) = stage.held s.stage + held_in stage ss

-- All that came in was answered, as far as the stages could: each waits for more to come in, so
-- that the row holds what its stages have taken and not answered, and no other byte, and what is
-- still to come is what the stages by themselves are to give.
pub record Answered {S : Type 0} (stage : Ghosts S) (ss : List (Station S)) : Type 0 where
  pub each : AllWait stage ss
  pub bytes : bytes_in stage ss ≡ held_in stage ss
  pub to_come : (n : ℕ) (x : List ℕ) (e : Ending) → row_rest stage n ss x e
      ≡ meaning n (map (λ s. stage.rest s.stage) ss) x e
