-- A stage seen as data: its handler, its dialect, the bytes of the item that its reader has begun,
-- the place of the first, what it has pending, whether its input has ended, and the fault that it
-- has answered.
use Rattle.std.specs.Prelude.{ℕ, List, Option, Bool}
use Rattle.ap_stream.specs.Types.{Dialect, StreamFault}

pub record Seat (H : Type 0) : Type 0 where
  pub handler : H
  pub dialect : Dialect
  pub begun : List ℕ
  pub place : ℕ
  pub pending : List ℕ
  pub ended : Bool
  pub fault : Option StreamFault
