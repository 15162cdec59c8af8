-- A pipe seen as data: the bytes in it, and the most that it may hold.
use Rattle.std.specs.Prelude.{ℕ, List}

pub record Piped : Type 0 where
  pub bytes : List ℕ
  pub room : ℕ
