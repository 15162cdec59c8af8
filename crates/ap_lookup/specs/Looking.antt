-- What is seen of a translator: its dictionary, and whether case counts.
use Rattle.std.specs.Prelude.{Bool}
use Rattle.ap_fst.specs.Sections.{Parts}

pub record Looking : Type 0 where
  pub compiled : Parts
  pub sensitive : Bool
