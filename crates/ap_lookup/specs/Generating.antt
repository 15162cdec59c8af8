-- What is seen of a writer of forms: its dictionary, its marks, and whether case counts.
use Rattle.std.specs.Prelude.{Bool}
use Rattle.ap_fst.specs.Sections.{Parts}
use Rattle.ap_lookup.specs.declared.generation_writer.Marks.{Marks}

pub record Generating : Type 0 where
  pub compiled : Parts
  pub marks : Marks
  pub sensitive : Bool
