-- Of the inside: no public contract stands on this file.
-- What is sought in a word, as a test.
use Rattle.std.specs.Prelude.{Bool}
use Rattle.ap_symbol.specs.Kinds.{is_tag, is_queue, is_joint}
use Rattle.ap_symbol.specs.declared.symbol.Symbol.{Symbol}
use Rattle.ap_passes.specs.declared.places.Sought.{Sought}
use Rattle.ap_passes.specs.declared.places.Sought.TheVariants as sought
use Rattle.ap_passes.specs.Marks.{is_end}

abbrev pub test_of : Sought → Symbol → Bool
test_of sought.Tag = is_tag
test_of sought.Queue = is_queue
test_of sought.PartEnd = is_end
test_of sought.Joint = is_joint
