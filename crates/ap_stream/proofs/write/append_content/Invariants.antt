use Rattle.std.proofs.Common.{◌≡◌, ◌++◌, take}
use Rattle.std.specs.List.{flat_map}
use Rattle.ap_stream.specs.Spelling.{inner_bytes}
use Rattle.ap_stream.proofs.write.append_content.Given as goal

abbrev pub invariant-loop-part : goal.invariant-loop-part
invariant-loop-part l = l.text ≡ l.fn.text ++ flat_map inner_bytes (take l.part-index l.parts)
