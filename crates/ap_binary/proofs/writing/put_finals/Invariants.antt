use Rattle.std.proofs.Common.{◌≡◌, ◌++◌, take}
use Rattle.std.specs.List.{flat_map}
use Rattle.ap_binary.specs.Text.{final_text}
use Rattle.ap_binary.proofs.writing.put_finals.Given as goal

abbrev pub invariant-finals : goal.invariant-finals
invariant-finals l = l.into ≡ l.fn.into ++ flat_map final_text (take l.state-index l.finals)
