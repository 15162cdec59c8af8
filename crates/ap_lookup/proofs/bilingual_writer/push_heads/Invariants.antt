use Rattle.std.proofs.Common.{◌≡◌, ◌++◌, take, map}
use Rattle.std.specs.List.{flat_map}
use Rattle.ap_stream.specs.Spelling.{slashed}
use Rattle.ap_lookup.proofs.bilingual_writer.push_heads.Given as goal

abbrev pub invariant-loop-head : goal.invariant-loop-head
invariant-loop-head l = l.text ≡ l.fn.text
    ++ flat_map slashed (map (λ h. h ++ l.rest) (take l.head-index l.heads))
