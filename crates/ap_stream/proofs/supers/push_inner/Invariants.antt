use Rattle.std.proofs.Common.{◌≡◌, ◌++◌, take}
use Rattle.std.specs.List.{flat_map}
use Rattle.ap_stream.specs.Supers.{inner_supers}
use Rattle.ap_stream.proofs.supers.push_inner.Given as goal

abbrev pub invariant-loop-part : goal.invariant-loop-part
invariant-loop-part l = l.into ≡ l.initial.into
    ++ flat_map (λ x. x) (flat_map inner_supers (take l.part-index l.parts))
