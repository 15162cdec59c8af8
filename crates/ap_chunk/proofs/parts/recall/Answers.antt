use Rattle.std.proofs.Common.{◌∙◌, ap, ◌++◌, Bool, List}
use Rattle.ap_chunk.proofs.parts.recall.Goals as goal

pub returns-in_ok-extend_from_slice-in-Some : goal.returns-in_ok-extend_from_slice-in-Some
returns-in_ok-extend_from_slice-in-Some c = λ given kept _ word proper e.
    c.in_ok-extend_from_slice-in-Some.ensures.items
    ∙ ap (λ (z : List Bool). z ++ c.in-Some.kept.now) c.clear.ensures.items
    ∙ c.in-Some.ensures given kept word proper e
