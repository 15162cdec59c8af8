use Rattle.std.proofs.Common.{◌∙◌, ap, ◌++◌, Bool, List}
use Rattle.ap_chunk.proofs.parts.recall_first.Goals as goal

pub returns-in_ok-extend_from_slice-in-Some : goal.returns-in_ok-extend_from_slice-in-Some
returns-in_ok-extend_from_slice-in-Some c = λ given all _.
    c.in_ok-extend_from_slice-in-Some.ensures.items
    ∙ ap (λ (z : List Bool). z ++ c.as_slice.result.now) c.clear.ensures.items
    ∙ c.as_slice.ensures.value ∙ c.in-Some.ensures.rowed given all
