use Rattle.std.proofs.Common.{List, subst, sym}
use Rattle.ap_fst.specs.Lists.{IsIn}
use Rattle.ap_fst.specs.declared.label.Edge.{Edge}
use Rattle.ap_live.proofs.readable.section_is_coded.Goals as goal

pub returns : goal.returns
returns c = λ e i. c.sides_are_coded.ensures e
    (subst (λ (z : List Edge). IsIn e z) (sym c.edges.ensures.value) i)
