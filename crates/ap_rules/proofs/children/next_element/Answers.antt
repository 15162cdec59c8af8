use Rattle.std.proofs.Common.{sym, ◌∙◌}
use Rattle.ap_rules.proofs.ChildSteps.{no_part}
use Rattle.ap_rules.proofs.children.next_element.Goals as goal

pub returns-clause-first : goal.returns-clause-first
returns-clause-first c = sym c.rest.invariant.same
    ∙ no_part c.rest.rest.now c.in_default.ensures.variant.1
