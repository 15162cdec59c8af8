use Rattle.std.proofs.Common.{ℕ, subst, List}
use Rattle.std.specs.Prelude.{◌↔◌}
use Rattle.ap_fst.specs.Lists.{IsIn}
use Rattle.ap_live.proofs.states.states_of.Goals as goal

pub returns : goal.returns
returns c = λ s. subst (λ (z : List ℕ). IsIn s c.sort_states.new.states.items ↔ IsIn s z)
    c.in-Ok.ensures.items (c.sort_states.ensures.members s)
