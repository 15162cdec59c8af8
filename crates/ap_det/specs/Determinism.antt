use Rattle.std.specs.Prelude.{◌≡◌}
use Rattle.ap_fst.specs.Lists.{IsIn}
use Rattle.ap_fst.specs.Machines.{Machine}
use Rattle.ap_fst.specs.declared.label.Edge.{Edge}

-- At most one edge with a label leaves a state.
pub record IsDeterministic (m : Machine) : Type 0 where
  pub one : (d e : Edge) → IsIn d m.edges → IsIn e m.edges → d.from ≡ e.from →
      d.label ≡ e.label → d ≡ e
