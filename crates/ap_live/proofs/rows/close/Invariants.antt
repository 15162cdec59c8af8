use Rattle.std.proofs.Common.{take, ◌≤◌, length, ℕ, None, nat_eq}
use Rattle.std.specs.List.{IsDistinct}
use Rattle.ap_fst.specs.Lists.{IsIn}
use Rattle.ap_live.specs.Outlines.{IsOutline}
use Rattle.ap_live.specs.Spreads.{Spread, From}
use Rattle.ap_live.proofs.rows.close.Given as goal

abbrev pub invariant-loop-at : goal.invariant-loop-at
invariant-loop-at l = IsOutline l.fst.edges l.outline → record {
  in_range : l.at ≤ length l.states.items;
  spread : Spread l.fst.edges None (take l.at l.states.items) l.initial.states.items
      l.initial.links.items l.states.items l.links.items;
  sound : (s : ℕ) → IsIn s l.states.items → From l.fst.edges l.initial.states.items s;
  distinct : IsDistinct nat_eq l.states.items;
}
