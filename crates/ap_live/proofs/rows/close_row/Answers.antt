use Rattle.std.proofs.Common.{subst, List, ℕ}
use Rattle.std.specs.Prelude.{◌↔◌, IsTrue}
use Rattle.ap_fst.specs.Lists.{IsIn}
use Rattle.ap_live.proofs.Spreading.{closed_sorted}
use Rattle.ap_live.proofs.rows.close_row.Goals as goal

pub returns-clause-closed : goal.returns-clause-closed
returns-clause-closed c =
    λ is. closed_sorted c.args.fst.now.edges c.args.row.now.states.items c.clear.new.self.items
    c.close.new.states.items c.close.new.links.items c.sort_arrivals.new.arrivals.items
    c.clear.ensures.items c.sort_arrivals.ensures.members (c.in_ok-close.ensures is)

pub returns-clause-order : goal.returns-clause-order
returns-clause-order c = record { taken = c.requires.order; silent = c.sort_arrivals.ensures.order }

pub returns-clause-told : goal.returns-clause-told
returns-clause-told c = subst (λ (z : List ℕ). IsTrue c.holds_final-row.result
    ↔ ((s : ℕ) × (IsIn s z × IsIn s c.args.fst.now.finals))) c.as_slice.ensures.value
    c.holds_final-row.ensures
