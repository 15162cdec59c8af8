use Rattle.std.proofs.Common.{ℕ, List, subst}
use Rattle.std.specs.Prelude.{◌↔◌}
use Rattle.std.proofs.lemmas.Option.{IfSome_then}
use Rattle.ap_fst.specs.Lists.{IsIn}
use Rattle.ap_live.proofs.Reached.{row_states}
use Rattle.ap_live.proofs.RowLaws.{last_read}
use Rattle.ap_live.proofs.live_rows.LiveRows.states.Goals as goal

pub returns : goal.returns
returns c = IfSome_then c.states_of.result c.states_of.ensures (λ states members m seen are.
    row_states m.edges seen c.in-Some.last.now states.items
    (last_read m.edges seen c.args.self.now c.self.inside.rows.items c.deref.result.now
    c.in-Some.last.now are.rows_are c.self.view_is c.deref.ensures.value c.in-Some.ensures.value)
    (λ s. subst (λ (z : List ℕ). IsIn s states.items ↔ IsIn s z) c.states.ensures (members s)))
