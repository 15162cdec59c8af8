use Rattle.std.proofs.Common.{refl, subst, sym, Bool, ◌-◌, length}
use Rattle.std.specs.Prelude.{◌↔◌, IsTrue, ℕ}
use Rattle.ap_fst.specs.Lists.{IsIn}
use Rattle.ap_live.proofs.RowLaws.{final_law, last_read}
use Rattle.ap_live.proofs.held.ends_finally.Goals as goal

pub returns-in-Some : goal.returns-in-Some
returns-in-Some c = λ m seen live told. final_law m seen c.in-Some.last.now c.ends.result
    (last_read m.edges seen c.args.rows.now c.args.rows.now c.args.rows.now c.in-Some.last.now live
    refl refl c.in-Some.ensures.value)
    (subst (λ (z : Bool). IsTrue z
    ↔ ((s : ℕ) × (IsIn s c.in-Some.last.now.states.items × IsIn s m.finals)))
    (sym c.ends.ensures) (told (length c.args.rows.now - 1) c.in-Some.last.now
    (sym c.in-Some.ensures.value)))
